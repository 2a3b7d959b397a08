-- One line at a stand: the text tells which line it is and which stand is behind it, and the checks tell its
-- one fault. Sections whose words differ are told apart by their words; a count and an entry are not expected
-- at one stand. Assumes that the words of a form are plain and differ.
--     Differs         no section of a list has this word
--     Told            the words of sections are plain and differ: what an instance has to show
--     next_unique     two lines at one stand in front of one text are one line
--     fault_unique    a line has one first fault; pass_or_fault it does not pass then
--     next_written    the contents behind a line are written as those before it, with the line; next_counted
--                     they have one line more
use mathlib.Core.Path.{◌≡◌, refl, sym, ◌∙◌}
use mathlib.Core.List.{List, [], ◌∷◌, ◌++◌, append_assoc, append-nil}
use Prim.Native.Nat.{ℕ, suc, ◌+◌, ◌≤◌}
use native.Mathlib.Omega.{arith}
use lib.ListN.{length, length-append}
use Rattle.hall.proofs.Stages.{not_clear, first_unique}
use Rattle.hall.proofs.Places.{place_first}
use Rattle.form.specs.Lines.{entry_line, entry_lines, count_line}
use Rattle.form.specs.Sections.{Section, Form, Content, content, numbers_in}
use Rattle.form.specs.Entries.{checks_of}
use Rattle.form.specs.Contents.{Picks, first, past, written, line_count}
use Rattle.form.specs.Stands.{Stand, start, within, contents, behind, NextLine, count, entry, PassesAt}
use Rattle.form.specs.Stands.{Faulty}
use Rattle.form.proofs.Cuts.{Plain}
use Rattle.form.proofs.LineForms.{count_unique, entry_unique, count_some, entry_some}

-- ---- which section it is

abbrev pub Differs : (word : List ℕ) → Form → Type 0
Differs w [] = Unit
Differs w (s ∷ left) = ¬ (w ≡ s.word) × Differs w left

abbrev pub Told : Form → Type 0
Told [] = Unit
Told (s ∷ left) = Plain s.word × Differs s.word left × Told left

picks_differs : {more left : Form} {s : Section} (w : List ℕ) → Picks more s left → Differs w more
    → ¬ (w ≡ s.word)
picks_differs w (first s left) d = d.0
picks_differs w (past o s more left h p) d = picks_differs w p d.1

pub picks_plain : {more left : Form} {s : Section} → Picks more s left → Told more → Plain s.word
picks_plain (first s left) t = t.0
picks_plain (past o s more left h p) t = picks_plain p t.2

pub picks_told : {more left : Form} {s : Section} → Picks more s left → Told more → Told left
picks_told (first s left) t = t.2
picks_told (past o s more left h p) t = picks_told p t.2

picks_unique : {more left left' : Form} {s s' : Section} → Picks more s left → Picks more s' left'
    → Told more → s.word ≡ s'.word
    → (s ≡ s') × (left ≡ left')
picks_unique (first s left) (first _ _) t e = (refl, refl)
picks_unique (first s left) (past _ s' _ left' h p) t e = absurd (picks_differs s.word p t.1 e)
picks_unique (past o s more left h p) (first _ _) t e = absurd (picks_differs o.word p t.1 (sym e))
picks_unique (past o s more left h p) (past _ s' _ left' k q) t e = picks_unique p q t.2 e

-- ---- which line it is

module _ (F : Form) where
  pub next_told : {st to : Stand} {line : List ℕ} → NextLine F st line to → Told (behind F st)
      → Told (behind F to)
  next_told (count st s n left w p h) t = picks_told p t
  next_told (entry read s n es left e lt sz sm) t = t

  pub next_some : {st to : Stand} {line : List ℕ} → NextLine F st line to → 1 ≤ length line
  next_some (count st s n left w p h) = count_some s.word n
  next_some (entry read s n es left e lt sz sm) = entry_some e

  pub next_unique : {st a b : Stand} {l m : List ℕ} (r q : List ℕ) → Told (behind F st) → NextLine F st l a
      → NextLine F st m b → l ++ r ≡ m ++ q
      → (a ≡ b) × (r ≡ q)
  next_unique r q t (count st s n left w p h) (count _ s' n' left' w' p' h') e =
      let u = count_unique s.word s'.word n n' r q (picks_plain p t) (picks_plain p' t) e in
      let v = picks_unique p p' t u.0 in
      let x = v.0 in
      let y = v.1 in
      let z = u.1 in
      ((λ i. within (contents st) (x i) (z i) [] (y i)), u.2)
  next_unique r q t (count _ s n left w p h) (entry read s' n' es left' e lt sz sm) k =
      absurd (let x : ⊥ = omega arith in x)
  next_unique r q t (entry read s n es left e lt sz sm) (count _ s' n' left' w' p' h') k =
      absurd (let x : ⊥ = omega arith in x)
  next_unique r q t (entry read s n es left e lt sz sm) (entry _ _ _ _ _ e' lt' sz' sm') k =
      let u = entry_unique e e' r q (sz ∙ sym sz') k in
      let x = u.0 in
      ((λ i. within read s n (es ++ (x i ∷ [])) left), u.1)

-- ---- which fault it has

pub pass_or_fault : (to : Stand) (f : ℕ) → PassesAt to → Faulty to f → ⊥
pass_or_fault start f p x = x
pass_or_fault (within read s n [] left) f p x = x.1 p
pass_or_fault (within read s n (e ∷ es) left) f p x =
    not_clear (checks_of s.entry read (numbers_in (e ∷ es))) f (length es) x p

pub fault_unique : (to : Stand) {f g : ℕ} → Faulty to f → Faulty to g → f ≡ g
fault_unique start x y = absurd x
fault_unique (within read s n [] left) x y = x.0 ∙ sym y.0
fault_unique (within read s n (e ∷ es) left) {f} {g} x y =
    let checks = checks_of s.entry read (numbers_in (e ∷ es)) in
    (first_unique (place_first checks f (length es) x) (place_first checks g (length es) y)).0

-- ---- what is written

pub written_append : (a b : List Content) → written (a ++ b) ≡ written a ++ written b
unfolding written
written_append [] b = refl
written_append (c ∷ a) b =
    rw (written_append a b)
    (sym (append_assoc (count_line c.word c.count ++ entry_lines c.entries) (written a) (written b)))

pub lines_append : (a b : List Content) → line_count (a ++ b) ≡ line_count a + line_count b
unfolding line_count
lines_append [] b = omega arith
lines_append (c ∷ a) b = omega (arith, lines_append a b)

pub entries_append : (a b : List (List ℕ)) → entry_lines (a ++ b) ≡ entry_lines a ++ entry_lines b
unfolding entry_lines
entries_append [] b = refl
entries_append (e ∷ a) b =
    rw (entries_append a b) (sym (append_assoc (entry_line e) (entry_lines a) (entry_lines b)))

module _ (F : Form) where
  pub next_written : {st to : Stand} {line : List ℕ} → NextLine F st line to
      → written (contents to) ≡ written (contents st) ++ line
  unfolding written entry_lines
  next_written (count st s n left w p h) =
      rw (written_append (contents st) (content s.word n [] ∷ [])) (simp append-nil)
  next_written (entry read s n es left e lt sz sm) =
      simp (written_append, entries_append, append-nil, append_assoc)

  pub next_counted : {st to : Stand} {line : List ℕ} → NextLine F st line to
      → line_count (contents to) ≡ suc (line_count (contents st))
  unfolding line_count
  next_counted (count st s n left w p h) =
      omega (arith, lines_append (contents st) (content s.word n [] ∷ []))
  next_counted (entry read s n es left e lt sz sm) =
      omega (
        arith,
        lines_append read (content s.word n (es ++ (e ∷ [])) ∷ []),
        lines_append read
            (content s.word n es ∷ []),
        length-append es (e ∷ []),
      )

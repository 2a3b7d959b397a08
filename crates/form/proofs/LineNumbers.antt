-- The number of a line is that of the line feeds above it, plus 1: a word and a number have none, and each
-- line has one, at its end. So the line at which a text is refused is a line of the text, or the one that
-- would come next. Assumes that the words of the sections are plain and differ (`Told`).
--     Lined            contents have plain words, so that each line has one line feed
--     lined_append     two of them, one behind the other
--     written_feeds    as many line feeds as lines; written_whole the last byte is one
--     line_is          behind written contents comes the line that follows theirs
--     refused_line     so where a text is refused
use mathlib.Core.Path.{◌≡◌, refl, sym, ◌∙◌, ap}
use mathlib.Core.List.{List, [], ◌∷◌, ◌++◌, append-nil}
use Prim.Native.Nat.{ℕ, suc, ◌+◌, ◌≤◌}
use native.Mathlib.Omega.{arith}
use borrow.Author.Tests.{ne_eqb}
use lib.ListN.{length}
use Rattle.put.specs.Digits.{digits}
use Rattle.form.specs.Lines.{further, entry_line, count_line, entry_lines}
use Rattle.form.specs.Lines.{feeds, WholeLines, LineIs}
use Rattle.form.specs.Sections.{Form, Content, content}
use Rattle.form.specs.Contents.{written, line_count}
use Rattle.form.specs.Stands.{Stand, contents, Fine, nothing, onward, count, entry}
use Rattle.form.specs.Texts.{Refused}
use Rattle.form.proofs.Cuts.{Plain, digits_plain}
use Rattle.form.proofs.Steps.{Told, picks_plain}
use Rattle.form.proofs.Runs.{fine_told}

-- ---- line feeds

pub feeds_append : (a b : List ℕ) → feeds (a ++ b) ≡ feeds a + feeds b
unfolding feeds
feeds_append [] b = omega arith
feeds_append (x ∷ a) b = omega (arith, feeds_append a b)

plain_feeds : (w : List ℕ) → Plain w → feeds w ≡ 0
unfolding feeds
plain_feeds [] h = refl
plain_feeds (b ∷ w) h = rw (ne_eqb b 10 (λ e. omega (arith, h.0))) (omega (arith, plain_feeds w h.1))

digits_feeds : (n : ℕ) → feeds (digits n) ≡ 0
digits_feeds n = plain_feeds (digits n) (digits_plain n)

further_feeds : (e : List ℕ) → feeds (further e) ≡ 1
unfolding further feeds
further_feeds [] = refl
further_feeds (b ∷ e) =
    omega (arith, feeds_append (digits b) (further e), digits_feeds b, further_feeds e)

entry_feeds : (e : List ℕ) → feeds (entry_line e) ≡ 1
unfolding entry_line
entry_feeds [] = further_feeds []
entry_feeds (a ∷ e) =
    omega (arith, feeds_append (digits a) (further e), digits_feeds a, further_feeds e)

count_feeds : (w : List ℕ) (n : ℕ) → Plain w → feeds (count_line w n) ≡ 1
unfolding count_line
count_feeds w n p =
    omega (arith, feeds_append w (further (n ∷ [])), plain_feeds w p, further_feeds (n ∷ []))

-- ---- the last byte

pub whole_append : (a b : List ℕ) → WholeLines a → WholeLines b → WholeLines (a ++ b)
whole_append [] b h k = k
whole_append (x ∷ []) [] h k = h
whole_append (x ∷ []) (y ∷ b) h k = k
whole_append (x ∷ y ∷ a) b h k = whole_append (y ∷ a) b h k

whole_behind : (a b : List ℕ) → 1 ≤ length b → WholeLines b → WholeLines (a ++ b)
whole_behind [] b s k = k
whole_behind (x ∷ []) [] s k = absurd (let y : ⊥ = omega arith in y)
whole_behind (x ∷ []) (y ∷ b) s k = k
whole_behind (x ∷ y ∷ a) b s k = whole_behind (y ∷ a) b s k

further_some : (e : List ℕ) → 1 ≤ length (further e)
unfolding further
further_some [] = omega arith
further_some (b ∷ e) = omega arith

further_whole : (e : List ℕ) → WholeLines (further e)
unfolding further
further_whole [] = refl
further_whole (b ∷ e) = whole_behind (32 ∷ digits b) (further e) (further_some e) (further_whole e)

entry_whole : (e : List ℕ) → WholeLines (entry_line e)
unfolding entry_line
entry_whole [] = further_whole []
entry_whole (a ∷ e) = whole_behind (digits a) (further e) (further_some e) (further_whole e)

count_whole : (w : List ℕ) (n : ℕ) → WholeLines (count_line w n)
unfolding count_line
count_whole w n = whole_behind w (further (n ∷ [])) (further_some (n ∷ [])) (further_whole (n ∷ []))

entries_whole : (es : List (List ℕ)) → WholeLines (entry_lines es)
unfolding entry_lines
entries_whole [] = tt
entries_whole (e ∷ es) = whole_append (entry_line e) (entry_lines es) (entry_whole e) (entries_whole es)

pub written_whole : (cs : List Content) → WholeLines (written cs)
unfolding written
written_whole [] = tt
written_whole (c ∷ cs) =
    whole_append (count_line c.word c.count ++ entry_lines c.entries) (written cs)
    (whole_append (count_line c.word c.count) (entry_lines c.entries)
    (count_whole c.word c.count) (entries_whole c.entries))
    (written_whole cs)

-- ---- written contents

abbrev pub Lined : List Content → Type 0
Lined [] = Unit
Lined (c ∷ cs) = Plain c.word × Lined cs

entries_feeds : (es : List (List ℕ)) → feeds (entry_lines es) ≡ length es
unfolding entry_lines feeds
entries_feeds [] = refl
entries_feeds (e ∷ es) =
    omega (arith, feeds_append (entry_line e) (entry_lines es), entry_feeds e, entries_feeds es)

pub written_feeds : (cs : List Content) → Lined cs → feeds (written cs) ≡ line_count cs
unfolding written line_count feeds
written_feeds [] h = refl
written_feeds (c ∷ cs) h =
    let here = count_line c.word c.count in
    let below = entry_lines c.entries in
    omega (
      arith,
      feeds_append (here ++ below) (written cs),
      feeds_append here below,
      count_feeds c.word c.count h.0,
      entries_feeds c.entries,
      written_feeds cs h.1,
    )

pub line_is : (cs : List Content) (line after : List ℕ) → Lined cs
    → LineIs (written cs ++ (line ++ after)) (suc (line_count cs)) line
line_is cs line after h =
    record {
      before = written cs;
      after = after;
      joins = refl;
      whole = written_whole cs;
      counts = omega (arith, written_feeds cs h);
    }

-- ---- where a text is refused

pub lined_append : (a b : List Content) → Lined a → Lined b → Lined (a ++ b)
lined_append [] b h k = k
lined_append (c ∷ a) b h k = (h.0, lined_append a b h.1 k)

lined_split : (a b : List Content) → Lined (a ++ b) → Lined a × Lined b
lined_split [] b h = (tt, h)
lined_split (c ∷ a) b h = let r = lined_split a b h.1 in ((h.0, r.0), r.1)

pub fine_lined : (F : Form) {st : Stand} → Told F → Fine F st → Lined (contents st)
fine_lined F told nothing = tt
fine_lined F told (onward _ _ line h (count st s n left w p small) ok) =
    lined_append (contents st) (content s.word n [] ∷ []) (fine_lined F told h)
    (picks_plain p (fine_told F h told), tt)
fine_lined F told (onward _ _ line h (entry read s n es left e lt sz sm) ok) =
    let r = lined_split read (content s.word n es ∷ []) (fine_lined F told h) in
    lined_append read (content s.word n (es ++ (e ∷ [])) ∷ []) r.0 (r.1.0, tt)

pub refused_line : (F : Form) → Told F → (t : List ℕ) (f l : ℕ) (r : Refused F t f l) → LineIs t l r.rest
refused_line F told t f l r =
    record {
      before = written (contents r.stand);
      after = [];
      joins =
          r.begins
          ∙ ap (λ (x : List ℕ). written (contents r.stand) ++ x) (sym (append-nil r.rest));
      whole = written_whole (contents r.stand);
      counts = omega (arith, r.here, written_feeds (contents r.stand) (fine_lined F told r.fine));
    }

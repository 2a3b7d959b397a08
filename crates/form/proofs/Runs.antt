-- A text has one outcome: the contents of an accepted text are unique, the fault and the line of a refused
-- one are unique, and no text is both. Two runs of fine lines through one text go line by line through the
-- same stands (`next_unique`), and where one halts the other cannot go on. Assumes that the words of the
-- sections are plain and differ (`Told`).
--     Run             so many fine lines lead from a stand in front of a text to the end stand in front of
--                     the rest
--     Halts           at a stand and a rest no fine line follows: the text ends there as it may, or the next
--                     line is faulty
--     run_unique      two runs that halt are one
--     contents_unique     a text is the written form of one contents at most
--     refusal_unique      a text is refused with one fault at one line at most
--     not_both            no text is accepted and refused
use mathlib.Core.Path.{◌≡◌, refl, sym, ◌∙◌, ap, subst}
use mathlib.Core.List.{List, [], ◌++◌, append_assoc, append-nil}
use Prim.Native.Nat.{ℕ, suc}
use native.Mathlib.Omega.{arith}
use lib.ListN.{length, length-append}
use Rattle.form.specs.Sections.{Content, Form}
use Rattle.form.specs.Contents.{written, line_count}
use Rattle.form.specs.Stands.{Stand, start, contents, behind, NextLine, PassesAt, Faulty, Fine, nothing}
use Rattle.form.specs.Stands.{onward, Ends}
use Rattle.form.specs.Texts.{Stops, formless, failing, WrittenForm, Refused}
use Rattle.form.proofs.SoundTexts.{Finished, sound_finished}
use Rattle.form.proofs.Steps.{Told, next_told, next_some, next_unique, pass_or_fault, fault_unique}
use Rattle.form.proofs.Steps.{next_written, next_counted}

pub data Run (F : Form) (end : Stand) (rest : List ℕ) : Stand → List ℕ → ℕ → Type 0 where
  rests : Run F end rest end rest 0
  goes : (st to : Stand) (line t whole : List ℕ) (n : ℕ) → whole ≡ line ++ t → NextLine F st line to → PassesAt to
      → Run F end rest to t n
      → Run F end rest st whole (suc n)

pub data Halts (F : Form) (st : Stand) (rest : List ℕ) : Type 0 where
  ended : Ends F st → rest ≡ [] → Halts F st rest
  stopped : (f : ℕ) → Stops F st rest f → Halts F st rest

pub record Same (a b : Stand) (r q : List ℕ) (m n : ℕ) : Type 0 where
  pub stands : a ≡ b
  pub rests_so : r ≡ q
  pub lines : m ≡ n

module _ (F : Form) where
  -- ---- fine stands are run to

  run_snoc : {from to : Stand} {line rest : List ℕ} {st : Stand} {t : List ℕ} {n : ℕ} → NextLine F from line to → PassesAt to
      → Run F from (line ++ rest) st t n
      → Run F to rest st t (suc n)
  run_snoc {from} {to} {line} {rest} x p rests = goes from to line rest (line ++ rest) 0 refl x p rests
  run_snoc x p (goes st to line t whole n e y q r) = goes st to line t whole (suc n) e y q (run_snoc x p r)

  pub fine_run : {st : Stand} → Fine F st → (rest : List ℕ)
      → Run F st rest start (written (contents st) ++ rest) (line_count (contents st))
  unfolding written line_count
  fine_run nothing rest = rests
  fine_run (onward from to line h x p) rest =
      rw (next_written F x, next_counted F x, append_assoc (written (contents from)) line rest)
      (run_snoc x p (fine_run h (line ++ rest)))

  -- ---- where a run halts, none goes on

  pub no_line : {st to : Stand} {line rest : List ℕ} (t : List ℕ) → NextLine F st line to → rest ≡ []
      → rest ≡ line ++ t → ⊥
  no_line {line = line} t x e q =
      let l = next_some F x in
      let z = ap length (sym e ∙ q) in
      omega (arith, length-append line t)

  module _ {st to : Stand} {line rest : List ℕ} (t : List ℕ) (told : Told (behind F st))
      (x : NextLine F st line to) where
    stop_next : (f : ℕ) → Stops F st rest f → PassesAt to → rest ≡ line ++ t → ⊥
    stop_next f (formless e none no_end) p q = none line to t x q
    stop_next f (failing line' to' t' y e h) p q =
        let s = next_unique F t t' told x y (sym q ∙ e) in
        pass_or_fault to' f (subst PassesAt s.0 p) h

    halt_next : Halts F st rest → PassesAt to → rest ≡ line ++ t → ⊥
    halt_next (ended h e) p q = no_line t x e q
    halt_next (stopped f h) p q = stop_next f h p q

  pub run_unique : {a b : Stand} {r q : List ℕ} {st : Stand} {t : List ℕ} {m n : ℕ} → Told (behind F st) → Run F a r st t m
      → Run F b q st t n
      → Halts F a r → Halts F b q → Same a b r q m n
  run_unique told rests rests h k = record { stands = refl; rests_so = refl; lines = refl }
  run_unique told rests (goes st to line t whole n e x p run) h k = absurd (halt_next t told x h p e)
  run_unique told (goes st to line t whole n e x p run) rests h k = absurd (halt_next t told x k p e)
  run_unique {b = b} {q = q} told (goes st to line t whole m e x p run)
      (goes _ to' line' t' _ n e' x' p' run') h k =
      let s = next_unique F t t' told x x' (sym e ∙ e') in
      let there : Run F b q to t n = rw (s.0, s.1) run' in
      let u = run_unique (next_told F x told) run there h k in
      record { stands = u.stands; rests_so = u.rests_so; lines = ap suc u.lines }

  -- ---- one outcome

  pub fine_told : {st : Stand} → Fine F st → Told F → Told (behind F st)
  fine_told nothing told = told
  fine_told (onward from to line h x p) told = next_told F x (fine_told h told)

  stop_unique : {st : Stand} {rest : List ℕ} {f g : ℕ} → Told (behind F st) → Stops F st rest f
      → Stops F st rest g → f ≡ g
  stop_unique told (formless e none no_end) (formless e' none' no-end') = e ∙ sym e'
  stop_unique told (formless e none no_end) (failing line to t x q h) = absurd (none line to t x q)
  stop_unique told (failing line to t x q h) (formless e none no_end) = absurd (none line to t x q)
  stop_unique {g = g} told (failing line to t x q h) (failing line' to' t' x' q' h') =
      let s = next_unique F t t' told x x' (sym q ∙ q') in
      fault_unique to h (subst (λ (y : Stand). Faulty y g) (sym s.0) h')

  stop_or_end : {st : Stand} {rest : List ℕ} {f : ℕ} → Stops F st rest f → Ends F st → rest ≡ [] → ⊥
  stop_or_end (formless e none no_end) h k = no_end (h, cc)
  stop_or_end (failing line to t x q h) k e = no_line t x e q

  accepted_run : {t : List ℕ} {c : List Content} → WrittenForm F t c → (x : Finished F c)
      → Run F x.stand [] start t (line_count (contents x.stand))
  accepted_run w x = rw (w.writes, x.says, ← append-nil (written (contents x.stand)))
      (fine_run x.fine [])

  refused_run : {t : List ℕ} {f : ℕ} {l : ℕ} (r : Refused F t f l)
      → Run F r.stand r.rest start t (line_count (contents r.stand))
  refused_run r = rw r.begins (fine_run r.fine r.rest)

  module _ (told : Told F) (t : List ℕ) where
    pub contents_unique : (c d : List Content) → WrittenForm F t c → WrittenForm F t d → c ≡ d
    contents_unique c d v w =
        let x = sound_finished F c v.sound in
        let y = sound_finished F d w.sound in
        let s = run_unique told (accepted_run v x) (accepted_run w y) (ended x.ends refl)
        (ended y.ends refl) in
        x.says ∙ ap contents s.stands ∙ sym y.says

    pub refusal_unique : (f g : ℕ) (l m : ℕ) → Refused F t f l → Refused F t g m → (f ≡ g) × (l ≡ m)
    refusal_unique f g l m a b =
        let s = run_unique told (refused_run a) (refused_run b) (stopped f a.stops)
        (stopped g b.stops) in
        let there = subst (λ (x : Stand). Stops F x b.rest g) (sym s.stands) b.stops in
        let here = subst (λ (x : List ℕ). Stops F a.stand x g) (sym s.rests_so) there in (
          stop_unique (fine_told a.fine told) a.stops here,
          omega (arith, a.here, b.here, s.lines),
        )

    pub not_both : (c : List Content) (f : ℕ) (l : ℕ) → WrittenForm F t c → ¬ Refused F t f l
    not_both c f l w r =
        let x = sound_finished F c w.sound in
        let s = run_unique told (accepted_run w x) (refused_run r) (ended x.ends refl)
        (stopped f r.stops) in
        let stops = subst (λ (y : Stand). Stops F y r.rest f) (sym s.stands) r.stops in
        stop_or_end stops x.ends (sym s.rests_so)

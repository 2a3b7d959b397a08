-- Every text is accepted or refused, and has one answer: go on from stand to stand while a fine line follows.
-- Each line has a byte, so the length of the rest goes down. So there is a reading of each text, and it is
-- what WrittenForm and Refused say and nothing else. Assumes, where the answer is to be unique, that the
-- words of the sections are plain and differ (`Told`).
--     one_or_other       a text is the written form of contents without a fault, or it is refused
--     reads_unique       it is one of the two in one way
--     reading            the answer alone
--     reading_exactly    it is what the text says
--     read_back          contents that are written are read as what they were
--     write_back         what is read is written as the text was
--     refusal_numbers    a text is refused with 1 to 5, 7, 12 and 13 only (rule 8.21)
use mathlib.Core.Path.{◌≡◌, refl, sym, ◌∙◌, ap}
use mathlib.Core.Logic.{◌⊎◌, inl, inr, ◌↔◌}
use mathlib.Core.List.{List, [], ◌∷◌, ◌++◌}
use Prim.Native.Nat.{ℕ, zero, suc, ◌≤◌, ◌<◌}
use native.Mathlib.Nat.{le_refl}
use native.Mathlib.Omega.{arith}
use lib.ListN.{length, length-append}
use Rattle.hall.specs.declared.Fault.TheVariants.{Malformed}
use Rattle.hall.specs.Numbers.{number_of}
use Rattle.hall.specs.Said.{Said, accepted, refused}
use Rattle.form.specs.Sections.{Form, Content, numbers_in}
use Rattle.form.specs.Contents.{written}
use Rattle.form.specs.Stands.{Stand, start, within, contents, NextLine, PassesAt, Faulty, Ends}
use Rattle.form.specs.Texts.{Stops, formless, failing, WrittenForm, Refused, Reads}
use Rattle.form.specs.Reached.{Reached}
use Rattle.form.proofs.Cuts.{same?}
use Rattle.form.proofs.Steps.{Told, next_some}
use Rattle.form.proofs.Checks.{TextNumber, check_numbers}
use Rattle.form.proofs.StepTests.{Formed, form?, judged, ends?}
use Rattle.form.proofs.Reached.{at_start, past_line, refused_here, at_end}
use Rattle.form.proofs.Runs.{contents_unique, refusal_unique, not_both}

module _ (F : Form) where
  abbrev Answer : List ℕ → Type 0
  Answer text = (s : Said (List Content)) × Reads F text s

  module _ (text : List ℕ) where
    halting : (st : Stand) (rest : List ℕ) (line : ℕ) → Reached F text st rest line → ¬ Formed F st rest
        → Answer text
    halting st rest line r none = cases (ends? F st) (same? rest [])
      where
        no_line : (l : List ℕ) (to : Stand) (more : List ℕ) → NextLine F st l to → ¬ (rest ≡ l ++ more)
        no_line l to more x b = none (record { line = l; to = to; rest = more; next = x; begins = b })

        cases : Dec (Ends F st) → Dec (rest ≡ []) → Answer text
        cases (yes end) (yes z) = (accepted (contents st), at_end F text r end z)
        cases (yes end) (no z) =
            (refused (number_of Malformed) line, refused_here F text r (formless refl no_line (λ x. z x.1)))
        cases (no end) z = (
          refused (number_of Malformed) line,
          refused_here F text r (formless refl no_line (λ x. end x.0)),
        )

    shorter : (st : Stand) (rest : List ℕ) (x : Formed F st rest) → length x.rest < length rest
    shorter st rest x =
        let l = ap length x.begins ∙ length-append x.line x.rest in
        omega (arith, next_some F x.next)

    going : (n : ℕ) (st : Stand) (rest : List ℕ) (line : ℕ) → length rest ≤ n → Reached F text st rest line
        → Answer text
    going zero st rest line b r =
        halting st rest line r (λ x. let l = shorter st rest x in let y : ⊥ = omega arith in y)
    going (suc n) st rest line b r = formed (form? F st rest) (going n)
      where
        Further : Type 0
        Further = (to : Stand) (more : List ℕ) (line' : ℕ) → length more ≤ n → Reached F text to more line'
            → Answer text

        checked : (x : Formed F st rest) → PassesAt x.to ⊎ ((f : ℕ) × Faulty x.to f) → Further
            → Answer text
        checked x (inl p) on =
            on x.to x.rest (suc line) (omega (arith, shorter st rest x))
            (past_line F text x.rest r x.next x.begins p)
        checked x (inr (f, p)) on = (
          refused f line,
          refused_here F text r (failing x.line x.to x.rest x.next x.begins p),
        )

        formed : Dec (Formed F st rest) → Further → Answer text
        formed (yes x) on = checked x (judged x.to) on
        formed (no x) on = halting st rest line r x

    pub one_or_other : (s : Said (List Content)) × Reads F text s
    one_or_other = going (length text) start text 1 (le_refl (length text)) (at_start F text)

    pub reads_unique : Told F → (a b : Said (List Content)) → Reads F text a → Reads F text b → a ≡ b
    reads_unique told (accepted c) (accepted d) x y = ap accepted (contents_unique F told text c d x y)
    reads_unique told (accepted c) (refused f l) x y = absurd (not_both F told text c f l x y)
    reads_unique told (refused f l) (accepted c) x y = absurd (not_both F told text c f l y x)
    reads_unique told (refused f l) (refused g m) x y =
        let e = refusal_unique F told text f g l m x y in λ i. refused (e.0 i) (e.1 i)

  -- ---- the answer alone

  pub reading : List ℕ → Said (List Content)
  reading text = (one_or_other text).0

  module _ (told : Told F) where
    pub reading_exactly : (text : List ℕ) (s : Said (List Content)) → (reading text ≡ s) ↔ Reads F text s
    unfolding reading
    reading_exactly text s = (
      λ e. rw e at (one_or_other text).1,
      λ x. reads_unique text told (one_or_other text).0 s (one_or_other text).1 x,
    )

    -- contents without a fault, written and read; a text read and written
    pub read_back : (c : List Content) → WrittenForm F (written c) c → reading (written c) ≡ accepted c
    read_back c w = (reading_exactly (written c) (accepted c)).1 w

    pub write_back : (text : List ℕ) (c : List Content) → reading text ≡ accepted c → written c ≡ text
    write_back text c e = sym ((reading_exactly text (accepted c)).0 e).writes

  -- ---- which numbers

  own_number : {f : ℕ} (n : ℕ) → TextNumber n → f ≡ n → TextNumber f
  own_number n is e = rw e is

  fault_numbers : (to : Stand) (f : ℕ) → Faulty to f → TextNumber f
  fault_numbers start f h = absurd h
  fault_numbers (within read s n [] left) f h = own_number 2 (omega arith) h.0
  fault_numbers (within read s n (e ∷ es) left) f h =
      (check_numbers s.entry read (numbers_in (e ∷ es)) f (length es) h).1

  pub refusal_numbers : (text : List ℕ) (f l : ℕ) → Refused F text f l → TextNumber f
  refusal_numbers text f l r = cases r.stops
    where
      cases : {st : Stand} {rest : List ℕ} → Stops F st rest f → TextNumber f
      cases (formless e none no_end) = own_number 1 (omega arith) e
      cases (failing line to more x e h) = fault_numbers to f h

-- A long text is decided by its first bytes: those of the longest accepted text and one more (rule 7.7). An
-- accepted text is no longer than that. The faulty line of a refused one begins within that room and has its
-- form within it, if it has any; where it has none the first bytes have none either, and the one byte more
-- shows that the text does not end there. The other way round follows, since every text has one answer.
-- Assumes that the words of the sections are plain and differ (`Told`).
--     front_reads     the first n bytes of a text say what the text says, if n is above the room of its
--                     sections
use mathlib.Core.Path.{◌≡◌, refl, sym, ◌∙◌, ap}
use mathlib.Core.Logic.{◌↔◌}
use mathlib.Core.List.{List, [], ◌∷◌, ◌++◌, append_assoc}
use Prim.Native.Nat.{ℕ, zero, suc, ◌+◌, ◌-◌, ◌≤◌, ◌<◌}
use native.Mathlib.Omega.{arith}
use lib.ListN.{length, take, drop, take-append-drop}
use lib.Seq.{take_all, take-append-add}
use Rattle.hall.specs.Said.{Said, accepted, refused}
use Rattle.form.specs.Sections.{Form, Content}
use Rattle.form.specs.Contents.{written}
use Rattle.form.specs.Stands.{Stand, contents, NextLine}
use Rattle.form.specs.Texts.{Stops, formless, failing, Refused, Reads}
use Rattle.form.proofs.Cuts.{never_empty}
use Rattle.form.proofs.Steps.{Told}
use Rattle.form.proofs.Reading.{one_or_other, reads_unique}
use Rattle.form.proofs.Lengths.{room, fine_room, line_within, written_within, accepted_room}

front_cut : (n : ℕ) (w r : List ℕ) → length w ≤ n → take n (w ++ r) ≡ w ++ take (n - length w) r
front_cut n w r h =
    let e : n ≡ length w + (n - length w) = omega arith in
    ap (λ (k : ℕ). take k (w ++ r)) e ∙ take-append-add w r (n - length w)

empty_front : (m : ℕ) (r : List ℕ) → 1 ≤ m → take m r ≡ [] → r ≡ []
empty_front zero r h e = absurd (let x : ⊥ = omega arith in x)
empty_front (suc m) [] h e = refl
empty_front (suc m) (b ∷ r) h e = never_empty e

module _ (F : Form) where
  front_stops : {st : Stand} {rest : List ℕ} {f : ℕ} (m : ℕ) → 1 ≤ m
      → ((line : List ℕ) (to : Stand) → NextLine F st line to → length line ≤ m)
      → Stops F st rest f → Stops F st (take m rest) f
  front_stops {rest = rest} m some fits (formless e none no_end) =
      formless e
      (λ line to more x q. none line to (more ++ drop m rest) x
      (sym (take-append-drop m rest) ∙ ap (λ (t : List ℕ). t ++ drop m rest) q
      ∙ append_assoc line more (drop m rest)))
      (λ h. no_end (h.0, empty_front m rest some h.1))
  front_stops m some fits (failing line to more x q h) =
      failing line to (take (m - length line) more) x
      (ap (take m) q ∙ front_cut m line more (fits line to x)) h

  module _ (n : ℕ) (long : room F < n) (t : List ℕ) where
    front_refused : (f l : ℕ) → Refused F t f l → Refused F (take n t) f l
    front_refused f l r =
        let w = written (contents r.stand) in
        let at = fine_room F r.fine in
        let short = written_within F r.stand at in
        record {
          stand = r.stand;
          rest = take (n - length w) r.rest;
          begins = ap (take n) r.begins ∙ front_cut n w r.rest (omega arith);
          fine = r.fine;
          stops =
              front_stops (n - length w) (omega arith)
              (λ line to x. let k = line_within F x at in omega arith) r.stops;
          here = r.here;
        }

    front_says : (s : Said (List Content)) → Reads F t s → Reads F (take n t) s
    front_says (accepted c) w =
        let l = accepted_room F t c w in
        rw (take_all n t (omega arith)) w
    front_says (refused f l) r = front_refused f l r

    pub front_reads : Told F → (s : Said (List Content)) → Reads F (take n t) s ↔ Reads F t s
    front_reads told s = (back, front_says s)
      where
        back : Reads F (take n t) s → Reads F t s
        back x =
            let a = one_or_other F t in
            let e = reads_unique F (take n t) told a.0 s (front_says a.0 a.1) x in
            rw e at a.1

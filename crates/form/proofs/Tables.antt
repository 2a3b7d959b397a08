-- The steps of a reader's loop over the entries of a section, whose numbers go to a table: the numbers of the
-- entries read are the first ones in the table, and what is behind them does not matter (`Collected`). A step
-- asks the checks of the table as it is after the entry was stored, all of it, so that a reader's own checks
-- on its table are what is asked. Assumes that the checks of the section are steady.
--     collected_start      none yet, behind the line of the count
--     filled_entry      one more: its line was read, its numbers were stored, and it passes
--     filled_refused    its line was read, its numbers were stored, and it fails a check
--     checked_entry, checked_refused    the same, by the answer of a function that checks entry k of a table
--     collected_lacking    there is no line of an entry
--     collected_whole      all of them: the next section's turn
--     stores_one, stores_two    how the numbers of an entry are stored
use mathlib.Core.Path.{◌≡◌, refl, sym, ◌∙◌, ap}
use mathlib.Core.List.{List, [], ◌∷◌, ◌++◌, append-nil, append_assoc}
use Prim.Native.Nat.{ℕ, suc, ◌+◌, ◌*◌, ◌<◌}
use native.Mathlib.Nat.{mul-zero}
use native.Mathlib.Omega.{arith}
use lib.ListN.{length, length-append, take, set, length-set}
use lib.Seq.{get_or-take, take-suc-set}
use Rattle.hall.specs.declared.Fault.TheVariants.{Malformed}
use Rattle.hall.specs.Numbers.{number_of}
use Rattle.hall.specs.declared.Refusal.{Refusal}
use Rattle.std.specs.Prelude.{Result, Ok, Err}
use Rattle.hall.specs.Stages.{Stage, ClearAt, FirstAt, only_at, at_each}
use Rattle.hall.specs.Said.{Judged}
use Rattle.hall.proofs.Compose.{refused_first, sound_none}
use Rattle.hall.proofs.Places.{first_only_at, none_only_at}
use Rattle.form.specs.Lines.{Entered}
use Rattle.form.specs.Sections.{Section, Form, Content, due, numbers_in}
use Rattle.form.specs.Entries.{checks_of}
use Rattle.form.specs.Contents.{LineFaulty}
use Rattle.form.specs.Stands.{within, Whole}
use Rattle.form.specs.Texts.{Refused}
use Rattle.form.specs.Reached.{Reached, Collected}
use Rattle.form.proofs.WholeChecks.{Agree, SameAt, same_clear, same_first, each_same, Steady}
use Rattle.form.proofs.WholeChecks.{steady_clear, steady_first, numbers_append, none_line}
use Rattle.form.proofs.Reached.{past_entry, entry_refused, entry_lacking}

-- the number of the first check that holds of the last line of entries, behind the entries before it
first_line : (read : List Content) (s : Section) (n : ℕ) (before : List (List ℕ)) (e : List ℕ) (f : ℕ)
    → FirstAt (checks_of s.entry read (numbers_in (before ++ (e ∷ [])))) f (length before)
    → LineFaulty read s n (before ++ (e ∷ [])) f
first_line read s n [] e f h = h
first_line read s n (b ∷ before) e f h =
    let l : length (before ++ (e ∷ [])) ≡ length (b ∷ before) =
    omega (arith, length-append before (e ∷ [])) in rw l h

module _ (F : Form) (text : List ℕ) (read : List Content) (s : Section) (n : ℕ) (left : Form) where
  pub collected_start : {rest : List ℕ} {line : ℕ} (table : List ℕ)
      → Reached F text (within read s n [] left) rest line
      → Collected F text read s n left 0 table rest line
  unfolding numbers_in
  collected_start table r =
      let none : take (s.size * 0) table ≡ [] = rw (mul-zero s.size) in
      record { es = []; reached = r; counted = refl; stored = sym none }

  module _ {k : ℕ} {table rest : List ℕ} {line : ℕ} (x : Collected F text read s n left k table rest line) where
    pub collected_whole : k ≡ due s n → Whole (within read s n x.es left)
    collected_whole e = x.counted ∙ e

    module _ (inside : k < due s n) where
      below : length x.es < due s n
      below = omega (arith, x.counted)

      pub collected_lacking : ¬ Entered s.size rest → Refused F text (number_of Malformed) line
      collected_lacking none = entry_lacking F text x.reached below none

      -- the entry e was read and stored
      module _ (e : Entered s.size rest) (after : List ℕ)
          (stores : take (s.size * suc k) after ≡ take (s.size * k) table ++ e.e) where
        now_stored : numbers_in (x.es ++ (e.e ∷ [])) ≡ take (s.size * suc k) after
        unfolding numbers_in
        now_stored =
            numbers_append x.es (e.e ∷ [])
            ∙ ap (λ (l : List ℕ). numbers_in x.es ++ l) (append-nil e.e)
            ∙ ap (λ (l : List ℕ). l ++ e.e) x.stored ∙ sym stores

        -- the checks look at the table up to the entry's end only
        module _ (steady : Steady s) where
          agrees : Agree (s.size * suc k) after (take (s.size * suc k) after)
          agrees i l = sym (get_or-take (s.size * suc k) after i 0 l)

          pub filled_entry : ClearAt (checks_of s.entry read after) k
              → Collected F text read s n left (suc k) after e.rest (suc line)
          filled_entry fine =
              let front = steady_clear s steady read after (take (s.size * suc k) after) k agrees fine in
              let here = none_line read s n x.es e.e (rw (now_stored, x.counted) front) in
              record {
                es = x.es ++ (e.e ∷ []);
                reached = past_entry F text x.reached below e here;
                counted = omega (arith, length-append x.es (e.e ∷ []), x.counted);
                stored = now_stored;
              }

          pub filled_refused : (f : ℕ) → FirstAt (checks_of s.entry read after) f k → Refused F text f line
          filled_refused f h =
              let front = steady_first s steady read after (take (s.size * suc k) after) k agrees f h in
              entry_refused F text x.reached below e f
              (first_line read s n x.es e.e f (rw (now_stored, x.counted) front))

          -- a function answers the checks at entry k, of a table with so many entries
          module _ (places : ℕ) (among : k < places) where
            abbrev here : Stage
            here = at_each places (checks_of s.entry read after)

            same : SameAt here (checks_of s.entry read after) k
            same = each_same (checks_of s.entry read after) places k among

            pub checked_entry : {c : Result Unit Refusal} → c ≡ Ok tt → Judged (only_at k here) c
                → Collected F text read s n left (suc k) after e.rest (suc line)
            checked_entry z judged =
                filled_entry (same_clear here (checks_of s.entry read after) k same
                (none_only_at here k (sound_none (only_at k here) z judged)))

            pub checked_refused : {c : Result Unit Refusal} {r : Refusal} → c ≡ Err r
                → Judged (only_at k here) c → Refused F text (number_of r.fault) line
            checked_refused {r = r} z judged =
                filled_refused (number_of r.fault)
                (same_first here (checks_of s.entry read after) (number_of r.fault) k same
                (first_only_at here k (refused_first (only_at k here) z judged)).1)

-- ---- what a reader stores

pub stores_one : (table : List ℕ) (k a : ℕ) → k < length table
    → take (1 * suc k) (set table k a) ≡ take (1 * k) table ++ (a ∷ [])
stores_one table k a h =
    let p : 1 * suc k ≡ suc k = omega arith in
    let q : 1 * k ≡ k = omega arith in
    rw (p, q) (take-suc-set table k a h)

pub stores_two : (table : List ℕ) (k a b : ℕ) → 2 * k + 1 < length table
    → take (2 * suc k) (set (set table (2 * k) a) (2 * k + 1) b) ≡ take (2 * k) table ++ (a ∷ b ∷ [])
stores_two table k a b h =
    let first = set table (2 * k) a in
    let long : 2 * k + 1 < length first = omega (arith, length-set table (2 * k) a) in
    let p : 2 * suc k ≡ suc (2 * k + 1) = omega arith in
    let q : 2 * k + 1 ≡ suc (2 * k) = omega arith in
    ap (λ (i : ℕ). take i (set first (2 * k + 1) b)) p
    ∙ take-suc-set first (2 * k + 1) b long
    ∙ ap (λ (i : ℕ). take i first ++ (b ∷ [])) q
    ∙ ap (λ (l : List ℕ). l ++ (b ∷ [])) (take-suc-set table (2 * k) a (omega arith))
    ∙ append_assoc (take (2 * k) table) (a ∷ []) (b ∷ [])

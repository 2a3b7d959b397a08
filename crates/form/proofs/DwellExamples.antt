-- Texts with a dwell, and what the definitions say of them (rules 7.18 and 8.2): the printed example with one
-- line more is accepted as its job with this dwell; a count that does not fit, a leading zero, a second line
-- and a line in the wrong place are refused with their number at their line.
--     with_line                    a text with the bytes of `DWELL 2` behind it
--     dwell_text, dwell_written    the text of rule 7.14 with `DWELL 2` behind it, and that it is the written
--                                  form of its job with dwell 2
--     dwell_read                   so it is accepted as this job
--     dwell_zero, long_dwell       `DWELL 0` and `DWELL 256` are 2 at their line
--     dwell_leading_zero           `DWELL 02` is 1 at its line
--     behind_dwell                 whatever stands behind the line is 1 at the line that it begins
--     dwell_twice                  so a second line is
--     dwell_early                  the line before the order is 1
use mathlib.Core.Path.{◌≡◌, refl, ap}
use mathlib.Core.List.{List, [], ◌∷◌, ◌++◌}
use Prim.Native.Nat.{ℕ}
use native.Mathlib.Omega.{arith}
use lib.ListN.{get_or}
use Rattle.hall.specs.Job.{Numbers, job_of}
use Rattle.hall.specs.Said.{accepted}
use Rattle.hall.specs.Questions.{checks_question}
use Rattle.hall.proofs.StageTests.{none?}
use Rattle.hall.proofs.FaultTests.{checks?}
use Rattle.put.specs.Digits.{digits, digits_up_to}
use Rattle.form.specs.Lines.{further, entry_line, entry_lines, count_line}
use Rattle.form.specs.Words.{NODES, LANES, CARRIERS, ORDER, DWELL}
use Rattle.form.specs.Contents.{written, first}
use Rattle.form.specs.Texts.{Refused}
use Rattle.form.specs.JobText.{order_section, dwell_section, job_text}
use Rattle.form.specs.Jobs.{pairs, singles, WrittenJob}
use Rattle.form.proofs.Cuts.{never_empty}
use Rattle.form.proofs.Reached.{past_count, count_refused, first_lacking, left_over}
use Rattle.form.proofs.JobTexts.{job_reading, job_reading_exactly}
use Rattle.form.proofs.Examples.{example_text, example, example_written, no_second_digit}
use Rattle.form.proofs.Examples.{no-carriers, behind_carriers_lem, no-places, behind_order_lem}

-- ---- accepted

abbrev pub with_line : List ℕ → List ℕ
with_line text = text ++ (68 ∷ 87 ∷ 69 ∷ 76 ∷ 76 ∷ 32 ∷ 50 ∷ 10 ∷ [])

pub dwell_text : List ℕ
dwell_text = with_line example_text

abbrev pub dwell_example : Numbers
dwell_example = job_of example.network example.moves example.order 2

pub dwell_written : WrittenJob dwell_text dwell_example
unfolding dwell_text written count_line entry_lines entry_line further digits digits_up_to pairs singles
    NODES LANES CARRIERS ORDER DWELL
dwell_written =
    record {
      writes = ap with_line example_written.writes;
      sound = (none? (checks_question dwell_example) (checks? dwell_example)).sound tt;
      paired = refl;
    }

pub dwell_read : job_reading dwell_text ≡ accepted dwell_example
dwell_read = (job_reading_exactly dwell_text (accepted dwell_example)).1 dwell_written

-- ---- behind `ORDER 0`

module _ (rest : List ℕ) where
  pub dwell_zero : Refused job_text (no-places (count_line DWELL 0 ++ rest)) 2 5
  dwell_zero =
      count_refused job_text _ (behind_order_lem (count_line DWELL 0 ++ rest)) refl dwell_section _
      (first dwell_section _)
      (record { n = 0; rest = rest; small = omega arith; begins = refl })
      (λ h. let a = h.0 in let x : ⊥ = omega arith in x)

  pub long_dwell : Refused job_text (no-places (count_line DWELL 256 ++ rest)) 2 5
  long_dwell =
      count_refused job_text _ (behind_order_lem (count_line DWELL 256 ++ rest)) refl dwell_section _
      (first dwell_section _)
      (record { n = 256; rest = rest; small = omega arith; begins = refl })
      (λ h. let a = h.1 in let x : ⊥ = omega arith in x)

  pub dwell_leading_zero : Refused job_text (no-places (DWELL ++ (32 ∷ 48 ∷ 50 ∷ 10 ∷ rest))) 1 5
  unfolding DWELL
  dwell_leading_zero =
      left_over job_text _ (behind_order_lem (DWELL ++ (32 ∷ 48 ∷ 50 ∷ 10 ∷ rest))) refl
      (no_second_digit DWELL 50 rest (omega arith), tt)
      (λ e. never_empty e)

-- ---- behind `DWELL 1`

pub behind_dwell : (rest : List ℕ) → ¬ (rest ≡ [])
    → Refused job_text (no-places (count_line DWELL 1 ++ rest)) 1 6
behind_dwell rest some =
    left_over job_text _
    (past_count job_text _ (behind_order_lem (count_line DWELL 1 ++ rest)) refl dwell_section _
    (first dwell_section _)
    (record { n = 1; rest = rest; small = omega arith; begins = refl }) (omega arith, omega arith))
    refl tt some

pub dwell_twice : (rest : List ℕ)
    → Refused job_text (no-places (count_line DWELL 1 ++ (count_line DWELL 1 ++ rest))) 1 6
unfolding count_line DWELL
dwell_twice rest = behind_dwell (count_line DWELL 1 ++ rest) (λ e. never_empty e)

-- ---- behind `CARRIERS 0`

-- the dwell before the order: a line of the order is expected, whose first letter is another
pub dwell_early : (rest : List ℕ) → Refused job_text (no-carriers (count_line DWELL 1 ++ rest)) 1 4
unfolding count_line DWELL ORDER
dwell_early rest =
    first_lacking job_text _ (behind_carriers_lem (count_line DWELL 1 ++ rest)) refl order_section _ refl refl
    (λ c. let z : ◌≡◌ {A = ℕ} 68 79 = ap (λ (t : List ℕ). get_or t 0 0) c.begins in
    let x : ⊥ = omega arith in x)

-- Texts with closed nodes, and what the definitions say of them (rules 7.17, 8.2, 8.12 and 8.13): one is
-- accepted as its job; a count that does not fit, a closed node that is none or stands twice, a closed start
-- and a section in the wrong place are refused with their number at their line.
--     closed_text, closed_written    the text of rule 7.17, and that it is the written form of its job
--     closed_read_lem                    so it is accepted as this job
--     closed_none, many_closed       `CLOSED 0` and `CLOSED 1025` are 2 at their line
--     closed_no_node                 the closed node 2 of nodes 0 and 1 is 12 at its line
--     closed_again                   a closed node that stands twice is 12 at the second line
--     closed_start                   a move from a closed node is 13 at its line
--     closed_twice, closed_late      a second section, or one behind the carriers, is 1 at its line
use mathlib.Core.Path.{◌≡◌, refl, ap}
use mathlib.Core.Logic.{inl, inr}
use mathlib.Core.List.{List, [], ◌∷◌, ◌++◌}
use Prim.Native.Nat.{ℕ, ◌≤◌}
use native.Mathlib.Omega.{arith}
use lib.ListN.{get_or}
use Rattle.hall.specs.Floor.{network_of}
use Rattle.hall.specs.Job.{Numbers, job_of}
use Rattle.hall.specs.Said.{accepted}
use Rattle.hall.specs.Stages.{here, later}
use Rattle.hall.specs.Refusals.{no_such_node, not_higher}
use Rattle.hall.specs.Questions.{checks_question}
use Rattle.hall.proofs.StageTests.{none?}
use Rattle.hall.proofs.Test.{not?}
use Rattle.hall.proofs.FaultTests.{closed-fault?, checks?}
use Rattle.put.specs.Digits.{digits, digits_up_to}
use Rattle.form.specs.Lines.{further, entry_line, entry_lines, count_line}
use Rattle.form.specs.Sections.{content, count_of, same_words, numbers_in, numbers_of}
use Rattle.form.specs.Words.{NODES, LANES, CLOSED, CARRIERS, ORDER}
use Rattle.form.specs.Contents.{written, first}
use Rattle.form.specs.Stands.{within}
use Rattle.form.specs.Texts.{Refused}
use Rattle.form.specs.JobText.{closed_section, carriers_section, order_section, dwell_section, job_text}
use Rattle.form.specs.Jobs.{pairs, singles, WrittenJob}
use Rattle.form.specs.Reached.{Reached}
use Rattle.form.proofs.Reached.{past_count, past_entry, count_refused, entry_refused, first_lacking}
use Rattle.form.proofs.JobTexts.{job_reading, job_reading_exactly}
use Rattle.form.proofs.Examples.{no_lanes, behind_lanes_lem, no-carriers, behind_carriers_lem}

-- ---- accepted

pub closed_text : List ℕ
closed_text =
    78 ∷ 79 ∷ 68 ∷ 69 ∷ 83 ∷ 32 ∷ 51 ∷ 10 ∷
    76 ∷ 65 ∷ 78 ∷ 69 ∷ 83 ∷ 32 ∷ 49 ∷ 10 ∷
    48 ∷ 32 ∷ 50 ∷ 10 ∷
    67 ∷ 76 ∷ 79 ∷ 83 ∷ 69 ∷ 68 ∷ 32 ∷ 49 ∷ 10 ∷
    49 ∷ 10 ∷
    67 ∷ 65 ∷ 82 ∷ 82 ∷ 73 ∷ 69 ∷ 82 ∷ 83 ∷ 32 ∷ 49 ∷ 10 ∷
    48 ∷ 32 ∷ 50 ∷ 10 ∷
    79 ∷ 82 ∷ 68 ∷ 69 ∷ 82 ∷ 32 ∷ 49 ∷ 10 ∷
    48 ∷ 10 ∷ []

abbrev pub closed_example : Numbers
closed_example = job_of (network_of 3 (0 ∷ 2 ∷ []) (1 ∷ [])) (0 ∷ 2 ∷ []) (0 ∷ []) 0

pub closed_written : WrittenJob closed_text closed_example
unfolding closed_text written count_line entry_lines entry_line further digits digits_up_to pairs singles
    NODES LANES CLOSED CARRIERS ORDER
closed_written =
    record {
      writes = refl;
      sound = (none? (checks_question closed_example) (checks? closed_example)).sound tt;
      paired = refl;
    }

pub closed_read_lem : job_reading closed_text ≡ accepted closed_example
closed_read_lem = (job_reading_exactly closed_text (accepted closed_example)).1 closed_written

-- ---- behind `LANES 0`

module _ (rest : List ℕ) where
  pub closed_none : Refused job_text (no_lanes (count_line CLOSED 0 ++ rest)) 2 3
  closed_none =
      count_refused job_text _ (behind_lanes_lem (count_line CLOSED 0 ++ rest)) refl closed_section _
      (first closed_section _)
      (record { n = 0; rest = rest; small = omega arith; begins = refl })
      (λ h. let a = h.0 in let x : ⊥ = omega arith in x)

  pub many_closed : Refused job_text (no_lanes (count_line CLOSED 1025 ++ rest)) 2 3
  many_closed =
      count_refused job_text _ (behind_lanes_lem (count_line CLOSED 1025 ++ rest)) refl closed_section _
      (first closed_section _)
      (record { n = 1025; rest = rest; small = omega arith; begins = refl })
      (λ h. let a = h.1 in let x : ⊥ = omega arith in x)

  -- ---- behind `CLOSED c`, with one or two closed nodes

  abbrev pub with-closed : (c : ℕ) → List ℕ
  with-closed c = no_lanes (count_line CLOSED c ++ rest)

  pub behind_closed_lem : (c : ℕ) → 1 ≤ c → c ≤ 2 → Reached job_text (with-closed c)
      (within (content NODES 2 [] ∷ content LANES 0 [] ∷ []) closed_section c []
      (carriers_section ∷ order_section ∷ dwell_section ∷ [])) rest 4
  behind_closed_lem c some few =
      past_count job_text (with-closed c) (behind_lanes_lem (count_line CLOSED c ++ rest)) refl closed_section _
      (first closed_section _)
      (record { n = c; rest = rest; small = omega arith; begins = refl }) (some, omega arith)

module _ (rest : List ℕ) where
  pub closed_no_node : Refused job_text (with-closed (entry_line (2 ∷ []) ++ rest) 1) 12 4
  unfolding numbers_in count_of same_words NODES
  closed_no_node =
      entry_refused job_text _ (behind_closed_lem (entry_line (2 ∷ []) ++ rest) 1 (omega arith) (omega arith)) (omega arith)
      (record { e = 2 ∷ []; rest = rest; sized = refl; small = (omega arith, tt); begins = refl })
      12 (here (refl, no_such_node (omega arith)))

-- ---- behind the closed node 0, of c

module _ (c : ℕ) (some : 1 ≤ c) (few : c ≤ 2) (rest : List ℕ) where
  abbrev pub closed-zero : List ℕ
  closed-zero = with-closed (entry_line (0 ∷ []) ++ rest) c

  pub behind_zero : Reached job_text closed-zero
      (within (content NODES 2 [] ∷ content LANES 0 [] ∷ []) closed_section c ((0 ∷ []) ∷ [])
      (carriers_section ∷ order_section ∷ dwell_section ∷ [])) rest 5
  unfolding numbers_in count_of same_words NODES
  behind_zero =
      past_entry job_text closed-zero (behind_closed_lem (entry_line (0 ∷ []) ++ rest) c some few) (omega arith)
      (record { e = 0 ∷ []; rest = rest; sized = refl; small = (omega arith, tt); begins = refl })
      ((not? (closed-fault? 2 (0 ∷ []) 0)).sound tt, tt)

module _ (rest : List ℕ) where
  pub closed_again : Refused job_text (with-closed (entry_line (0 ∷ []) ++ (entry_line (0 ∷ []) ++ rest)) 2) 12 5
  unfolding numbers_in count_of same_words NODES
  closed_again =
      entry_refused job_text _ (behind_zero 2 (omega arith) (omega arith) (entry_line (0 ∷ []) ++ rest)) (omega arith)
      (record { e = 0 ∷ []; rest = rest; sized = refl; small = (omega arith, tt); begins = refl })
      12 (here (refl, not_higher 0 refl (omega arith)))

  pub closed_start :
      Refused job_text
      (with-closed (entry_line (0 ∷ []) ++ (count_line CARRIERS 1 ++ (entry_line (0 ∷ 1 ∷ []) ++ rest))) 1) 13 6
  unfolding numbers_in numbers_of count_of same_words NODES LANES CLOSED
  closed_start =
      let move = past_count job_text _
      (behind_zero 1 (omega arith) (omega arith) (count_line CARRIERS 1 ++ (entry_line (0 ∷ 1 ∷ []) ++ rest))) refl
      carriers_section _ (first carriers_section _)
      (record { n = 1; rest = entry_line (0 ∷ 1 ∷ []) ++ rest; small = omega arith; begins = refl })
      (omega arith, omega arith) in
      entry_refused job_text _ move (omega arith)
      (record {
        e = 0 ∷ 1 ∷ [];
        rest = rest;
        sized = refl;
        small = (omega arith, (omega arith, tt));
        begins = refl;
      })
      13
      (later (λ h. elim h [ inl x ↦ omega arith | inr x ↦ omega arith ])
      (later (λ h. omega arith) (here (refl, inl (record { k = 0; inside = omega arith; is = refl })))))

  -- the section once more: a line of the carriers is expected, whose second letter is another
  pub closed_twice : Refused job_text (with-closed (entry_line (0 ∷ []) ++ (count_line CLOSED 1 ++ rest)) 1) 1 5
  unfolding count_line CLOSED CARRIERS
  closed_twice =
      first_lacking job_text _ (behind_zero 1 (omega arith) (omega arith) (count_line CLOSED 1 ++ rest)) refl
      carriers_section _ refl refl
      (λ c. let z : ◌≡◌ {A = ℕ} 76 65 = ap (λ (t : List ℕ). get_or t 1 0) c.begins in let x : ⊥ = omega arith in x)

-- ---- behind `CARRIERS 0`

module _ (rest : List ℕ) where
  -- the closed nodes behind the carriers: a line of the order is expected, whose first letter is another
  pub closed_late : Refused job_text (no-carriers (count_line CLOSED 1 ++ rest)) 1 4
  unfolding count_line CLOSED ORDER
  closed_late =
      first_lacking job_text _ (behind_carriers_lem (count_line CLOSED 1 ++ rest)) refl order_section _ refl refl
      (λ c. let z : ◌≡◌ {A = ℕ} 67 79 = ap (λ (t : List ℕ). get_or t 0 0) c.begins in let x : ⊥ = omega arith in x)

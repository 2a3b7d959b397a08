-- The plan program answers the job of rule 7.14 with the five lines of rule 10.5, byte for byte, and the same
-- job with dwell 2, that of rule 7.18, with five others. The texts are form's `example_text` and
-- `dwell_text`, the bytes of examples/line.txt and examples/tip.txt, and are the written form of their jobs
-- (`example_written`, `dwell_written`); the jobs are in the case tables, which give their ticks and their
-- costs. The distances are 4, 4 and 1: none is more, as there are walks of so many lanes, and none is less,
-- as the goal ticks make up the cost. Assumes nothing.
--     five_lines, tip_lines        the five lines, and those with dwell 2
--     printed_job, printed_tip     the definitions give the lines of those ticks, distances and cost
--     page_answered, tip_answered  the answer to the text is these lines; `answer_text_unique`
--                      (OneAnswer.antt) says that there is no other
--     printed_refusal  a line of refusal, which computes too
use mathlib.Core.Path.{◌≡◌, refl, sym, ◌∙◌}
use mathlib.Core.Logic.{inl}
use mathlib.Core.List.{List, [], ◌∷◌}
use Prim.Native.Nat.{ℕ, zero, suc, ◌+◌, ◌*◌, ◌≤◌, ◌<◌}
use native.Mathlib.Omega.{arith}
use lib.ListN.{get_or}
use Rattle.cases.specs.Case.{Accepted, cases, dwell_cases, line5}
use Rattle.hall.specs.Floor.{Walk, here, step, Lane, floor}
use Rattle.hall.specs.Job.{Numbers, job_of, start, goal}
use Rattle.hall.specs.Ticks.{own, total}
use Rattle.cases.proofs.Cases.{all_cases, all_dwell_cases}
use Rattle.hall.proofs.Walks.{reverse, true_distance, lanes_symmetric}
use Rattle.put.specs.Digits.{digits_up_to, digits}
use Rattle.form.specs.Lines.{further, entry_line, count_line}
use Rattle.form.proofs.Examples.{example_text, example, example_written}
use Rattle.form.proofs.DwellExamples.{dwell_text, dwell_written}
use Rattle.report.specs.Printed.{carrier_line, carrier_lines, plan_text, refused_text}
use Rattle.report.specs.Answer.{JobAnswer, AnswerText}
use Rattle.report.proofs.JobAnswers.{text_same}

-- ---- the five lines

-- `PLAN 3`, `0 0 4 4`, `1 5 4 9`, `2 3 1 4`, `COST 17`
unfoldable pub five_lines : List ℕ
five_lines =
    80 ∷ 76 ∷ 65 ∷ 78 ∷ 32 ∷ 51 ∷ 10
    ∷ 48 ∷ 32 ∷ 48 ∷ 32 ∷ 52 ∷ 32 ∷ 52 ∷ 10
    ∷ 49 ∷ 32 ∷ 53 ∷ 32 ∷ 52 ∷ 32 ∷ 57 ∷ 10
    ∷ 50 ∷ 32 ∷ 51 ∷ 32 ∷ 49 ∷ 32 ∷ 52 ∷ 10
    ∷ 67 ∷ 79 ∷ 83 ∷ 84 ∷ 32 ∷ 49 ∷ 55 ∷ 10
    ∷ []

-- `PLAN 3`, `0 0 4 4`, `1 7 4 11`, `2 5 1 6`, `COST 21`
unfoldable pub tip_lines : List ℕ
tip_lines =
    80 ∷ 76 ∷ 65 ∷ 78 ∷ 32 ∷ 51 ∷ 10
    ∷ 48 ∷ 32 ∷ 48 ∷ 32 ∷ 52 ∷ 32 ∷ 52 ∷ 10
    ∷ 49 ∷ 32 ∷ 55 ∷ 32 ∷ 52 ∷ 32 ∷ 49 ∷ 49 ∷ 10
    ∷ 50 ∷ 32 ∷ 53 ∷ 32 ∷ 49 ∷ 32 ∷ 54 ∷ 10
    ∷ 67 ∷ 79 ∷ 83 ∷ 84 ∷ 32 ∷ 50 ∷ 49 ∷ 10
    ∷ []

-- carrier 0 starts at tick 0, the other two at ticks b and c
abbrev pub ticks : (b c : ℕ) → ℕ → ℕ
ticks b c i = get_or (0 ∷ b ∷ c ∷ []) i 0

abbrev pub distances : ℕ → ℕ
distances i = get_or (4 ∷ 4 ∷ 1 ∷ []) i 0

pub printed_job : plan_text 3 (ticks 5 3) distances 17 ≡ five_lines
unfolding plan_text carrier_lines carrier_line count_line entry_line further digits digits_up_to five_lines
printed_job = refl

pub printed_tip : plan_text 3 (ticks 7 5) distances 21 ≡ tip_lines
unfolding plan_text carrier_lines carrier_line count_line entry_line further digits digits_up_to tip_lines
printed_tip = refl

-- `REFUSED 8 1024`
pub printed_refusal :
    refused_text 8 1024 ≡ 82 ∷ 69 ∷ 70 ∷ 85 ∷ 83 ∷ 69 ∷ 68 ∷ 32 ∷ 56 ∷ 32 ∷ 49 ∷ 48 ∷ 50 ∷ 52 ∷ 10 ∷ []
unfolding refused_text further digits digits_up_to
printed_refusal = refl

-- ---- the job

-- the job of the example, with a dwell
abbrev job : (w : ℕ) → Numbers
job w = job_of example.network example.moves example.order w

-- P8 is the eighth line of its table, and with dwell 2 it is the first of those that wait
page_plan : Accepted (job 0) (record { ticks = 0 ∷ 5 ∷ 3 ∷ []; cost = 17 })
unfolding cases
page_plan = all_cases 7 (omega arith)

tip_plan : Accepted (job 2) (record { ticks = 0 ∷ 7 ∷ 5 ∷ []; cost = 21 })
unfolding dwell_cases
tip_plan = all_dwell_cases 0 (omega arith)

-- ---- its distances

lane : (k : ℕ) → k < 4 → Lane line5 (get_or line5 (2 * k) 0) (get_or line5 (2 * k + 1) 0)
lane k h = record { k = k; inside = h; ends = inl (refl, refl) }

down_the_line : Walk (floor example.network) 0 4 4
down_the_line =
    step {a = 0} {b = 1} (omega arith) (lane 0 (omega arith))
    (step {a = 1} {b = 2} (omega arith) (lane 1 (omega arith))
    (step {a = 2} {b = 3} (omega arith) (lane 2 (omega arith))
    (step {a = 3} {b = 4} (omega arith) (lane 3 (omega arith)) (here {a = 4} (omega arith)))))

one_back : Walk (floor example.network) 2 1 1
one_back =
    step {a = 2} {b = 1} (omega arith) (lanes_symmetric example.network 1 2 (lane 1 (omega arith)))
    (here {a = 1} (omega arith))

-- the distances of a plan whose goal ticks make up its cost
module _ {w b c : ℕ} (a : Accepted (job w) (record { ticks = 0 ∷ b ∷ c ∷ []; cost = b + c + 9 })) where
  at_most : (i : ℕ) → i < 3 → (n : ℕ) → Walk (floor example.network) (start example i) (goal example i) n →
      own a.tables i ≤ n
  at_most i h n walk =
      (true_distance (a.plan.true_distances.start_goal i i h h) (a.plan.reached i h)).least n walk

  page_distances : (i : ℕ) → i < 3 → distances i ≡ own a.tables i
  unfolding total
  page_distances =
      let x = at_most 0 (omega arith) 4 down_the_line in
      let y = at_most 1 (omega arith) 4 (reverse (lanes_symmetric example.network) down_the_line) in
      let z = at_most 2 (omega arith) 1 one_back in
      let d = own a.tables in
      let sum : b + c + 9 ≡ 0 + (0 + d 0) + (b + d 1) + (c + d 2) = a.plan.cost_is in
      each (omega (arith, x, y, z, sum)) (omega (arith, x, y, z, sum)) (omega (arith, x, y, z, sum))
    where
      each : 4 ≡ own a.tables 0 → 4 ≡ own a.tables 1 → 1 ≡ own a.tables 2 →
          (i : ℕ) → i < 3 → distances i ≡ own a.tables i
      each x y z zero h = x
      each x y z (suc zero) h = y
      each x y z (suc (suc zero)) h = z
      each x y z (suc (suc (suc i))) h = absurd (let x : ⊥ = omega arith in x)

  -- so what is printed for it are these ticks and distances
  printed_for : (lines : List ℕ) → plan_text 3 (ticks b c) distances (b + c + 9) ≡ lines → JobAnswer (job w) lines
  printed_for lines e =
      let same = text_same 3 (ticks b c) (ticks b c) distances (own a.tables) (b + c + 9) (λ i h. refl) page_distances in
      JobAnswer.planned a.no_fault a.plan (sym e ∙ same)

-- ---- the texts

pub page_answered : AnswerText example_text five_lines
page_answered = AnswerText.accepted example_written (printed_for page_plan five_lines printed_job)

pub tip_answered : AnswerText dwell_text tip_lines
tip_answered = AnswerText.accepted dwell_written (printed_for tip_plan tip_lines printed_tip)

-- What is owed to whoever runs the program on a job text (rules 10.1 to 10.3 and 12.1 to 12.3), in the words
-- of the written form and of the definitions. No reader and no planner stands in it.
--     RefusedFor      by the rules the text is refused with a number at a line: at its first faulty line, or,
--                     if it is the written form of a job without faults of the listed checks, with 8 at the
--                     line of the lowest carrier that no walk takes from its start to its goal
--     PlannedAs       by the rules the text has this plan: it is the written form of a job without faults;
--                     the tables hold the true distances and each carrier has one; each start tick is the
--                     smallest, in the order's turn, that the carriers before permit; the cost is the sum of
--                     the goal ticks, all within the limits; each carrier has a shortest path; and whatever
--                     shortest paths the carriers take, demand 3 holds of them
--     Owed            what is printed is the refusal with the number and the line for which the text is
--                     refused, or the plan that it has
use Rattle.std.specs.Prelude.{◌≡◌, List, ℕ, ◌<◌}
use Rattle.hall.specs.Floor.{floor}
use Rattle.hall.specs.Job.{Numbers, carriers, start, goal}
use Rattle.hall.specs.Stages.{First, None}
use Rattle.hall.specs.Questions.{job_question}
use Rattle.hall.specs.Ticks.{Tables, own}
use Rattle.hall.specs.Path.{ShortestPath}
use Rattle.hall.specs.Plan.{Plan}
use Rattle.hall.specs.Safety.{Demand3, Within}
use Rattle.form.specs.Texts.{Refused}
use Rattle.form.specs.JobText.{job_text}
use Rattle.form.specs.Jobs.{WrittenJob, line_of}
use Rattle.report.specs.Printed.{plan_text, refused_text}

pub data RefusedFor (text : List ℕ) (n line : ℕ) : Type 0 where
  at_line : Refused job_text text n line → RefusedFor text n line
  no_walk : (j : Numbers) (i : ℕ) → WrittenJob text j → First (job_question j) 8 i → n ≡ 8 → line ≡ line_of j i
      → RefusedFor text n line

pub record PlannedAs (text : List ℕ) (j : Numbers) (t : Tables) (tick : ℕ → ℕ) (cost : ℕ) : Type 0 where
  pub writes : WrittenJob text j
  pub no_fault : None (job_question j)
  pub plan : Plan j t tick cost
  pub within : Within j.dwell (carriers j) t tick cost
  pub paths : (i : ℕ) → i < carriers j →
      (l : List ℕ) × ShortestPath (floor j.network) (start j i) (goal j i) l
  pub safe : (path : ℕ → List ℕ) →
      ((i : ℕ) → i < carriers j → ShortestPath (floor j.network) (start j i) (goal j i) (path i)) →
      Demand3 (floor j.network) j.dwell (carriers j) (start j) (goal j) t j.order tick path

pub data Owed (text printed : List ℕ) : Type 0 where
  refusal : {n line : ℕ} → RefusedFor text n line → printed ≡ refused_text n line → Owed text printed
  schedule : {j : Numbers} {t : Tables} {tick : ℕ → ℕ} {cost : ℕ} → PlannedAs text j t tick cost
      → printed ≡ plan_text (carriers j) tick (own t) cost → Owed text printed

-- What the definitions give of every job from numbers, whatever the numbers are, in one statement: exactly
-- one fault of its checks is the first, or there is none and exactly one plan, within the limits, which keeps
-- all carriers apart whatever shortest paths they take. So the definitions promise neither nothing nor two
-- things; that the planner answers so is the promise of its functions. Complete.antt decides between the two,
-- Exist.antt makes the plan, PlanLaws.antt says that any other agrees with it for every carrier, and
-- Demand.antt that it is safe. Assumes nothing.
--     RefusedOnce     the job has a first fault, with its number and place, and no other
--     PlannedOnce     the job has no fault; it has a plan, and no other; the plan is within the limits; each
--                     carrier has a shortest path, and whatever shortest paths are taken demand 3 holds
use mathlib.Core.Path.{◌≡◌}
use mathlib.Core.Logic.{◌⊎◌, inl, inr}
use mathlib.Core.List.{List}
use Prim.Native.Nat.{ℕ, ◌<◌}
use Rattle.hall.specs.Floor.{floor}
use Rattle.hall.specs.Job.{Numbers, carriers, start, goal}
use Rattle.hall.specs.Stages.{First, None}
use Rattle.hall.specs.Said.{Said, accepted, refused, Fits}
use Rattle.hall.specs.Questions.{checks_question, job_question}
use Rattle.hall.specs.Ticks.{Tables}
use Rattle.hall.specs.Path.{ShortestPath}
use Rattle.hall.specs.Plan.{Plan}
use Rattle.hall.specs.Safety.{Demand3, Within}
use Rattle.hall.proofs.Walks.{true_distance}
use Rattle.hall.proofs.Paths.{shortest_exists}
use Rattle.hall.proofs.Stages.{first_unique}
use Rattle.hall.proofs.Sound.{checks_of_none}
use Rattle.hall.proofs.Demand.{plan_safe}
use Rattle.hall.proofs.PlanLaws.{SamePlan, plan_unique, plan_within}
use Rattle.hall.proofs.Exist.{Planned, plan_exists}
use Rattle.hall.proofs.Complete.{job_decided}

pub record RefusedOnce (j : Numbers) : Type 0 where
  pub number : ℕ
  pub place : ℕ
  pub first : First (job_question j) number place
  pub only : (n p : ℕ) → First (job_question j) n p → (number ≡ n) × (place ≡ p)

pub record PlannedOnce (j : Numbers) : Type 0 where
  pub no_fault : None (job_question j)
  pub planned : Planned j
  pub only : (u : Tables) (tick : ℕ → ℕ) (cost : ℕ) → Plan j u tick cost → SamePlan (carriers j) planned.tables planned.tick planned.cost u tick cost
  pub within : Within j.dwell (carriers j) planned.tables planned.tick planned.cost
  pub paths : (i : ℕ) → i < carriers j → (l : List ℕ) × ShortestPath (floor j.network) (start j i) (goal j i) l
  pub safe : (path : ℕ → List ℕ) → ((i : ℕ) → i < carriers j → ShortestPath (floor j.network) (start j i) (goal j i) (path i))
      → Demand3 (floor j.network) j.dwell (carriers j) (start j) (goal j) planned.tables j.order planned.tick path

pub refused_once : (j : Numbers) {n p : ℕ} → First (job_question j) n p → RefusedOnce j
refused_once j {n} {p} h = record { number = n; place = p; first = h; only = λ m q k. first_unique h k }

pub planned_once : (j : Numbers) → None (job_question j) → PlannedOnce j
planned_once j none = record {
  no_fault = none;
  planned = one;
  only = λ u tick cost other. plan_unique j sound one.tables u one.tick tick one.cost cost one.plan other;
  within = plan_within j sound one.tables one.tick one.cost one.plan;
  paths = λ i h. shortest_exists (true_distance (one.plan.true_distances.start_goal i i h h) (one.plan.reached i h));
  safe = plan_safe j one.tables one.tick one.cost sound one.plan;
}
  where
    one : Planned j
    one = plan_exists j none

    sound : None (checks_question j)
    sound = checks_of_none j none

pub every_job : (j : Numbers) → PlannedOnce j ⊎ RefusedOnce j
every_job j = cases (job_decided j).answer (job_decided j).fits
  where
    cases : (s : Said Unit) → Fits (job_question j) s → PlannedOnce j ⊎ RefusedOnce j
    cases (accepted u) none = inl (planned_once j none)
    cases (refused n p) first = inr (refused_once j first)

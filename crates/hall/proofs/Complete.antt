-- The refusals are complete and exclude each other: of every job, whatever its numbers, either no fault holds
-- or exactly one is the first, and so of each question about it, if what the question adds can be decided.
-- Each check compares numbers or seeks an earlier entry, so it has a test (FaultTests.antt), and 8 asks for a
-- walk, which Decide.antt decides on any number of nodes. Assumes nothing.
use mathlib.Core.List.{List}
use Prim.Native.Nat.{ℕ}
use native.Mathlib.Decide.{ℕ_discrete, dec_le}
use lib.ListN.{length}
use Rattle.hall.specs.Floor.{Network}
use Rattle.hall.specs.Job.{Numbers, carriers, move_count, start_in, goal_in}
use Rattle.hall.specs.Stages.{First}
use Rattle.hall.specs.Questions.{ends, walk_checks, each_walk, network_question, checks_question, job_question, planning}
use Rattle.hall.specs.Questions.{move_ends, move_question, house_of_move, list_of_move}
use Rattle.hall.specs.Questions.{asked_question, house_of_job, list_of_job}
use Rattle.hall.proofs.Test.{dec, decided?}
use Rattle.hall.proofs.FloorTests.{closed?}
use Rattle.hall.proofs.StageTests.{Tested, each?, tested_decided}
use Rattle.hall.proofs.FaultTests.{nodes-count?, lanes-count?, closed-count?, each-lane?, each-closed?, checks?, job?}
use Rattle.hall.proofs.Stages.{Decided, decided_none, decided_more, settled_at}
use Rattle.hall.proofs.Compose.{decided_append}
use Rattle.hall.proofs.Places.{asked_here, asked_settled, decided_place}
use Rattle.hall.proofs.Lowest.{dec_or}
use Rattle.hall.proofs.Decide.{no-walk?}

-- ---- 9 before everything

pub short_first : {Short : Type 0} (j : Numbers) → Short → First (planning Short j) 9 0
short_first j = asked_here

-- ---- jobs

walks? : (N : Network) (moves : List ℕ) → Tested (each_walk N moves)
walks? N moves =
    each? (move_count moves) (walk_checks N moves) (λ i. (decided? (no-walk? N (start_in moves i) (goal_in moves i)), tt))

-- the listed checks
pub checks_decided : (j : Numbers) → Decided (checks_question j)
checks_decided j = tested_decided (checks_question j) (checks? j)

-- with 8
pub job_decided : (j : Numbers) → Decided (job_question j)
job_decided j = tested_decided (job_question j) (job? j (walks? j.network j.moves))

pub planning_decided : {Short : Type 0} → Dec Short → (j : Numbers) → Decided (planning Short j)
planning_decided short? j = decided_more (asked_settled short?) (job_decided j)

pub asked_decided : (j : Numbers) (c : ℕ) → Decided (asked_question j c)
asked_decided j c =
    decided_append (job_decided j) (decided_more (asked_settled (dec_le (carriers j) c)) decided_none)

pub house_of_job_decided : {Short : Type 0} → Dec Short → (j : Numbers) (c : ℕ) → Decided (house_of_job Short j c)
house_of_job_decided short? j c = decided_more (asked_settled short?) (asked_decided j c)

pub list_of_job_decided : (j : Numbers) (c : ℕ) {Unfit : Type 0} → Dec Unfit → Decided (list_of_job j c Unfit)
list_of_job_decided j c unfit? = decided_append (asked_decided j c) (decided_more (asked_settled unfit?) decided_none)

-- ---- one move

pub network_decided : (N : Network) → Decided (network_question N)
network_decided N =
    tested_decided (network_question N) (
      nodes-count? N.nodes,
      (
        lanes-count? (length N.lanes),
        (
          closed-count? (length N.closed),
          (each-lane? N.nodes N.lanes, (each-closed? N.nodes N.closed, tt)),
        ),
      ),
    )

module _ (N : Network) (s g : ℕ) where
  pub move_ends_decided : Decided (move_ends N s g)
  move_ends_decided =
      decided_append (network_decided N)
      (decided_place (ends N.nodes N.closed (λ i. s) (λ i. g)) 0
      (settled_at (ends N.nodes N.closed (λ i. s) (λ i. g)) 0 (
        dec_or (dec_le N.nodes s) (dec_le N.nodes g),
        (ℕ_discrete s g, (dec_or (dec (closed? N.closed s)) (dec (closed? N.closed g)), tt)),
      )))

  pub move_decided : Decided (move_question N s g)
  move_decided =
      decided_append move_ends_decided (decided_more (asked_settled (no-walk? N s g)) decided_none)

  pub house_of_move_decided : {Short : Type 0} → Dec Short → Decided (house_of_move Short N s g)
  house_of_move_decided short? = decided_more (asked_settled short?) move_decided

  pub list_of_move_decided : {Unfit : Type 0} → Dec Unfit → Decided (list_of_move N s g Unfit)
  list_of_move_decided unfit? = decided_append move_decided (decided_more (asked_settled unfit?) decided_none)

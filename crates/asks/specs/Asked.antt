-- What the questions about one carrier of a whole job promise (rules 6.8, 8.26, 8.27, 9.11 and 9.12), and
-- what their steps promise to each other. The questions themselves are hall's `house_of_job` and `list_of_job`: 8
-- is given for the lowest carrier number, whichever carrier is asked about. j is the job, c the carrier
-- number that is asked about. A job or a list with ' is as the question leaves it.
--     HouseAsked    the answer to the question for the house path of the carrier's move: that path, as
--                   `House` of the crate `path` has it, or the first fault and what that leaves in the list
--     ListAsked     the answer to the question about one list
--     MoveFound     nothing of the job or the number is at fault, and these are the ends of the carrier's move
--     MoveAsked     what both questions begin with: the carrier's move, or the first fault of job and number
--     WalkFrom      what the search for one walk starts from: at most 1,024 nodes, and two numbers among them
--     Walkable      what the search for 8 starts from: at most 1,024 nodes, and every start and goal an open
--                   one of them
use Rattle.std.specs.Prelude.{◌≡◌, List, ℕ, ◌≤◌, ◌<◌, length, Result, Ok, Err}
use Rattle.hall.specs.declared.Ends.{Ends}
use Rattle.hall.specs.declared.Refusal.{Refusal}
use Rattle.hall.specs.Numbers.{number_of}
use Rattle.hall.specs.Limits.{node_limit}
use Rattle.hall.specs.Floor.{Network, floor}
use Rattle.hall.specs.Job.{Numbers, start, goal, EndsOn}
use Rattle.hall.specs.Stages.{First, None}
use Rattle.hall.specs.Said.{Judged}
use Rattle.hall.specs.Questions.{asked_question, house_of_job, list_of_job}
use Rattle.path.specs.Paths.{Unfit, said_housed, HouseLeft}

pub record HouseAsked (j j' : Numbers) (c : ℕ) (path path' : List ℕ) (r : Result ℕ Refusal) : Type 0 where
  pub given : HouseLeft
      (house_of_job (length path < node_limit) j c)
      j.network (start j c) (goal j c)
      path path'
      (said_housed r)
  pub job_kept : j' ≡ j

pub record ListAsked (j j' : Numbers) (c : ℕ) (list list' : List ℕ) (r : Result Unit Refusal) : Type 0 where
  pub judged : Judged (list_of_job j c (Unfit j.network (start j c) (goal j c) list)) r
  pub job_kept : j' ≡ j
  pub list_kept : list' ≡ list

pub record MoveFound (j : Numbers) (c : ℕ) (ends : Ends) : Type 0 where
  pub no_fault : None (asked_question j c)
  pub start_is : ends.start ≡ start j c
  pub goal_is : ends.goal ≡ goal j c

abbrev pub MoveAsked : Numbers → ℕ → Result Ends Refusal → Type 0
MoveAsked j c (Ok ends) = MoveFound j c ends
MoveAsked j c (Err r) = First (asked_question j c) (number_of r.fault) r.place

pub record WalkFrom (N : Network) (s g : ℕ) : Type 0 where
  pub few : N.nodes ≤ node_limit
  pub start_numbered : s < N.nodes
  pub goal_numbered : g < N.nodes

pub record Walkable (N : Network) (moves : List ℕ) : Type 0 where
  pub few : N.nodes ≤ node_limit
  pub ends : EndsOn (floor N) moves

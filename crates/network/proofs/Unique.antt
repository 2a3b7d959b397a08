-- One answer fits each promise: two answers that fit what a check ensures are equal. There is at most one
-- first fault, and none where the answer is sound (hall's `judged_unique`), whatever stages the check asks;
-- and a yes or no that tells of a statement is the only one (`answers_unique`). One line for each public
-- function. Assumes nothing.
--     OneAnswer q    two answers that fit the question q are equal
use mathlib.Core.Path.{◌≡◌}
use mathlib.Core.Bool.{Bool}
use mathlib.Core.List.{List, [], ◌∷◌}
use Prim.Native.Nat.{ℕ}
use Rattle.std.specs.Prelude.{Result}
use Rattle.hall.specs.declared.Refusal.{Refusal}
use Rattle.hall.specs.Floor.{Network, Closed}
use Rattle.hall.specs.Job.{Numbers}
use Rattle.hall.specs.Rule.{Answers}
use Rattle.hall.specs.Stages.{Question, only_at}
use Rattle.hall.specs.Said.{Judged}
use Rattle.hall.specs.Questions.{counts, ends, each_lane, each_closed, each_move, each_order_place}
use Rattle.hall.specs.Questions.{network_question, moves_question, checks_question, move_ends}
use Rattle.hall.proofs.Stages.{judged_unique}
use Rattle.hall.proofs.Answers.{answers_unique}
use Rattle.network.specs.declared.entries.Entries.{Entries}
use Rattle.network.specs.Entries.{each_in}

abbrev pub OneAnswer : Question → Type 0
OneAnswer q = (c d : Result Unit Refusal) → Judged q c → Judged q d → c ≡ d

pub check_counts_unique : (nodes numbers_of_lanes closed carriers order dwell : ℕ) →
    OneAnswer (counts nodes numbers_of_lanes closed carriers order dwell)
check_counts_unique nodes numbers_of_lanes closed carriers order dwell =
    judged_unique (counts nodes numbers_of_lanes closed carriers order dwell)

pub check_lane_unique : (nodes : ℕ) (lanes : List ℕ) (k : ℕ) → OneAnswer (only_at k (each_lane nodes lanes))
check_lane_unique nodes lanes k = judged_unique (only_at k (each_lane nodes lanes))

pub is_closed_unique : (closed : List ℕ) (node : ℕ) (r r' : Bool) →
    Answers r (Closed closed node) → Answers r' (Closed closed node) → r ≡ r'
is_closed_unique closed node = answers_unique (Closed closed node)

pub check_closed_node_unique : (nodes : ℕ) (closed : List ℕ) (k : ℕ) →
    OneAnswer (only_at k (each_closed nodes closed))
check_closed_node_unique nodes closed k = judged_unique (only_at k (each_closed nodes closed))

pub check_ends_unique : (nodes : ℕ) (closed : List ℕ) (start goal i : ℕ) →
    OneAnswer (only_at i (ends nodes closed (λ p. start) (λ p. goal)))
check_ends_unique nodes closed start goal i = judged_unique (only_at i (ends nodes closed (λ p. start) (λ p. goal)))

pub check_entry_unique : (nodes : ℕ) (closed moves : List ℕ) (i : ℕ) →
    OneAnswer (only_at i (each_move nodes closed moves))
check_entry_unique nodes closed moves i = judged_unique (only_at i (each_move nodes closed moves))

pub check_place_unique : (carriers : ℕ) (order : List ℕ) (p : ℕ) →
    OneAnswer (only_at p (each_order_place carriers order))
check_place_unique carriers order p = judged_unique (only_at p (each_order_place carriers order))

pub check_one_unique : (which : Entries) (nodes carriers : ℕ) (closed list : List ℕ) (k : ℕ) →
    OneAnswer (only_at k (each_in which nodes carriers closed list))
check_one_unique which nodes carriers closed list k =
    judged_unique (only_at k (each_in which nodes carriers closed list))

pub check_each_unique : (which : Entries) (nodes carriers : ℕ) (closed list : List ℕ) →
    OneAnswer (each_in which nodes carriers closed list ∷ [])
check_each_unique which nodes carriers closed list =
    judged_unique (each_in which nodes carriers closed list ∷ [])

pub check_network_unique : (N : Network) → OneAnswer (network_question N)
check_network_unique N = judged_unique (network_question N)

pub check_moves_unique : (j : Numbers) → OneAnswer (moves_question j)
check_moves_unique j = judged_unique (moves_question j)

pub check_job_unique : (j : Numbers) → OneAnswer (checks_question j)
check_job_unique j = judged_unique (checks_question j)

pub check_move_unique : (N : Network) (s g : ℕ) → OneAnswer (move_ends N s g)
check_move_unique N s g = judged_unique (move_ends N s g)

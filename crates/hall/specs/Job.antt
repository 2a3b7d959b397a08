-- A job from numbers (rules 1.1, 1.5 to 1.7, 1.9, 3.1, 3.7 to 3.9 and 8.22).
--     move_count        how many moves a list of starts and goals by turns has; an odd last number is no move
--     start_in, goal_in  the start and the goal of the carrier with a number, in such a list
--     Numbers          the numbers of a job: its network; its moves, by carrier number; its order, which
--                      lists carrier numbers by place; its dwell, the number of ticks that each carrier
--                      stands on its goal after its goal tick (rule 1.9)
--     job_of            the job of lent numbers; the one place where a job is put together
--     job_in           the job that is lent as `JobNumbers` of src/
--     carriers         how many carriers there are, which the length of the moves' list tells
--     start, goal      the start and the goal of the carrier with a number
--     at_place         the carrier number at a place in the order: the two kinds of number are kept apart
--     EndsOn F moves   every start and every goal of the moves is a node of the floor
use Rattle.std.specs.Prelude.{List, ℕ, ◌+◌, ◌*◌, ◌/◌, ◌<◌, length, get_or}
use Rattle.hall.specs.declared.JobNumbers.{JobNumbers as Lent}
use Rattle.hall.specs.Floor.{Floor, Network, network_in}

abbrev pub move_count : List ℕ → ℕ
move_count moves = length moves / 2

abbrev pub start_in : List ℕ → ℕ → ℕ
start_in moves i = get_or moves (2 * i) 0

abbrev pub goal_in : List ℕ → ℕ → ℕ
goal_in moves i = get_or moves (2 * i + 1) 0

pub record Numbers : Type 0 where
  pub network : Network
  pub moves : List ℕ
  pub order : List ℕ
  pub dwell : ℕ

abbrev pub job_of : (N : Network) (moves order : List ℕ) (dwell : ℕ) → Numbers
job_of N moves order dwell = record { network = N; moves = moves; order = order; dwell = dwell }

abbrev pub job_in : Lent → Numbers
job_in j = job_of (network_in j.network) j.moves.now j.order.now j.dwell

abbrev pub carriers : Numbers → ℕ
carriers j = move_count j.moves

abbrev pub start : Numbers → ℕ → ℕ
start j = start_in j.moves

abbrev pub goal : Numbers → ℕ → ℕ
goal j = goal_in j.moves

abbrev pub at_place : Numbers → ℕ → ℕ
at_place j p = get_or j.order p 0

pub record EndsOn (F : Floor) (moves : List ℕ) : Type 0 where
  pub starts : (i : ℕ) → i < move_count moves → F.Node (start_in moves i)
  pub goals : (i : ℕ) → i < move_count moves → F.Node (goal_in moves i)

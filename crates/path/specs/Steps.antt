-- The steps inside the questions about paths. No public promise speaks of them: the functions of this crate
-- promise them to each other. N is the network, s and g are the move's start and goal.
--     Downhill       a row with the distance of every node to the goal, and the start is reached
--     MoveReached    what the checks of a move without a list answer: 2, 3, 12, 4, 5, 13, 8; where none holds,
--                    the row is downhill as far as there are nodes
--     Next           node v is a neighbour of u, at the wanted distance
--     Leads          one end of a lane leads from u to a node b at the wanted distance
--     lower_of       the lower of the best so far, if there is one, and a node
--     Nearer         one end of a lane was looked at: where it leads, the lower of b and the best so far is taken
--     AtMost         there is a best, and it is at most the node
--     LowestNext     the lowest-numbered neighbour at the wanted distance, or nothing if there is none
--     Laid           the first places of the list are the house path, and the others are as they came
--     Walks          the list leads from start to goal, whatever its length: its first number is the start,
--                    its last the goal, and lanes lead from each to the next, whether its nodes are open or
--                    not
--     OnWay          the number v is a node, and the row has a distance there: it is open and has a walk to
--                    the goal
--     AllOnWay       every number of the list is such a node
use Rattle.std.specs.Prelude.{◌≡◌, ◌≢◌, List, ℕ, ◌+◌, ◌-◌, ◌≤◌, ◌<◌, min, length, get_or, take}
use Rattle.std.specs.Prelude.{Result, Ok, Err, Option, Some, None as Nothing}
use Rattle.hall.specs.declared.Refusal.{Refusal}
use Rattle.hall.specs.Limits.{node_limit, no_walk_mark}
use Rattle.hall.specs.Floor.{DistanceIs, Lane, Network, floor}
use Rattle.hall.specs.Path.{HousePath}
use Rattle.hall.specs.Numbers.{number_of}
use Rattle.hall.specs.Stages.{First, None}
use Rattle.hall.specs.Questions.{move_question}

pub record Downhill (N : Network) (s g : ℕ) (row : List ℕ) : Type 0 where
  pub few : N.nodes ≤ node_limit
  pub wide : N.nodes ≤ length row
  pub distances : (v : ℕ) → v < N.nodes → DistanceIs (floor N) g v (get_or row v 0)
  pub numbered : s < N.nodes
  pub reached : get_or row s 0 ≢ no_walk_mark

abbrev pub MoveReached : (N : Network) (s g : ℕ) (row : List ℕ) → Result Unit Refusal → Type 0
MoveReached N s g row (Ok u) = None (move_question N s g) × Downhill N s g (take N.nodes row)
    × (length (take N.nodes row) ≡ N.nodes)
MoveReached N s g row (Err r) = First (move_question N s g) (number_of r.fault) r.place

pub record Next (nodes : ℕ) (lanes row : List ℕ) (u wanted v : ℕ) : Type 0 where
  pub numbered : v < nodes
  pub lane : Lane lanes u v
  pub at_distance : get_or row v 0 ≡ wanted

pub record Leads (nodes : ℕ) (row : List ℕ) (u a b wanted : ℕ) : Type 0 where
  pub from_here : a ≡ u
  pub numbered : b < nodes
  pub at_distance : get_or row b 0 ≡ wanted

abbrev pub lower_of : Option ℕ → ℕ → ℕ
lower_of (Some v) b = min v b
lower_of Nothing b = b

pub data Nearer (nodes : ℕ) (row : List ℕ) (u a b wanted : ℕ) (best r : Option ℕ) : Type 0 where
  kept : ¬ Leads nodes row u a b wanted → r ≡ best → Nearer nodes row u a b wanted best r
  taken : Leads nodes row u a b wanted → r ≡ Some (lower_of best b) → Nearer nodes row u a b wanted best r

abbrev pub AtMost : Option ℕ → ℕ → Type 0
AtMost (Some v) w = v ≤ w
AtMost Nothing w = ⊥

pub record LowestNext (nodes : ℕ) (lanes row : List ℕ) (u wanted : ℕ) (r : Option ℕ) : Type 0 where
  pub is_next : (v : ℕ) → r ≡ Some v → Next nodes lanes row u wanted v
  pub lowest : (v : ℕ) → Next nodes lanes row u wanted v → AtMost r v

pub record Laid (N : Network) (s g : ℕ) (path path' : List ℕ) (count : ℕ) : Type 0 where
  pub d : ℕ
  pub nodes_of_it : count ≡ d + 1
  pub fits : count ≤ node_limit
  pub is_house_path : HousePath (floor N) s g d (take count path')
  pub same_length : length path' ≡ length path
  pub beyond : (k : ℕ) → count ≤ k → get_or path' k 0 ≡ get_or path k 0

pub record Walks (lanes : List ℕ) (s g : ℕ) (list : List ℕ) : Type 0 where
  pub some : 0 < length list
  pub begins : get_or list 0 0 ≡ s
  pub ends : get_or list (length list - 1) 0 ≡ g
  pub joins : (k : ℕ) → k + 1 < length list → Lane lanes (get_or list k 0) (get_or list (k + 1) 0)

pub record OnWay (nodes : ℕ) (row : List ℕ) (v : ℕ) : Type 0 where
  pub numbered : v < nodes
  pub reached : get_or row v 0 ≢ no_walk_mark

abbrev pub AllOnWay : (nodes : ℕ) (row list : List ℕ) → Type 0
AllOnWay nodes row list = (k : ℕ) → k < length list → OnWay nodes row (get_or list k 0)

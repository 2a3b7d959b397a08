-- Networks, floors, walks and distances (rules 2.1 to 2.8). Nothing here names a search.
--     Floor               which numbers are nodes, and which two numbers a lane joins. `Joined` is over all
--                         numbers, nodes or not: it is a walk that stands on nodes. Every definition of walks
--                         and paths speaks of a floor
--     Symmetric F         lanes run both ways: what joins a to b joins b to a. That a lane joins two
--                         different nodes is a check's (`LaneFault`, Refusals.antt)
--     Walk F a b n        a walk of n lanes from a to b. Each of its n + 1 numbers is a node, that of a walk
--                         of no lanes too
--     Dist F a b d        the distance of a and b: some walk between them has d lanes, and none has fewer
--     NoWalk F a b        no walk joins a and b
--     DistanceIs F a b r  the number r stands for the distance of a and b: 0 to 1,023, or 65,535 where there
--                         is no walk
--     lanes_in           a lane list has two numbers a lane
--     lower, higher       the first and the second number of lane k
--     Lane lanes a b      a lane of the list joins a and b, whichever of them stands first
--     Network             a node count, a lane list and a list of closed nodes
--     network_of           the network of lent numbers; the one place where a network is put together
--     network_in           the network that is lent as a `Network` of src/
--     Closed closed v     the number v stands in a list of closed nodes, at the place k
--     Open N v            v is an open node of a network: nodes are numbered from 0, and it is not closed
--     floor N             the floor of a network: its nodes are the open ones, and its lanes join them. A
--                         lane to a closed node is in no walk, since a walk stands on both its ends
use Rattle.std.specs.Prelude.{◌≡◌, ◌⊎◌, List, ℕ, zero, suc, ◌+◌, ◌*◌, ◌/◌, ◌≤◌, ◌<◌, length, get_or}
use Rattle.hall.specs.declared.Network.{Network as Lent}
use Rattle.hall.specs.Limits.{distance_limit, no_walk_mark}

pub record Floor : Type 1 where
  pub Node : ℕ → Type 0
  pub Joined : ℕ → ℕ → Type 0

abbrev pub Symmetric : Floor → Type 0
Symmetric F = (a b : ℕ) → F.Joined a b → F.Joined b a

pub data Walk (F : Floor) : ℕ → ℕ → ℕ → Type 0 where
  here : {a : ℕ} → F.Node a → Walk F a a zero
  step : {a b c n : ℕ} → F.Node a → F.Joined a b → Walk F b c n → Walk F a c (suc n)

pub record Dist (F : Floor) (a b d : ℕ) : Type 0 where
  pub walk : Walk F a b d
  pub least : (n : ℕ) → Walk F a b n → d ≤ n

abbrev pub NoWalk : Floor → ℕ → ℕ → Type 0
NoWalk F a b = (n : ℕ) → ¬ Walk F a b n

pub data DistanceIs (F : Floor) (a b r : ℕ) : Type 0 where
  no_walk : r ≡ no_walk_mark → NoWalk F a b → DistanceIs F a b r
  distance : r ≤ distance_limit → Dist F a b r → DistanceIs F a b r

-- ---- lane lists

abbrev pub lanes_in : List ℕ → ℕ
lanes_in lanes = length lanes / 2

abbrev pub lower : List ℕ → ℕ → ℕ
lower lanes k = get_or lanes (2 * k) 0

abbrev pub higher : List ℕ → ℕ → ℕ
higher lanes k = get_or lanes (2 * k + 1) 0

pub record Lane (lanes : List ℕ) (a b : ℕ) : Type 0 where
  pub k : ℕ
  pub inside : k < lanes_in lanes
  pub ends : ((lower lanes k ≡ a) × (higher lanes k ≡ b)) ⊎ ((lower lanes k ≡ b) × (higher lanes k ≡ a))

-- ---- networks

pub record Network : Type 0 where
  pub nodes : ℕ
  pub lanes : List ℕ
  pub closed : List ℕ

abbrev pub network_of : ℕ → (lanes closed : List ℕ) → Network
network_of nodes lanes closed = record { nodes = nodes; lanes = lanes; closed = closed }

abbrev pub network_in : Lent → Network
network_in n = network_of n.nodes n.lanes.now n.closed.now

pub record Closed (closed : List ℕ) (v : ℕ) : Type 0 where
  pub k : ℕ
  pub inside : k < length closed
  pub is : get_or closed k 0 ≡ v

pub record Open (N : Network) (v : ℕ) : Type 0 where
  pub numbered : v < N.nodes
  pub not_closed : ¬ Closed N.closed v

abbrev pub floor : Network → Floor
floor N = record { Node = Open N; Joined = Lane N.lanes }

-- A row of distances from one source (rules 2.5 to 2.8 and 9.2). Nothing here names a search.
--     RowServed    what the walk takes: at most 1,024 nodes, a source among them, and a place of the row for
--                  each node. The source may be closed: there is no walk from it then. Every lane list is
--                  taken: a walk stands on open nodes, so a lane with an end that is none is in no walk. So
--                  is every list of closed nodes: an entry that is no node closes nothing
--     RowFilled    the row afterwards: at each node's place the distance from the source to that node, or the
--                  mark where no walk joins the two, as at a closed node; the places past the nodes are as
--                  they came
--     Rowed        the walk's answer and the row that it leaves: filled, or refused and as it came
use Rattle.std.specs.Prelude.{◌≡◌, Bool, true, false, List, ℕ, ◌≤◌, ◌<◌, length, get_or}
use Rattle.hall.specs.Limits.{node_limit}
use Rattle.hall.specs.Floor.{DistanceIs, Network, floor}

pub record RowServed (N : Network) (source : ℕ) (row : List ℕ) : Type 0 where
  pub few : N.nodes ≤ node_limit
  pub numbered : source < N.nodes
  pub wide : N.nodes ≤ length row

pub record RowFilled (N : Network) (source : ℕ) (row left : List ℕ) : Type 0 where
  pub size : length left ≡ length row
  pub holds : (v : ℕ) → v < N.nodes → DistanceIs (floor N) source v (get_or left v 0)
  pub beyond : (v : ℕ) → N.nodes ≤ v → get_or left v 0 ≡ get_or row v 0

pub data Rowed (N : Network) (source : ℕ) (row left : List ℕ) (r : Bool) : Type 0 where
  filled : r ≡ true → RowServed N source row → RowFilled N source row left → Rowed N source row left r
  refused : r ≡ false → ¬ RowServed N source row → left ≡ row → Rowed N source row left r

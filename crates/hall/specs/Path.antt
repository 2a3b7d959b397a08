-- Paths, where a carrier stands at a tick, meeting and crossing (rules 3.4 to 3.6, 3.11 and 6.1 to 6.3).
--     PathOf F s g d l    the list l is a path of d lanes from s to g: it has d + 1 numbers, each of them a
--                         node of the floor, the first is s, the last is g, and a lane leads from each to the
--                         next
--     ShortestPath        a path whose d is the distance of start and goal
--     HousePath           a shortest path on which each next node has the lowest number of all that a lane
--                         joins to where it stands and that are one lane nearer to the goal
--     At w l t x v        the carrier with start tick t on path l stands on node v at tick x, where carriers
--                         have the dwell w. It goes along one lane a tick, `gone` of them so far, and stands
--                         on the last node of its path, its goal, up to w ticks longer, `stood` of them so
--                         far. So it is on the floor from tick t to tick t + d + w, and absent at all others
--     Meet w              two carriers, the second with ', stand on one node at one tick
--     Cross w             between a tick and the next two carriers exchange two different nodes
use Rattle.std.specs.Prelude.{◌≡◌, ◌⊎◌, ◌≢◌, List, ℕ, ◌+◌, ◌-◌, ◌≤◌, ◌<◌, length, get_or}
use Rattle.hall.specs.Floor.{Floor, Dist}

pub record PathOf (F : Floor) (s g d : ℕ) (path : List ℕ) : Type 0 where
  pub size : length path ≡ d + 1
  pub begins : get_or path 0 0 ≡ s
  pub ends : get_or path d 0 ≡ g
  pub nodes : (k : ℕ) → k ≤ d → F.Node (get_or path k 0)
  pub joins : (k : ℕ) → k < d → F.Joined (get_or path k 0) (get_or path (k + 1) 0)

pub record ShortestPath (F : Floor) (s g : ℕ) (path : List ℕ) : Type 0 where
  pub d : ℕ
  pub short : Dist F s g d
  pub is_path : PathOf F s g d path

pub record HousePath (F : Floor) (s g d : ℕ) (path : List ℕ) : Type 0 where
  pub short : Dist F s g d
  pub is_path : PathOf F s g d path
  pub lowest : (k : ℕ) → k < d → (v : ℕ) → F.Joined (get_or path k 0) v →
      Dist F v g (d - (k + 1)) → get_or path (k + 1) 0 ≤ v

pub record At (w : ℕ) (path : List ℕ) (t x v : ℕ) : Type 0 where
  pub gone : ℕ
  pub stood : ℕ
  pub time : t + gone + stood ≡ x
  pub present : gone < length path
  -- it stands still at its goal only, and no longer than the dwell
  pub waits_at_goal : (stood ≡ 0) ⊎ (gone + 1 ≡ length path)
  pub within_dwell : stood ≤ w
  pub node : get_or path gone 0 ≡ v

pub record Meet (w : ℕ) (path : List ℕ) (t : ℕ) (path' : List ℕ) (t' : ℕ) : Type 0 where
  pub tick : ℕ
  pub node : ℕ
  pub first : At w path t tick node
  pub second : At w path' t' tick node

pub record Cross (w : ℕ) (path : List ℕ) (t : ℕ) (path' : List ℕ) (t' : ℕ) : Type 0 where
  pub tick : ℕ
  pub node : ℕ
  pub other : ℕ
  pub different : node ≢ other
  pub first_before : At w path t tick node
  pub first_after : At w path t (tick + 1) other
  pub second_before : At w path' t' tick other
  pub second_after : At w path' t' (tick + 1) node

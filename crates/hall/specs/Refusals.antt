-- When the faults 3, 4, 7, 12 and 13 hold of an entry, exactly (rules 8.3, 8.4, 8.7, 8.12 and 8.13). Each
-- speaks of the lists that it looks at and of no more. Fault 5, which compares two numbers, stands in its
-- stage. Which question asks for which, in which order and at which places, is said in Questions.antt.
--     Exceeds         lane k stands above lane j in the rising order of (lower, higher)
--     LaneFault       3, at lane k: a number of it is no node, its higher node stands first or one node
--                     twice, or it does not exceed its predecessor
--     ClosedFault     12, at entry k of the closed nodes: it is no node, or does not exceed its predecessor
--     NoNode-at       4, of one move: its start or its goal is no node
--     ClosedEnd-at    13, of one move: its start or its goal is closed
--     BadOrder-at     7, at place p: it names a carrier that is not there, or one that an earlier place names
use Rattle.std.specs.Prelude.{◌≡◌, ◌⊎◌, List, ℕ, ◌+◌, ◌≤◌, ◌<◌, get_or}
use Rattle.hall.specs.Floor.{lower, higher, Closed}

pub data Exceeds (lanes : List ℕ) (k j : ℕ) : Type 0 where
  by_lower : lower lanes j < lower lanes k → Exceeds lanes k j
  by_higher : lower lanes j ≡ lower lanes k → higher lanes j < higher lanes k → Exceeds lanes k j

pub data LaneFault (nodes : ℕ) (lanes : List ℕ) (k : ℕ) : Type 0 where
  no_node : (nodes ≤ lower lanes k) ⊎ (nodes ≤ higher lanes k) → LaneFault nodes lanes k
  not_below : higher lanes k ≤ lower lanes k → LaneFault nodes lanes k
  not_rising : {j : ℕ} → j + 1 ≡ k → ¬ Exceeds lanes k j → LaneFault nodes lanes k

pub data ClosedFault (nodes : ℕ) (closed : List ℕ) (k : ℕ) : Type 0 where
  no_such_node : nodes ≤ get_or closed k 0 → ClosedFault nodes closed k
  not_higher : (j : ℕ) → j + 1 ≡ k → get_or closed k 0 ≤ get_or closed j 0 → ClosedFault nodes closed k

abbrev pub NoNode-at : (nodes s g : ℕ) → Type 0
NoNode-at nodes s g = (nodes ≤ s) ⊎ (nodes ≤ g)

abbrev pub ClosedEnd-at : (closed : List ℕ) (s g : ℕ) → Type 0
ClosedEnd-at closed s g = Closed closed s ⊎ Closed closed g

pub data BadOrder-at (count : ℕ) (order : List ℕ) (p : ℕ) : Type 0 where
  no_carrier : count ≤ get_or order p 0 → BadOrder-at count order p
  stands_earlier : {q : ℕ} → q < p → get_or order q 0 ≡ get_or order p 0 → BadOrder-at count order p

-- The steps inside the distance walk. No public promise speaks of them: its functions promise them to each
-- other, and another search for the distances needs none of them. `row` is the row before a step and `left`
-- the row after it. A lane is calm if it lets no label fall: the row is near itself there (`NearAt`). `lower`
-- and `higher` are the first and the second number of a lane, whichever is lower: lists may be unsorted here.
-- A sweep sees in a label that a node is closed, so its steps speak of labels below the mark of a closed
-- node, 65,535, and of no closed list; which nodes these are is said by `Labelled`.
--     unreached_mark  the label of an open node that is not reached: no walk is so long
--     Shut           the closed nodes of a list got their mark, and nothing else changed
--     Settled        what was not reached got the mark for "no walk", and nothing else changed
--     Greatest       the greatest number of a list, 0 of an empty one
--     Clean          if `clean` is true, every number of the lane list is a node, an odd last one too
--     Near           at either end of a lane the label in `left` is at most one above the label in `row` at
--                    the other end
--     NearAt         the same of lane k, if both its ends are nodes and neither label in `row` is that of a
--                    closed one
--     Looked         what a look at a lane leaves, and whether a label fell
--     lanes_left      of `count` lanes, how many a sweep over all of them has still to look at when it comes
--                    to lane k, that lane included: going there, and going back
--     Labelled       a label of node v: one of the two marks, by whether v is open, or the length of a walk
--                    from the source
--     AllLabelled    every node has such a label
--     OnlyFell       what every step of a round or a sweep keeps: labels of nodes fell, each to the length of
--                    a walk, none rose, and nothing else changed
--     Sweepable      what a sweep of `todo` lanes takes: a place of the row for each node, a list of as many
--                    lanes or more, and those that it leaves out are calm
--     Fell           a label that fell
--     LanesSwept     what a sweep leaves, and how many lanes the next one has, which goes the other way. By
--                    `sweepable` every lane is calm where it has none
use Rattle.std.specs.Prelude.{◌≡◌, ◌⊎◌, ◌≢◌, Bool, true, false, not, List, ℕ, ◌+◌, ◌-◌, ◌≤◌, ◌<◌, length, get_or, set}
use Rattle.hall.specs.Limits.{no_walk_mark}
use Rattle.hall.specs.Floor.{Walk, Network, network_of, Closed, Open, floor, lanes_in, lower, higher}

abbrev pub unreached_mark : ℕ
unreached_mark = 65534

pub record Shut (nodes : ℕ) (closed row left : List ℕ) : Type 0 where
  pub size : length left ≡ length row
  pub marked : (v : ℕ) → v < nodes → Closed closed v → get_or left v 0 ≡ no_walk_mark
  pub kept : (v : ℕ) → ¬ Closed closed v → get_or left v 0 ≡ get_or row v 0
  pub beyond : (v : ℕ) → nodes ≤ v → get_or left v 0 ≡ get_or row v 0

pub record Settled (nodes : ℕ) (row left : List ℕ) : Type 0 where
  pub size : length left ≡ length row
  pub marked : (v : ℕ) → v < nodes → get_or row v 0 ≡ unreached_mark → get_or left v 0 ≡ no_walk_mark
  pub kept : (v : ℕ) → get_or row v 0 ≢ unreached_mark → get_or left v 0 ≡ get_or row v 0
  pub beyond : (v : ℕ) → nodes ≤ v → get_or left v 0 ≡ get_or row v 0

pub record Greatest (numbers : List ℕ) (top : ℕ) : Type 0 where
  pub most : (i : ℕ) → i < length numbers → get_or numbers i 0 ≤ top
  pub listed : (top ≡ 0) ⊎ ((i : ℕ) × (i < length numbers) × (get_or numbers i 0 ≡ top))

abbrev pub Clean : (nodes : ℕ) (lanes : List ℕ) → Bool → Type 0
Clean nodes lanes clean = clean ≡ true → (i : ℕ) → i < length lanes → get_or lanes i 0 < nodes

pub record Near (row left : List ℕ) (a b : ℕ) : Type 0 where
  pub second : get_or left b 0 ≤ get_or row a 0 + 1
  pub first : get_or left a 0 ≤ get_or row b 0 + 1

abbrev pub NearAt : (nodes : ℕ) (lanes row left : List ℕ) → ℕ → Type 0
NearAt nodes lanes row left k =
    lower lanes k < nodes → higher lanes k < nodes
    → get_or row (lower lanes k) 0 < no_walk_mark → get_or row (higher lanes k) 0 < no_walk_mark
    → Near row left (lower lanes k) (higher lanes k)

pub data Looked (nodes a b : ℕ) (row left : List ℕ) : Bool → Type 0 where
  kept : (a < nodes → b < nodes → get_or row a 0 < no_walk_mark → get_or row b 0 < no_walk_mark → Near row row a b)
      → left ≡ row
      → Looked nodes a b row left false
  second_fell : a < nodes
      → b < nodes
      → get_or row a 0 + 1 < get_or row b 0
      → get_or row b 0 < no_walk_mark
      → left ≡ set row b (get_or row a 0 + 1)
      → Looked nodes a b row left true
  first_fell : a < nodes
      → b < nodes
      → get_or row b 0 + 1 < get_or row a 0
      → get_or row a 0 < no_walk_mark
      → left ≡ set row a (get_or row b 0 + 1)
      → Looked nodes a b row left true

abbrev pub lanes_left : ℕ → Bool → ℕ → ℕ
lanes_left count false k = count - k
lanes_left count true k = k + 1

pub data Labelled (N : Network) (source v label : ℕ) : Type 0 where
  unreached : Open N v → label ≡ unreached_mark → Labelled N source v label
  reached : label < unreached_mark → Walk (floor N) source v label → Labelled N source v label
  shut : ¬ Open N v → label ≡ no_walk_mark → Labelled N source v label

abbrev pub AllLabelled : Network → ℕ → List ℕ → Type 0
AllLabelled N source row = (v : ℕ) → v < N.nodes → Labelled N source v (get_or row v 0)

pub record OnlyFell (nodes : ℕ) (lanes row left : List ℕ) : Type 0 where
  pub size : length left ≡ length row
  pub beyond : (v : ℕ) → nodes ≤ v → get_or left v 0 ≡ get_or row v 0
  pub labelled : (closed : List ℕ) (source : ℕ) → AllLabelled (network_of nodes lanes closed) source row
      → AllLabelled (network_of nodes lanes closed) source left
  pub fallen : (v : ℕ) → get_or left v 0 ≤ get_or row v 0

pub record Sweepable (nodes : ℕ) (lanes : List ℕ) (back : Bool) (todo : ℕ) (row : List ℕ) : Type 0 where
  pub wide : nodes ≤ length row
  pub few : todo ≤ lanes_in lanes
  pub calm : (k : ℕ) → k < lanes_in lanes → todo < lanes_left (lanes_in lanes) back k
      → NearAt nodes lanes row row k

pub record Fell (row left : List ℕ) : Type 0 where
  pub node : ℕ
  pub less : get_or left node 0 < get_or row node 0

pub record LanesSwept (nodes : ℕ) (lanes : List ℕ) (back : Bool) (row left : List ℕ) (next : ℕ) : Type 0 where
  pub only : OnlyFell nodes lanes row left
  -- each label is at least as low as one lane from the labels before the sweep lets it fall
  pub near : (k : ℕ) → k < lanes_in lanes → NearAt nodes lanes row left k
  -- what the next sweep takes; if it has lanes, a label fell in this one
  pub sweepable : Sweepable nodes lanes (not back) next left
  pub fell : 0 < next → Fell row left

-- What the steps of filling promise to one another. No public promise cites them. A table has three blocks:
-- 0 start to start, 1 start to goal, 2 goal to goal. In each a carrier has one row, with a place for every
-- carrier.
--     row_from         the node at which carrier i's row of a block begins: its start, or in block 2 its goal
--     read_at          the node at which the row is read for carrier j: its start in block 0, else its goal
--     place_in         the place of carriers i and j in a block
--     RowCopied       the distances of a row at the starts or the goals (offset 0 or 1) of k moves stand in
--                     the table from `base` on; nothing else changed
--     OutsideRow      place x is none of carrier i's row of a block, in a job of k
--     OutsideRows     it is in none of the block's rows that begin at the node, of the first n carriers
--     RowsCopied      the distances of a row stand in the block's rows that begin at the node, of the first n
--                     carriers; nothing else changed
--     NodeFilled      all rows that begin at the node hold the distances from it; nothing else changed
--     CameBefore      the node is one of the first `end` numbers of the moves
use Rattle.std.specs.Prelude.{◌≡◌, ◌⊎◌, List, ℕ, ◌+◌, ◌*◌, ◌/◌, ◌≤◌, ◌<◌, length, get_or}
use Rattle.hall.specs.Limits.{carrier_limit, block_length}
use Rattle.hall.specs.Floor.{Network, floor, DistanceIs}
use Rattle.hall.specs.Job.{move_count}

abbrev pub row_from : List ℕ → ℕ → ℕ → ℕ
row_from moves block i = get_or moves (2 * i + block / 2) 0

abbrev pub read_at : List ℕ → ℕ → ℕ → ℕ
read_at moves block j = get_or moves (2 * j + (block + 1) / 2) 0

abbrev pub place_in : ℕ → ℕ → ℕ → ℕ
place_in block i j = block_length * block + carrier_limit * i + j

pub record RowCopied (row moves : List ℕ) (offset k base : ℕ) (table table' : List ℕ) : Type 0 where
  pub size : length table' ≡ length table
  pub copied : (j : ℕ) → j < k → get_or table' (base + j) 0 ≡ get_or row (get_or moves (2 * j + offset) 0) 0
  pub others : (x : ℕ) → (x < base) ⊎ (base + k ≤ x) → get_or table' x 0 ≡ get_or table x 0

abbrev pub OutsideRow : ℕ → ℕ → ℕ → ℕ → Type 0
OutsideRow k block i x = (x < block_length * block + carrier_limit * i) ⊎ (place_in block i k ≤ x)

abbrev pub OutsideRows : List ℕ → ℕ → ℕ → ℕ → ℕ → Type 0
OutsideRows moves node block n x = (i : ℕ) → i < n → row_from moves block i ≡ node
    → OutsideRow (move_count moves) block i x

pub record RowsCopied (row moves : List ℕ) (node block n : ℕ) (table table' : List ℕ) : Type 0 where
  pub size : length table' ≡ length table
  pub copied : (i j : ℕ) → i < n → j < move_count moves → row_from moves block i ≡ node
      → get_or table' (place_in block i j) 0 ≡ get_or row (read_at moves block j) 0
  pub others : (x : ℕ) → OutsideRows moves node block n x → get_or table' x 0 ≡ get_or table x 0

pub record NodeFilled (N : Network) (moves : List ℕ) (node : ℕ) (table table' : List ℕ) : Type 0 where
  pub size : length table' ≡ length table
  pub held : (block i j : ℕ) → block < 3 → i < move_count moves → j < move_count moves
      → row_from moves block i ≡ node
      → DistanceIs (floor N) node (read_at moves block j) (get_or table' (place_in block i j) 0)
  pub others : (x : ℕ) → ((block : ℕ) → block < 3 → OutsideRows moves node block (move_count moves) x)
      → get_or table' x 0 ≡ get_or table x 0

pub record CameBefore (moves : List ℕ) (end node : ℕ) : Type 0 where
  pub place : ℕ
  pub before : place < end
  pub same : get_or moves place 0 ≡ node

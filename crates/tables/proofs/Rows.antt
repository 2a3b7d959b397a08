-- Rows copied into a block of a table: one row more at each step. The rows of two carriers share no place, so
-- what was copied before stays. Assumes nothing.
--     rows_more                   a row more, that begins at the node
--     rows_passed                 a row that begins at another node is passed over
use mathlib.Core.Path.{◌≡◌, ◌∙◌}
use mathlib.Core.Logic.{◌≢◌, inl}
use mathlib.Core.List.{List}
use Prim.Native.Nat.{ℕ, ◌+◌, ◌*◌, ◌/◌, ◌≤◌, ◌<◌}
use native.Mathlib.Decide.{ℕ_discrete}
use native.Mathlib.Omega.{arith}
use lib.ListN.{get_or}
use Rattle.hall.specs.Limits.{carrier_limit, block_length}
use Rattle.hall.specs.Job.{move_count}
use Rattle.tables.specs.Blocks.{row_from, read_at, place_in, RowCopied, RowsCopied}

module _ (row moves : List ℕ) (node block : ℕ) (table₀ : List ℕ) where
  module _ (n : ℕ) (table : List ℕ) (before : RowsCopied row moves node block n table₀ table) where
    pub rows_passed : {from : ℕ} → from ≡ block / 2 → get_or moves (2 * n + from) 0 ≢ node → RowsCopied row moves node block (n + 1) table₀ table
    rows_passed begins other = record { size = before.size; copied = copied; others = λ x out. before.others x (λ i h e. out i (omega arith) e) }
      where
        copied : (i j : ℕ) → i < n + 1 → j < move_count moves → row_from moves block i ≡ node → get_or table (place_in block i j) 0 ≡ get_or row (read_at moves block j) 0
        copied i j h l e = cases (ℕ_discrete i n)
          where
            cases : Dec (i ≡ n) → get_or table (place_in block i j) 0 ≡ get_or row (read_at moves block j) 0
            cases (yes s) = absurd (other (rw (begins, ← s) e))
            cases (no s) = before.copied i j (omega arith) l e

    pub rows_more : {table' : List ℕ} {from to base : ℕ} → move_count moves ≤ carrier_limit → from ≡ block / 2 → to ≡ (block + 1) / 2 → base ≡ block_length * block + carrier_limit * n
        → get_or moves (2 * n + from) 0 ≡ node → RowCopied row moves to (move_count moves) base table table'
        → RowsCopied row moves node block (n + 1) table₀ table'
    rows_more {table'} few begins read based at-node copied-row = record {
      size = c.size ∙ before.size;
      copied = copied;
      others = λ x out. c.others x (out n (omega arith) (rw begins at at-node)) ∙ before.others x (λ i h e. out i (omega arith) e);
    }
      where
        c : RowCopied row moves ((block + 1) / 2) (move_count moves) (block_length * block + carrier_limit * n) table table'
        c = rw (read, based) at copied-row

        copied : (i j : ℕ) → i < n + 1 → j < move_count moves → row_from moves block i ≡ node → get_or table' (place_in block i j) 0 ≡ get_or row (read_at moves block j) 0
        copied i j h l e = cases (ℕ_discrete i n)
          where
            cases : Dec (i ≡ n) → get_or table' (place_in block i j) 0 ≡ get_or row (read_at moves block j) 0
            cases (yes s) = rw s (c.copied j l)
            cases (no s) = c.others (place_in block i j) (inl (omega arith)) ∙ before.copied i j (omega arith) l e

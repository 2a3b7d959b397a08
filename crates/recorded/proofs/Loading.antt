-- The moves that are loaded are those of the records, as far as an answer goes. Up to 65 records all moves
-- are loaded. Where there are more, 65 are, which is more than 64 too, and an answer that any two such jobs
-- share is an answer for the records' own moves. Assumes nothing.
--     zeros130     the local list before it is loaded
--     loaded_as    what holds of the loaded moves holds of the records' moves, if it holds alike of any moves
--                  of more than 64 carriers
use mathlib.Core.Path.{◌≡◌, subst}
use mathlib.Core.List.{List}
use Prim.Native.Nat.{ℕ, ◌*◌, ◌≤◌, ◌<◌, min}
use native.Mathlib.Decide.{dec_le}
use native.Mathlib.Omega.{arith}
use lib.ListN.{length, replicate, length-take, length-replicate}
use Rattle.hall.specs.Limits.{carrier_limit}
use Rattle.hall.specs.Job.{move_count}
use Rattle.records.specs.declared.Record.{Record}
use Rattle.records.specs.Table.{moves_of, moved}
use Rattle.records.proofs.Laws.{moves_count, moved_length, moved_front}
use Rattle.recorded.specs.Loading.{loaded}

-- ---- the local list, once it is loaded

abbrev pub zeros130 : List ℕ
zeros130 = replicate 130 0

few_loaded : (rs : List Record) → length rs ≤ 65 → loaded (length rs) (moved rs zeros130) ≡ moves_of rs
few_loaded rs few =
    let m : min (length rs) 65 ≡ length rs = omega arith in
    rw m (moved_front rs zeros130 (omega (arith, length-replicate {A = ℕ} 130 0)))

many_loaded : (rs : List Record) → 65 < length rs → carrier_limit < move_count (loaded (length rs) (moved rs zeros130))
many_loaded rs many = rw (length-take (2 * min (length rs) 65) (moved rs zeros130), moved_length rs zeros130, length-replicate {A = ℕ} 130 0) (omega arith)

pub loaded_as : (rs : List Record) (P : List ℕ → Type 0) →
    ((ms ms' : List ℕ) → carrier_limit < move_count ms → carrier_limit < move_count ms' → P ms → P ms')
    → P (loaded (length rs) (moved rs zeros130)) → P (moves_of rs)
loaded_as rs P alike a = cases (dec_le (length rs) 65)
  where
    cases : Dec (length rs ≤ 65) → P (moves_of rs)
    cases (yes few) = subst P (few_loaded rs few) a
    cases (no many) = alike (loaded (length rs) (moved rs zeros130)) (moves_of rs) (many_loaded rs (omega arith)) (rw (moves_count rs) (omega arith)) a

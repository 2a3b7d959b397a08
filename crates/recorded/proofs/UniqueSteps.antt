-- One outcome fits each promise of the functions on numbers that has a definition of its own. Where so many
-- records are too few, nothing is touched and 9 is answered; otherwise what reading into numbers promises has
-- one outcome (reader's `said_unique`). That a table is too short is decided, and then so is how many records
-- are written. `stored_count` promises an equation; the others promise what planning, writing, the question
-- about one list and the house path do, of the moves that are loaded, and the laws of these say that one
-- outcome fits (planner's `planning_unique`, writer's `writing_unique`, path's `left_unique`, hall's
-- `judged_unique`). Assumes nothing.
--     beside_unique    of `read_beside`
--     placing_unique   of `placed_count`
use mathlib.Core.Path.{◌≡◌, sym, ◌∙◌}
use mathlib.Core.List.{List}
use Prim.Native.Nat.{ℕ}
use native.Mathlib.Omega.{arith}
use Rattle.std.proofs.Common.{Result}
use Rattle.hall.specs.declared.Job.{Job}
use Rattle.hall.specs.declared.Refusal.{Refusal}
use Rattle.hall.specs.Limits.{node_limit, carrier_limit, lane_numbers}
use Rattle.hall.specs.Said.{Said}
use Rattle.hall.proofs.Test.{dec, lt?, ◌or?◌}
use Rattle.reader.specs.Reading.{said_read}
use Rattle.reader.proofs.Unique.{said_unique, said_read_one}
use Rattle.recorded.specs.Reading.{RecordsShort}
use Rattle.recorded.specs.Loading.{Beside, few, enough, Placing}

module _ (text lanes closed : List ℕ) (records : ℕ) (moves order l l' c c' m m' o o' : List ℕ) where
  said_beside : (s s' : Said Job)
      → Beside text lanes closed records moves order l c m o s
      → Beside text lanes closed records moves order l' c' m' o' s'
      → (s ≡ s') × (l ≡ l') × (c ≡ c') × (m ≡ m') × (o ≡ o')
  said_beside s s' (few _ h e a b d f) (few _ h' e' a' b' d' f') =
      (e ∙ sym e', a ∙ sym a', b ∙ sym b', d ∙ sym d', f ∙ sym f')
  said_beside s s' (few _ h e a b d f) (enough _ h' x) = absurd (let z : ⊥ = omega arith in z)
  said_beside s s' (enough _ h x) (few _ h' e a b d f) = absurd (let z : ⊥ = omega arith in z)
  said_beside s s' (enough _ h x) (enough _ h' x') =
      said_unique text lanes closed moves order l l' c c' m m' o o' s s' x x'

  pub beside_unique : (r r' : Result Job Refusal)
      → Beside text lanes closed records moves order l c m o (said_read r)
      → Beside text lanes closed records moves order l' c' m' o' (said_read r')
      → (r ≡ r') × (l ≡ l') × (c ≡ c') × (m ≡ m') × (o ≡ o')
  beside_unique r r' x y =
      let e = said_beside (said_read r) (said_read r') x y in
      (said_read_one r r' e.0, e.1, e.2, e.3, e.4)

pub placing_unique : (lanes closed records order count count' : ℕ)
    → Placing lanes closed records order count
    → Placing lanes closed records order count'
    → count ≡ count'
placing_unique lanes closed records order count count' p p' =
    told (dec (lt? lanes lane_numbers or? lt? closed node_limit or? lt? records carrier_limit or? lt? order carrier_limit))
  where
    told : Dec (RecordsShort lanes closed records order) → count ≡ count'
    told (yes short) = p.none short ∙ sym (p'.none short)
    told (no long) = p.all long ∙ sym (p'.all long)

-- One answer and one row for each input: two outcomes of `distances` that fit its promise are equal. Whether
-- the walk is served is decided by the input alone, a row that is refused is as it came, and in a row that is
-- filled each place holds a distance, of which there is one, or what it held before. Assumes nothing.
--     filled_unique     two rows that are filled from the same input are equal
--     rowed_unique      two outcomes that fit the promise are equal
--     rowed_served      an input that is served is answered yes, and its row is filled
use mathlib.Core.Path.{◌≡◌, sym, ◌∙◌}
use mathlib.Core.Bool.{Bool, true}
use mathlib.Core.List.{List}
use Prim.Native.Nat.{ℕ, ◌<◌}
use native.Mathlib.Decide.{dec_lt}
use native.Mathlib.Omega.{arith}
use lib.ListN.{get_or}
use lib.Seq.{ext_get_or}
use Rattle.hall.specs.Floor.{Network}
use Rattle.hall.proofs.Walks.{distance_unique}
use Rattle.walk.specs.Row.{RowServed, RowFilled, Rowed, filled, refused}

module _ {N : Network} {source : ℕ} {row : List ℕ} where
  pub filled_unique : {left left' : List ℕ} → RowFilled N source row left → RowFilled N source row left' → left ≡ left'
  filled_unique {left} {left'} f g = ext_get_or 0 left left' (f.size ∙ sym g.size) (λ v h. at v (dec_lt v N.nodes))
    where
      at : (v : ℕ) → Dec (v < N.nodes) → get_or left v 0 ≡ get_or left' v 0
      at v (yes h) = distance_unique (f.holds v h) (g.holds v h)
      at v (no h) = f.beyond v (omega arith) ∙ sym (g.beyond v (omega arith))

  pub rowed_unique : {left left' : List ℕ} {r r' : Bool} → Rowed N source row left r → Rowed N source row left' r' → (r ≡ r') × (left ≡ left')
  rowed_unique (filled e s f) (filled e' s' f') = (e ∙ sym e', filled_unique f f')
  rowed_unique (filled e s f) (refused e' n k) = absurd (n s)
  rowed_unique (refused e n k) (filled e' s f) = absurd (n s)
  rowed_unique (refused e n k) (refused e' n' k') = (e ∙ sym e', k ∙ sym k')

  -- for callers
  pub rowed_served : {left : List ℕ} {r : Bool} → RowServed N source row → Rowed N source row left r → (r ≡ true) × RowFilled N source row left
  rowed_served s (filled e s' f) = (e, f)
  rowed_served s (refused e n k) = absurd (n s)

-- For callers that lay out the list of held carriers: the numbers at a place are the tick and the pair there,
-- and the first permitted tick depends on nothing else. So a caller who shows what its numbers are, carrier by
-- carrier, has the smallest tick for its own carriers. Assumes nothing.
use mathlib.Core.Path.{◌≡◌}
use mathlib.Core.List.{List}
use Prim.Native.Nat.{ℕ, ◌<◌}
use Rattle.hall.specs.Rule.{Pair}
use Rattle.hall.specs.Ticks.{SmallestFrom, PermittedBy}
use Rattle.rule.specs.declared.Held.{Held}
use Rattle.rule.specs.Held.{held_at, held_pair, held_tick}

pub held_tick_is : (held : List Held) (p t : ℕ) → (held_at held p).tick ≡ t → held_tick held p ≡ t
unfolding held_tick
held_tick_is held p t e = e

pub held_pair_is : (held : List Held) (p : ℕ) (q : Pair) → let six = (held_at held p).pair in
    six.ss ≡ q.ss → six.gg ≡ q.gg → six.ii ≡ q.ii → six.jj ≡ q.jj → six.ij ≡ q.ij → six.ji ≡ q.ji
    → held_pair held p ≡ q
unfolding held_pair
held_pair_is held p q e₁ e₂ e₃ e₄ e₅ e₆ = rw (e₁, e₂, e₃, e₄, e₅, e₆)

module _ (w n : ℕ) (pair pair' : ℕ → Pair) (tick tick' : ℕ → ℕ)
    (same_pair : (p : ℕ) → p < n → pair p ≡ pair' p) (same_tick : (p : ℕ) → p < n → tick p ≡ tick' p) where
  pub permitted_same : (x : ℕ) → PermittedBy w n pair tick x → PermittedBy w n pair' tick' x
  unfolding PermittedBy
  permitted_same x all p l = rw (same_pair p l, same_tick p l) at (all p l)

  permitted_back : (x : ℕ) → PermittedBy w n pair' tick' x → PermittedBy w n pair tick x
  unfolding PermittedBy
  permitted_back x all p l = rw (same_pair p l, same_tick p l) (all p l)

  pub smallest_same : {from x : ℕ}
      → SmallestFrom from (PermittedBy w n pair tick) x → SmallestFrom from (PermittedBy w n pair' tick') x
  smallest_same {x = x} s = record {
    not_before = s.not_before;
    permitted = permitted_same x s.permitted;
    least = λ y h g. s.least y h (permitted_back y g);
  }

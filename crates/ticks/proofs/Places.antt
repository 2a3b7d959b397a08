-- Carriers get their start ticks place by place. A tick at a place is permitted or not by the ticks of
-- earlier places alone, and a carrier's number stands at one place only, so a tick that is written for the
-- next carrier leaves the earlier ones the smallest that they were. When all places are done, the ticks are
-- the start ticks by the order. The bound: a table's number is below 65,536 and the dwell at most 255, so
-- each place adds at most 65,791. Assumes nothing.
use mathlib.Core.Path.{◌≡◌, refl, sym, ◌∙◌}
use mathlib.Core.Logic.{◌≢◌}
use mathlib.Core.List.{List}
use Prim.Native.Nat.{ℕ, ◌+◌, ◌*◌, ◌≤◌, ◌<◌}
use native.Mathlib.Nat.{not-suc-le-zero}
use native.Mathlib.Decide.{dec_lt}
use native.Mathlib.Omega.{arith}
use lib.ListN.{length, get_or, length-set}
use lib.Seq.{get_or-set_same, get_or-set_other}
use Rattle.hall.specs.Limits.{carrier_limit, dwell_limit, block_length}
use Rattle.hall.specs.Ticks.{SmallestFrom, PermittedAt, pair_of, own}
use Rattle.hall.specs.Plan.{tables_in}
use Rattle.hall.proofs.Ticks.{carry}
use Rattle.rule.proofs.Bound.{first_tick_bound}
use Rattle.ticks.specs.Timing.{OrderServed}
use Rattle.ticks.specs.Steps.{Early, PlacedNext, PlacedTo}
use Rattle.ticks.proofs.Order.{entry_below, entry_once}

-- the smallest tick at place q is early, where the ticks before it are
pub next_early : (w : ℕ) (table order ticks : List ℕ) (q : ℕ) {x : ℕ} → w ≤ dwell_limit →
    ((k : ℕ) → get_or table k 0 < 65536) →
    Early order ticks q →
    SmallestFrom 0 (PermittedAt w (tables_in table) order (λ i. get_or ticks i 0) q) x →
    x ≤ 65791 * q
next_early w table order ticks q few small e s =
    first_tick_bound w q
    (λ p. pair_of (tables_in table) (get_or order p 0) (get_or order q 0)) (λ p. get_or ticks (get_or order p 0) 0)
    (65791 * q) s (λ p h. omega (arith, e.by_place p h, own_small (get_or order p 0))) (omega arith)
  where
    own_small : (i : ℕ) → own (tables_in table) i < 65536
    own_small i = small (block_length + (carrier_limit * i + i))

-- the smallest of the ticks that ticks of earlier places permit is the same for ticks that agree there
smallest_kept : (w : ℕ) (table order u v : List ℕ) (q : ℕ) {x : ℕ} →
    ((p : ℕ) → p < q → get_or u (get_or order p 0) 0 ≡ get_or v (get_or order p 0) 0) →
    SmallestFrom 0 (PermittedAt w (tables_in table) order (λ i. get_or u i 0) q) x →
    SmallestFrom 0 (PermittedAt w (tables_in table) order (λ i. get_or v i 0) q) x
smallest_kept w table order u v q {x} e s = record {
  not_before = s.not_before;
  permitted = carry w (tables_in table) order (λ i. get_or u i 0) (λ i. get_or v i 0) q x e s.permitted;
  least = λ y a f. s.least y a (back y f);
}
  where
    back : (y : ℕ) → PermittedAt w (tables_in table) order (λ i. get_or v i 0) q y →
        PermittedAt w (tables_in table) order (λ i. get_or u i 0) q y
    back y = carry w (tables_in table) order (λ i. get_or v i 0) (λ i. get_or u i 0) q y (λ p h. sym (e p h))

module _ (w : ℕ) (table order ticks₀ : List ℕ) where
  pub placed_none : PlacedTo w table order ticks₀ ticks₀ 0
  placed_none = record {
    as_many = refl;
    smallest = λ p h. absurd (not-suc-le-zero h);
    early = record { by_place = λ p h. absurd (not-suc-le-zero h) };
    others = λ i h. refl;
  }

  module _ (room : ℕ) (s : OrderServed table order room) (ticks ticks' : List ℕ) (q : ℕ)
      (inside : q < length order) (room_is : length ticks ≡ room)
      (placed : PlacedTo w table order ticks₀ ticks q) (next : PlacedNext w table order ticks ticks' q) where
    at_new : get_or ticks' (get_or order q 0) 0 ≡ next.tick
    at_new =
        rw next.written
        (get_or-set_same ticks (get_or order q 0) next.tick 0
        (omega (arith, entry_below s q inside, s.few_places, s.enough_room)))

    at_other : (i : ℕ) → i ≢ get_or order q 0 → get_or ticks' i 0 ≡ get_or ticks i 0
    at_other i n = rw next.written (get_or-set_other ticks (get_or order q 0) i next.tick 0 n)

    at_earlier : (p : ℕ) → p < q → get_or ticks' (get_or order p 0) 0 ≡ get_or ticks (get_or order p 0) 0
    at_earlier p h = at_other (get_or order p 0) (entry_once s p q h inside)

    smallest_at : (p : ℕ) → p < q + 1 → Dec (p < q) →
        SmallestFrom 0 (PermittedAt w (tables_in table) order (λ i. get_or ticks' i 0) p)
        (get_or ticks' (get_or order p 0) 0)
    smallest_at p h (yes l) =
        rw (at_earlier p l)
        (smallest_kept w table order ticks ticks' p
        (λ r k. sym (at_earlier r (omega arith))) (placed.smallest p l))
    smallest_at p h (no n) =
        let e : p ≡ q = omega arith in
        rw (e, at_new)
        (smallest_kept w table order ticks ticks' q (λ r k. sym (at_earlier r k)) next.smallest)

    early_at : (p : ℕ) → p < q + 1 → Dec (p < q) → get_or ticks' (get_or order p 0) 0 ≤ 65791 * p
    early_at p h (yes l) = rw (at_earlier p l) (placed.early.by_place p l)
    early_at p h (no n) = let e : p ≡ q = omega arith in rw (e, at_new) next.early

    pub placed_more : PlacedTo w table order ticks₀ ticks' (q + 1)
    placed_more = record {
      as_many = rw next.written (length-set ticks (get_or order q 0) next.tick ∙ placed.as_many);
      smallest = λ p h. smallest_at p h (dec_lt p q);
      early = record { by_place = λ p h. early_at p h (dec_lt p q) };
      others = λ i h.
          at_other i (λ e. h q (omega arith) (sym e)) ∙ placed.others i (λ p l. h p (omega arith));
    }

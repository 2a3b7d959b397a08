-- From slots to the list that the rule's search takes. The list fills up place by place, as in the crate
-- ticks: one more slot written at the next place leaves the earlier ones. A filled list permits what the
-- pairs of all slots permit. Assumes nothing.
--     GatheredTo    the first n places hold the first n slots
use mathlib.Core.Path.{◌≡◌, ◌∙◌, subst}
use mathlib.Core.List.{List}
use Prim.Native.Nat.{ℕ, ◌+◌, ◌<◌}
use native.Mathlib.Nat.{not-suc-le-zero}
use native.Mathlib.Decide.{dec_lt}
use native.Mathlib.Omega.{arith}
use lib.ListN.{length}
use Rattle.hall.specs.Ticks.{SmallestFrom, PermittedBy}
use Rattle.rule.specs.declared.Held.{Held}
use Rattle.rule.specs.Held.{held_tick, held_pair, held_with}
use Rattle.rule.proofs.Carry.{smallest_same}
use Rattle.rule.proofs.Holding.{held_length, held_tick_lem, held_pair_lem, earlier_tick, earlier_pair}
use Rattle.slots.specs.declared.Slot.{Slot}
use Rattle.slots.specs.Record.{slot_count, slot_at}
use Rattle.admission.specs.declared.rows.Rows.{Rows}
use Rattle.admission.specs.Steps.{pair_for, TickFor}

module _ (rows : Rows) (own : ℕ) (slots : List Slot) where
  pub record GatheredTo (held : List Held) (n : ℕ) : Type 0 where
    pub size : length held ≡ slot_count
    pub ticks : (p : ℕ) → p < n → held_tick held p ≡ (slot_at slots p).tick
    pub pairs : (p : ℕ) → p < n → held_pair held p ≡ pair_for rows own (slot_at slots p)

  module _ (held : List Held) (n : ℕ) (l : n < slot_count) (g : GatheredTo held n) where
    abbrev next : List Held
    next = held_with held n (slot_at slots n).tick (pair_for rows own (slot_at slots n))

    fits : n < length held
    fits = omega (arith, g.size)

    next_tick : (p : ℕ) → p < n + 1 → Dec (p < n) → held_tick next p ≡ (slot_at slots p).tick
    next_tick p h (yes k) = earlier_tick held n _ _ p k ∙ g.ticks p k
    next_tick p h (no k) = let e : p ≡ n = omega arith in rw e (held_tick_lem held n _ _ fits)

    next_pair : (p : ℕ) → p < n + 1 → Dec (p < n) → held_pair next p ≡ pair_for rows own (slot_at slots p)
    next_pair p h (yes k) = earlier_pair held n _ _ p k ∙ g.pairs p k
    next_pair p h (no k) = let e : p ≡ n = omega arith in rw e (held_pair_lem held n _ _ fits)

    -- one slot more, with its pair
    pub gathered_more : (held' : List Held) → held' ≡ next → GatheredTo held' (n + 1)
    gathered_more held' e = rw e (record {
      size = held_length held n _ _ ∙ g.size;
      ticks = λ p h. next_tick p h (dec_lt p n);
      pairs = λ p h. next_pair p h (dec_lt p n);
    })

  pub gathered_none : (held : List Held) → length held ≡ slot_count → GatheredTo held 0
  gathered_none held e = record { size = e; ticks = λ p h. absurd (not-suc-le-zero h); pairs = λ p h. absurd (not-suc-le-zero h) }

  pub gathered_smallest : (held : List Held) (w : ℕ) {from x : ℕ} → GatheredTo held slot_count
      → SmallestFrom from (PermittedBy w (length held) (held_pair held) (held_tick held)) x → TickFor rows own w from slots x
  gathered_smallest held w {from} {x} g s =
      smallest_same w slot_count (held_pair held) (λ i. pair_for rows own (slot_at slots i)) (held_tick held) (λ i. (slot_at slots i).tick)
      g.pairs g.ticks
      (subst (λ (n : ℕ). SmallestFrom from (PermittedBy w n (held_pair held) (held_tick held)) x) g.size s)

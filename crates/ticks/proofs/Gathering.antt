-- The held list fills up place by place: nothing is asked of it at first, and one more carrier written at the
-- next place is one more place that is as gathered, since earlier places keep what they hold, and so do those
-- after it. The first places of an order that is served can be gathered. A filled list permits what
-- the carriers before the new one permit: callers cite `lent_smallest`. Assumes nothing.
use mathlib.Core.Path.{◌≡◌, refl, ◌∙◌, ap, subst}
use mathlib.Core.Bool.{Bool, true, false}
use mathlib.Core.List.{List}
use Prim.Native.Nat.{ℕ, ◌+◌, ◌≤◌, ◌<◌}
use native.Mathlib.Nat.{not-suc-le-zero}
use native.Mathlib.Decide.{dec_lt}
use native.Mathlib.Omega.{arith}
use lib.ListN.{length, get_or, take}
use lib.Seq.{length-take-le, get_or-take}
use Rattle.hall.specs.Limits.{carrier_limit}
use Rattle.hall.specs.Ticks.{SmallestFrom, PermittedBy, pair_of}
use Rattle.hall.specs.Plan.{tables_in}
use Rattle.rule.specs.declared.Held.{Held}
use Rattle.rule.specs.Held.{nobody, held_at, held_tick, held_pair, held_with}
use Rattle.ticks.specs.Timing.{OrderServed}
use Rattle.ticks.specs.Gathering.{HeldAt, GatherServed, Gathered, Gathering}
use Rattle.rule.proofs.Carry.{smallest_same}
use Rattle.rule.proofs.Holding.{tick_same, pair_same, held_length, held_tick_lem, held_pair_lem}
use Rattle.rule.proofs.Holding.{earlier_tick, earlier_pair, later}
use Rattle.ticks.proofs.Order.{entry_below}

module _ (table order ticks : List ℕ) (held₀ : List Held) (new : ℕ) where
  pub gathered_none : Gathered table order ticks held₀ held₀ new 0
  gathered_none = record {
    as_many = refl;
    each = λ p h. absurd (not-suc-le-zero h);
    beyond = λ x h. refl;
  }

  -- the carrier at place p is written at place p, with its tick and its pair
  next : (held : List Held) (p : ℕ) → List Held
  next held p =
      held_with held p (get_or ticks (get_or order p 0) 0)
      (pair_of (tables_in table) (get_or order p 0) new)

  next_each : (held : List Held) (p : ℕ) →
      p < length held →
      Gathered table order ticks held₀ held new p →
      (r : ℕ) → r < p + 1 → Dec (r < p) → HeldAt table order ticks (next held p) new r
  unfolding next
  next_each held p fits g r h (yes l) = record {
    tick_is = earlier_tick held p _ _ r l ∙ (g.each r l).tick_is;
    pair_is = earlier_pair held p _ _ r l ∙ (g.each r l).pair_is;
  }
  next_each held p fits g r h (no n) =
      let e : r ≡ p = omega arith in
      rw e (record { tick_is = held_tick_lem held p _ _ fits; pair_is = held_pair_lem held p _ _ fits })

  pub gathered_more : (held held' : List Held) (p i : ℕ) →
      p < length held →
      i ≡ get_or order p 0 →
      held' ≡ held_with held p (get_or ticks i 0) (pair_of (tables_in table) i new) →
      Gathered table order ticks held₀ held new p →
      Gathered table order ticks held₀ held' new (p + 1)
  unfolding next
  gathered_more held held' p i fits ei written g =
      let e : held' ≡ next held p = rw ei at written in
      rw e
      (record {
        as_many = held_length held p _ _ ∙ g.as_many;
        each = λ r h. next_each held p fits g r h (dec_lt r p);
        beyond = λ x h. later held p _ _ x (omega arith) ∙ g.beyond x (omega arith);
      })

-- what is served is gathered
pub served_gathered : (table order ticks : List ℕ) (q new : ℕ) (held held' : List Held) (r : Bool) →
    GatherServed table order (length ticks) q new (length held) →
    Gathering table order ticks q new held held' r →
    Gathered table order ticks held held' new q
served_gathered table order ticks q new held held' true s g = g.gathered
served_gathered table order ticks q new held held' false s g = absurd (g.unserved s)

-- the list keeps its length, served or not
pub gathering_length : (table order ticks : List ℕ) (q new : ℕ) (held held' : List Held) (r : Bool) →
    Gathering table order ticks q new held held' r → length held' ≡ length held
gathering_length table order ticks q new held held' true g = g.gathered.as_many
gathering_length table order ticks q new held held' false g = ap length g.kept

-- the places of a served order up to q are served, in a list with room for every carrier of a job
pub order_gathers : {table order : List ℕ} {timed : ℕ} →
    OrderServed table order timed →
    (q room : ℕ) {new : ℕ} →
    q ≤ length order →
    new < carrier_limit →
    carrier_limit ≤ room →
    GatherServed table order timed q new room
order_gathers s q room h e fits = record {
  whole_table = s.whole_table;
  new_numbered = e;
  within_order = h;
  enough_room = omega (arith, s.few_places);
  numbered = λ p l. omega (arith, entry_below s p (omega arith), s.few_places);
  ticked = λ p l. omega (arith, entry_below s p (omega arith), s.few_places, s.enough_room);
}

-- ---- what a filled list permits

-- `whole` is the list of which only the first q places are lent
module _ (w : ℕ) (table order ticks : List ℕ) (held₀ whole : List Held) (new q : ℕ)
    (g : Gathered table order ticks held₀ whole new q) (fits : q ≤ length whole) where
  abbrev pub lent : List Held
  lent = take q whole

  pub lent_count : length lent ≡ q
  lent_count = length-take-le q whole fits

  lent_at : (p : ℕ) → p < q → held_at lent p ≡ held_at whole p
  lent_at p h = get_or-take q whole p nobody h

  pub lent_tick : (p : ℕ) → p < q → held_tick lent p ≡ get_or ticks (get_or order p 0) 0
  lent_tick p h = tick_same lent whole p (lent_at p h) ∙ (g.each p h).tick_is

  pub lent_pair : (p : ℕ) → p < q → held_pair lent p ≡ pair_of (tables_in table) (get_or order p 0) new
  lent_pair p h = pair_same lent whole p (lent_at p h) ∙ (g.each p h).pair_is

  pub lent_smallest : {from x : ℕ} →
      SmallestFrom from (PermittedBy w (length lent) (held_pair lent) (held_tick lent)) x →
      SmallestFrom from
      (PermittedBy w q (λ p. pair_of (tables_in table) (get_or order p 0) new) (λ p. get_or ticks (get_or order p 0) 0))
      x
  lent_smallest {from} {x} s =
      smallest_same w q
      (held_pair lent) (λ p. pair_of (tables_in table) (get_or order p 0) new)
      (held_tick lent) (λ p. get_or ticks (get_or order p 0) 0)
      lent_pair lent_tick
      (subst (λ (n : ℕ). SmallestFrom from (PermittedBy w n (held_pair lent) (held_tick lent)) x) lent_count s)

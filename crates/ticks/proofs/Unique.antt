-- `start_ticks` has one outcome: two answers with their ticks that fit the promise are equal. Where the input
-- is served, both have the start ticks by the order, which are unique for each carrier it lists, and it lists
-- every number below its length; at other places both have what came. Equal ticks have equal costs. An input
-- is not both served and unserved. So it is for `gather`: a place of the held list is before q, where the
-- carrier is given, or after them, where it is as it came. The promise of
-- `cost` is an equation. Assumes nothing.
--     timing_unique       two outcomes of `start_ticks` that fit its promise are equal
--     gathering_unique    so are two of `gather`
use mathlib.Core.Path.{◌≡◌, refl, sym, ap, ◌∙◌}
use mathlib.Core.Bool.{Bool, true, false}
use mathlib.Core.List.{List}
use Prim.Native.Nat.{ℕ, ◌<◌}
use native.Mathlib.Decide.{dec_lt}
use native.Mathlib.Omega.{arith}
use lib.ListN.{length, get_or}
use lib.Seq.{ext_get_or}
use Rattle.hall.specs.Ticks.{goal_tick}
use Rattle.hall.specs.Plan.{tables_in}
use Rattle.hall.proofs.Ticks.{ticks_unique_all, total_same}
use Rattle.std.specs.Prelude.{Option, Some, None}
use Rattle.ticks.specs.Timing.{Given, said_timed, Timing}
use Rattle.ticks.specs.Gathering.{Gathered, Gathering}
use Rattle.rule.specs.declared.Held.{Held}
use Rattle.rule.specs.Held.{nobody, held_at}
use Rattle.rule.proofs.Holding.{numbers_same}
use Rattle.ticks.proofs.Order.{entry_below, one_place}

module _ (table order : List ℕ) (dwell : ℕ) (ticks : List ℕ) where
  module _ (u v : List ℕ) (c d : ℕ) (a : Given table order dwell ticks u c) (b : Given table order dwell ticks v d) where
    same_tick : (i : ℕ) → Dec (i < length order) → get_or u i 0 ≡ get_or v i 0
    same_tick i (yes l) =
        ticks_unique_all dwell (tables_in table) order (λ j. get_or u j 0) (λ j. get_or v j 0)
        a.start_ticks b.start_ticks (entry_below a.served.listed) (one_place a.served.listed) i l
    same_tick i (no n) = a.others i (omega arith) ∙ sym (b.others i (omega arith))

    given_ticks_unique : u ≡ v
    given_ticks_unique =
        ext_get_or 0 u v (a.as_many ∙ sym b.as_many) (λ i h. same_tick i (dec_lt i (length order)))

    given_cost_unique : c ≡ d
    given_cost_unique =
        a.cost_is
        ∙ total_same (length order)
        (goal_tick (tables_in table) (λ j. get_or u j 0)) (goal_tick (tables_in table) (λ j. get_or v j 0))
        (λ i h. omega (arith, same_tick i (yes h)))
        ∙ sym b.cost_is

  pub timing_unique : (u v : List ℕ) (r r' : Option ℕ) →
      Timing table order dwell ticks u (said_timed r) →
      Timing table order dwell ticks v (said_timed r') →
      (r ≡ r') × (u ≡ v)
  timing_unique u v (Some c) (Some d) a b =
      (ap Some (given_cost_unique u v c d a b), given_ticks_unique u v c d a b)
  timing_unique u v (Some c) None a b = absurd (b.unserved a.served)
  timing_unique u v None (Some d) a b = absurd (a.unserved b.served)
  timing_unique u v None None a b = (refl, a.kept ∙ sym b.kept)

module _ (table order ticks : List ℕ) (q new : ℕ) (held : List Held) where
  module _ (u v : List Held) (a : Gathered table order ticks held u new q) (b : Gathered table order ticks held v new q) where
    same_place : (p : ℕ) → Dec (p < q) → held_at u p ≡ held_at v p
    same_place p (yes l) =
        numbers_same u v p
        ((a.each p l).tick_is ∙ sym (b.each p l).tick_is) ((a.each p l).pair_is ∙ sym (b.each p l).pair_is)
    same_place p (no n) = a.beyond p (omega arith) ∙ sym (b.beyond p (omega arith))

    gathered_unique : u ≡ v
    gathered_unique =
        ext_get_or nobody u v (a.as_many ∙ sym b.as_many) (λ p h. same_place p (dec_lt p q))

  pub gathering_unique : (u v : List Held) (r r' : Bool) →
      Gathering table order ticks q new held u r →
      Gathering table order ticks q new held v r' →
      (r ≡ r') × (u ≡ v)
  gathering_unique u v true true a b = (refl, gathered_unique u v a.gathered b.gathered)
  gathering_unique u v true false a b = absurd (b.unserved a.served)
  gathering_unique u v false true a b = absurd (a.unserved b.served)
  gathering_unique u v false false a b = (refl, a.kept ∙ sym b.kept)

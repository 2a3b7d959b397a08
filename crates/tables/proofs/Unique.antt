-- Each question has one outcome. Of a filled table every place is decided: it holds a distance, which is
-- unique, or zero, or what came in. The lowest carrier without a walk is unique, since each of two would be
-- no higher than the other; and a table that has one is not answered without it. Measuring has the one table,
-- whose own distances decide the list of them. Assumes nothing.
--     filling_unique      two outcomes of `fill` that fit its promise are equal
--     reaching_unique     so are two of `first_unreached`
--     measuring_unique    and two of `measure`, with both lists that are left
use mathlib.Core.Path.{◌≡◌, refl, sym, ◌∙◌, ap, subst}
use mathlib.Core.Logic.{inl, inr}
use mathlib.Core.Bool.{Bool, true, false}
use mathlib.Core.List.{List}
use Prim.Native.Nat.{ℕ, ◌/◌, ◌%◌, ◌≤◌, ◌<◌}
use native.Mathlib.Decide.{dec_lt}
use native.Mathlib.Omega.{arith}
use lib.ListN.{get_or}
use lib.Seq.{ext_get_or}
use Rattle.std.specs.Prelude.{Option, Some, None, Result, Ok, Err}
use Rattle.hall.specs.declared.Carrier.{Carrier}
use Rattle.hall.specs.Limits.{carrier_limit, block_length, table_length}
use Rattle.hall.specs.Floor.{Network}
use Rattle.hall.specs.Job.{move_count}
use Rattle.hall.specs.Ticks.{own}
use Rattle.hall.specs.Plan.{tables_in}
use Rattle.hall.proofs.Walks.{distance_unique}
use Rattle.hall.proofs.Lowest.{dec_and}
use Rattle.hall.proofs.Stages.{first_unique, none_excludes}
use Rattle.hall.proofs.Left.{row_unique}
use Rattle.tables.specs.declared.Unmeasured.{Unmeasured}
use Rattle.tables.specs.declared.Unmeasured.TheVariants.{Lost, Unserved}
use Rattle.tables.specs.Filling.{Used, TableFilled, Filling, FirstLost, NoneLost, looked, unserved}
use Rattle.tables.specs.Filling.{said_reach, Reaching}
use Rattle.tables.specs.Measuring.{Measured, said_tabled, Measuring}

module _ (N : Network) (moves table : List ℕ) where
  module _ (t u : List ℕ) (f : TableFilled N moves table t) (g : TableFilled N moves table u) where
    -- at the place of two carriers, in whichever block it stands
    same_used : (x : ℕ) → x < table_length → Used (move_count moves) x → get_or t x 0 ≡ get_or u x 0
    same_used x h y = cases (dec_lt x block_length) (dec_lt x 8192)
      where
        i : ℕ
        i = x % block_length / carrier_limit

        j : ℕ
        j = x % carrier_limit

        cases : Dec (x < block_length) → Dec (x < 8192) → get_or t x 0 ≡ get_or u x 0
        cases (yes a) b =
            subst (λ (z : ℕ). get_or t z 0 ≡ get_or u z 0) (omega arith)
            (distance_unique (f.true_distances.starts i j y.first y.second) (g.true_distances.starts i j y.first y.second))
        cases (no a) (yes b) =
            subst (λ (z : ℕ). get_or t z 0 ≡ get_or u z 0) (omega arith)
            (distance_unique (f.true_distances.start_goal i j y.first y.second) (g.true_distances.start_goal i j y.first y.second))
        cases (no a) (no b) =
            subst (λ (z : ℕ). get_or t z 0 ≡ get_or u z 0) (omega arith)
            (distance_unique (f.true_distances.goals i j y.first y.second) (g.true_distances.goals i j y.first y.second))

    same_place : (x : ℕ) → get_or t x 0 ≡ get_or u x 0
    same_place x = cases (dec_lt x table_length) (dec_and (dec_lt (x % block_length / carrier_limit) (move_count moves)) (dec_lt (x % carrier_limit) (move_count moves)))
      where
        cases : Dec (x < table_length) → Dec ((x % block_length / carrier_limit < move_count moves) × (x % carrier_limit < move_count moves)) → get_or t x 0 ≡ get_or u x 0
        cases (yes a) (yes b) = same_used x a (record { first = b.0; second = b.1 })
        cases (yes a) (no b) = f.table_left.unused x a (λ y. b (y.first, y.second)) ∙ sym (g.table_left.unused x a (λ y. b (y.first, y.second)))
        cases (no a) b = f.table_left.beyond x (omega arith) ∙ sym (g.table_left.beyond x (omega arith))

    filled_unique : t ≡ u
    filled_unique = ext_get_or 0 t u (f.table_left.size ∙ sym g.table_left.size) (λ x h. same_place x)

  pub filling_unique : (r r' : Bool) (t u : List ℕ) → Filling N moves table t r → Filling N moves table u r' → (r ≡ r') × (t ≡ u)
  filling_unique true true t u f g = (refl, filled_unique t u f g)
  filling_unique true false t u f g = absurd (g.unserved f.served)
  filling_unique false true t u f g = absurd (f.unserved g.served)
  filling_unique false false t u f g = (refl, f.kept ∙ sym g.kept)

-- of two lowest carriers the one is not below the other
not_below : {table : List ℕ} {carriers c c' : ℕ} → FirstLost table carriers c → FirstLost table carriers c' → c' ≤ c
not_below {c = c} {c' = c'} a b = cases (dec_lt c c')
  where
    cases : Dec (c < c') → c' ≤ c
    cases (yes l) = absurd (b.none_lower c l a.marked)
    cases (no l) = omega arith

-- a carrier is answered or none, never both
not_both : {table : List ℕ} {carriers c : ℕ} → FirstLost table carriers c → NoneLost table carriers → ⊥
not_both {c = c} a (looked t k none) = none c a.is_carrier a.marked
not_both a (unserved (inl short)) = omega (arith, a.whole_table)
not_both a (unserved (inr many)) = omega (arith, a.few_carriers)

pub reaching_unique : (table : List ℕ) (carriers : ℕ) (r r' : Option Carrier) →
    Reaching table carriers (said_reach r) → Reaching table carriers (said_reach r') → r ≡ r'
reaching_unique table carriers None None a b = refl
reaching_unique table carriers None (Some c) a b = absurd (not_both b.1 a)
reaching_unique table carriers (Some c) None a b = absurd (not_both a.1 b)
reaching_unique table carriers (Some c) (Some c') a b =
    let same : c.0 ≡ c'.0 = omega (arith, not_below a.1 b.1, not_below b.1 a.1) in
    ap (λ (n : ℕ). Some (record { 0 = n })) same

module _ (N : Network) (moves table distances t u d e : List ℕ) where
  same_own : Measured N moves table t distances d → Measured N moves table u distances e → t ≡ u → d ≡ e
  same_own a b same =
      row_unique a.distances_left b.distances_left
      (λ i h. a.own_distances i h ∙ ap (λ (l : List ℕ). own (tables_in l) i) same ∙ sym (b.own_distances i h))

  pub measuring_unique : (r r' : Result Unit Unmeasured) →
      Measuring N moves table t distances d (said_tabled r) →
      Measuring N moves table u distances e (said_tabled r') →
      (r ≡ r') × (t ≡ u) × (d ≡ e)
  measuring_unique (Ok v) (Ok v') a b =
      let same = filled_unique N moves table t u a.table_filled b.table_filled in (refl, same, same_own a b same)
  measuring_unique (Ok v) (Err (Lost c)) a b = absurd (none_excludes b.first a.all_walk)
  measuring_unique (Ok v) (Err Unserved) a b = absurd (b.unserved a.served)
  measuring_unique (Err (Lost c)) (Ok v) a b = absurd (none_excludes a.first b.all_walk)
  measuring_unique (Err (Lost c)) (Err (Lost c')) a b = (
    ap (λ (n : ℕ). Err (Lost (record { 0 = n }))) (first_unique a.first b.first).1,
    a.table_left ∙ sym b.table_left,
    a.distances_left ∙ sym b.distances_left,
  )
  measuring_unique (Err (Lost c)) (Err Unserved) a b = absurd (b.unserved a.served)
  measuring_unique (Err Unserved) (Ok v) a b = absurd (a.unserved b.served)
  measuring_unique (Err Unserved) (Err (Lost c)) a b = absurd (a.unserved b.served)
  measuring_unique (Err Unserved) (Err Unserved) a b =
      (refl, a.table_kept ∙ sym b.table_kept, a.distances_kept ∙ sym b.distances_kept)

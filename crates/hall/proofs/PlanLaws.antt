-- A job whose order lists each carrier once has at most one plan, and its numbers are within the limits of
-- rule 5.6. The tables are distances, which are unique; the ticks ask the tables only for distances between
-- the order's carriers, so start ticks by one of two equal tables are start ticks by the other, and these are
-- unique; the cost is the sum of equal goal ticks. The limits are those of Ticks.antt, since a carrier's own
-- distance is at most 1,023. A job without faults of the listed checks is such a job; of its moves nothing is
-- used here. Assumes nothing.
--     SameTables    two tables agree for the carrier numbers below k
--     SamePlan      the tables, the start ticks and the cost of two plans agree
use mathlib.Core.Path.{◌≡◌, sym, ◌∙◌, subst}
use mathlib.Core.List.{List}
use Prim.Native.Nat.{ℕ, ◌≤◌, ◌<◌}
use native.Mathlib.Nat.{mul-le-mul_right}
use native.Mathlib.Omega.{arith}
use lib.ListN.{length, get_or}
use lib.IntN.{pos, ◌-ℤ◌}
use Rattle.hall.specs.Limits.{distance_limit, start_limit, goal_limit}
use Rattle.hall.specs.Floor.{Floor}
use Rattle.hall.specs.Job.{Numbers, carriers, at_place}
use Rattle.hall.specs.Stages.{None}
use Rattle.hall.specs.Questions.{checks_question}
use Rattle.hall.specs.Rule.{Pair, Permitted}
use Rattle.hall.specs.Ticks.{Tables, own, pair_of, PermittedBy, PermittedAt, StartTicks, goal_tick}
use Rattle.hall.specs.Plan.{TablesOf, Plan}
use Rattle.hall.specs.Safety.{Within}
use Rattle.hall.proofs.Walks.{distance_unique, distance_small}
use Rattle.hall.proofs.Ticks.{ticks_unique_all, tick_limit, total_same, total_limit}
use Rattle.hall.proofs.Sound.{Listing, listing, place_listed}

pub record SameTables (k : ℕ) (t u : Tables) : Type 0 where
  pub ss : (i j : ℕ) → i < k → j < k → t.ss i j ≡ u.ss i j
  pub sg : (i j : ℕ) → i < k → j < k → t.sg i j ≡ u.sg i j
  pub gg : (i j : ℕ) → i < k → j < k → t.gg i j ≡ u.gg i j

pub record SamePlan (k : ℕ) (t : Tables) (tick : ℕ → ℕ) (cost : ℕ) (u : Tables) (tick' : ℕ → ℕ) (cost' : ℕ) : Type 0 where
  pub tables : SameTables k t u
  pub ticks : (i : ℕ) → i < k → tick i ≡ tick' i
  pub costs : cost ≡ cost'

-- ---- tables that agree have the same start ticks

pub tables_unique : {F : Floor} {k : ℕ} {start goal : ℕ → ℕ} {t u : Tables} → TablesOf F k start goal t → TablesOf F k start goal u → SameTables k t u
tables_unique a b = record {
  ss = λ i j hi hj. distance_unique (a.starts i j hi hj) (b.starts i j hi hj);
  sg = λ i j hi hj. distance_unique (a.start_goal i j hi hj) (b.start_goal i j hi hj);
  gg = λ i j hi hj. distance_unique (a.goals i j hi hj) (b.goals i j hi hj);
}

pub tables_turned : {k : ℕ} {t u : Tables} → SameTables k t u → SameTables k u t
tables_turned s = record { ss = λ i j hi hj. sym (s.ss i j hi hj); sg = λ i j hi hj. sym (s.sg i j hi hj); gg = λ i j hi hj. sym (s.gg i j hi hj) }

pub pair_same : {k : ℕ} {t u : Tables} → SameTables k t u → (i j : ℕ) → i < k → j < k → pair_of t i j ≡ pair_of u i j
pair_same same i j hi hj = λ z. record {
  ss = same.ss i j hi hj z;
  gg = same.gg i j hi hj z;
  ii = same.sg i i hi hi z;
  jj = same.sg j j hj hj z;
  ij = same.sg i j hi hj z;
  ji = same.sg j i hj hi z;
}

module _ (w : ℕ) {k : ℕ} (order : List ℕ) (in_range : (q : ℕ) → q < length order → get_or order q 0 < k) (tick : ℕ → ℕ) where
  permitted_same : {t u : Tables} → SameTables k t u → (q x : ℕ) → q < length order → PermittedAt w t order tick q x → PermittedAt w u order tick q x
  unfolding PermittedBy
  permitted_same same q x l f p h =
      subst (λ (z : Pair). Permitted w z (pos x -ℤ pos (tick (get_or order p 0)))) (pair_same same (get_or order p 0) (get_or order q 0) (in_range p (omega arith)) (in_range q l)) (f p h)

  pub ticks_same : {t u : Tables} → SameTables k t u → StartTicks w t order tick → StartTicks w u order tick
  ticks_same same s = record {
    smallest = λ q l. record {
      not_before = (s.smallest q l).not_before;
      permitted = permitted_same same q (tick (get_or order q 0)) l (s.smallest q l).permitted;
      least = λ y a f. (s.smallest q l).least y a (permitted_same (tables_turned same) q y l f);
    };
  }

-- ---- plans of a job

module _ (j : Numbers) (listed : Listing j) where
  pub plan_unique_listed : (t u : Tables) (tick tick' : ℕ → ℕ) (cost cost' : ℕ) → Plan j t tick cost → Plan j u tick' cost' → SamePlan (carriers j) t tick cost u tick' cost'
  plan_unique_listed t u tick tick' cost cost' a b = record {
    tables = same;
    ticks = ticks;
    costs = a.cost_is ∙ total_same (carriers j) (goal_tick t tick) (goal_tick u tick') goals ∙ sym b.cost_is;
  }
    where
      same : SameTables (carriers j) t u
      same = tables_unique a.true_distances b.true_distances

      ticks : (i : ℕ) → i < carriers j → tick i ≡ tick' i
      ticks i h =
          ticks_unique_all j.dwell u j.order tick tick' (ticks_same j.dwell j.order listed.below tick same a.ticks) b.ticks
          (λ p l. rw listed.size (listed.below p l)) listed.once i (rw listed.size h)

      goals : (i : ℕ) → i < carriers j → goal_tick t tick i ≡ goal_tick u tick' i
      goals i h = omega (arith, ticks i h, same.sg i i h h)

  pub plan_within_listed : (t : Tables) (tick : ℕ → ℕ) (cost : ℕ) → Plan j t tick cost → Within j.dwell (carriers j) t tick cost
  plan_within_listed t tick cost plan = record {
    start_ticks = λ i h. (limits i h).0;
    goal_ticks = λ i h. (limits i h).1;
    last_ticks = λ i h. omega (arith, (limits i h).1);
    cost_limit_lem =
        omega (
          arith,
          plan.cost_is,
          total_limit (carriers j) (goal_tick t tick) (goal_limit w) (λ i h. (limits i h).1),
          mul-le-mul_right (goal_limit w) listed.few,
        );
  }
    where
      w : ℕ
      w = j.dwell

      small : (q : ℕ) → q < length j.order → own t (at_place j q) ≤ distance_limit
      small q l = let h = listed.below q l in distance_small (plan.true_distances.start_goal (at_place j q) (at_place j q) h h) (plan.reached (at_place j q) h)

      limits : (i : ℕ) → i < carriers j → (tick i ≤ start_limit w) × (goal_tick t tick i ≤ goal_limit w)
      limits i h =
          let f = place_listed j listed i h in
          subst (λ (x : ℕ). (tick x ≤ start_limit w) × (goal_tick t tick x ≤ goal_limit w)) f.is
          (tick_limit w t j.order tick plan.ticks small (omega (arith, listed.size, listed.few)) f.place f.inside)

-- ---- of a job without faults of the listed checks

pub plan_unique : (j : Numbers) (sound : None (checks_question j)) (t u : Tables) (tick tick' : ℕ → ℕ) (cost cost' : ℕ) → Plan j t tick cost → Plan j u tick' cost'
    → SamePlan (carriers j) t tick cost u tick' cost'
plan_unique j sound = plan_unique_listed j (listing j sound)

pub plan_within : (j : Numbers) (sound : None (checks_question j)) (t : Tables) (tick : ℕ → ℕ) (cost : ℕ) → Plan j t tick cost → Within j.dwell (carriers j) t tick cost
plan_within j sound = plan_within_listed j (listing j sound)

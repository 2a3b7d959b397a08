-- Carriers that share a start, a goal or both (rules 3.2, 4.11, 5.8 and 12.3). With one start the starts are
-- 0 apart and each way between the two moves is one of their own, so both leads are 0; with one goal the
-- goals are, and the leads are the difference of the distances and its negative. Either way the stretch of
-- carriers that do not wait is one tick, which the exception never strikes, since the ticks and the distance
-- of the starts add up to an even number; with the dwell w it is that tick and w on either side. Carriers
-- with one goal do meet there, whatever paths they take, and so do those with one start at one start tick, so
-- two carriers that demand 3 keeps apart have other ticks. From one start the places before q have the ticks
-- below q, each times w + 1, so that is the smallest that is left for q. Assumes nothing.
--     one_start_rule, one_goal_rule      what the pair rule forbids to them, exactly
--     one_start_meets, one_goal_meets    where start ticks are one, or goal ticks at most w apart, they meet
--     two_safe       demand 3 of any two carriers of a plan, those that share an end included
--     starts_apart   in a plan, start ticks from one start are more than w apart
--     in_a_row       where all carriers have one start, each starts at w + 1 times its place
use mathlib.Core.Path.{◌≡◌, refl, sym, ◌∙◌, ap, subst}
use mathlib.Core.Logic.{◌↔◌, ◌≢◌, inl}
use mathlib.Core.List.{List}
use Prim.Native.Nat.{ℕ, zero, suc, ◌+◌, ◌*◌, ◌≤◌, ◌<◌, max, zero-le}
use native.Mathlib.Nat.{not-suc-le-zero, mul-zero, mul-suc}
use native.Mathlib.Decide.{dec_lt}
use native.Mathlib.Omega.{arith}
use lib.ListN.{length, get_or}
use lib.IntN.{pos, ◌-ℤ◌}
use Rattle.hall.specs.Floor.{Floor, Symmetric, Dist, DistanceIs}
use Rattle.hall.specs.Job.{Numbers, carriers, start, at_place}
use Rattle.hall.specs.Stages.{None}
use Rattle.hall.specs.Questions.{checks_question}
use Rattle.hall.specs.Rule.{Pair, Forbidden, Forbidden⁺}
use Rattle.hall.specs.Ticks.{Tables, own, pair_of, PermittedBy, PermittedAt, StartTicks}
use Rattle.hall.specs.Path.{PathOf, ShortestPath, At, Meet}
use Rattle.hall.specs.Plan.{DistancesOf, TablesOf, Plan}
use Rattle.hall.specs.Safety.{Apart, TicksNear, Demand3, Demand3OfTwo}
use Rattle.hall.proofs.Walks.{join, reverse, begins_on_node, ends_on_node, dist_unique, dist_self}
use Rattle.hall.proofs.Walks.{lanes_symmetric, true_distance}
use Rattle.hall.proofs.Rules.{forbidden_iff}
use Rattle.hall.proofs.Safe.{bounded}
use Rattle.hall.proofs.Demand.{shortest_path, goal_after, true_pair}
use Rattle.hall.proofs.Ticks.{earlier_steps}
use Rattle.hall.proofs.Sound.{entry_below, place_of}

-- ---- what the rule forbids (rule 4.11)

-- the number that stands for a distance is the distance, where there is one
same_distance : {F : Floor} {a b r d : ℕ} → DistanceIs F a b r → Dist F a b d → r ≡ d
same_distance is d = dist_unique (true_distance is (bounded is d.walk).1) d

module _ {F : Floor} (both_ways : Symmetric F) {p : Pair} (w ti tj : ℕ) where
  module _ {s gi gj : ℕ} (six : DistancesOf F s gi s gj p) where
    from_one_start : (p.ss ≡ 0) × (p.ij ≡ p.jj) × (p.ji ≡ p.ii) × (p.gg ≤ p.ii + p.jj)
    from_one_start = (
      same_distance six.starts (dist_self (begins_on_node six.own_i.walk)),
      same_distance six.i_to_j six.own_j,
      same_distance six.j_to_i six.own_i,
      (bounded six.goals (join (reverse both_ways six.own_i.walk) six.own_j.walk)).0,
    )

    -- start ticks that are at most w apart, and nothing else
    one_start : Forbidden⁺ w p ti tj ↔ TicksNear w ti tj
    one_start =
        let n = from_one_start in (
          λ f. (omega (arith, f.low, f.high), omega (arith, f.low, f.high)),
          λ e. record {
            joined = λ x. omega arith;
            gap_not_above = omega arith;
            low = omega arith;
            high = omega arith;
            not_excepted = λ z x. omega (arith, x.odd);
          },
        )

  module _ {si sj g : ℕ} (six : DistancesOf F si g sj g p) where
    to_one_goal : (p.gg ≡ 0) × (p.ij ≡ p.ii) × (p.ji ≡ p.jj) × (p.ss ≤ p.ii + p.jj) × (p.ss ≢ 65535)
    to_one_goal =
        let starts = bounded six.starts (join six.own_i.walk (reverse both_ways six.own_j.walk)) in (
          same_distance six.goals (dist_self (ends_on_node six.own_i.walk)),
          same_distance six.i_to_j six.own_i,
          same_distance six.j_to_i six.own_j,
          starts.0,
          starts.1,
        )

    -- goal ticks that are at most w apart, and nothing else
    one_goal : Forbidden⁺ w p ti tj ↔ TicksNear w (ti + p.ii) (tj + p.jj)
    one_goal =
        let n = to_one_goal in (
          λ f. (omega (arith, f.low, f.high), omega (arith, f.low, f.high)),
          λ e. record {
            joined = n.4;
            gap_not_above = omega arith;
            low = omega arith;
            high = omega arith;
            not_excepted = λ z x. omega (arith, x.gap_zero, x.odd);
          },
        )

  module _ {si gi sj gj : ℕ} (six : DistancesOf F si gi sj gj p) where
    pub one_start_rule : si ≡ sj → Forbidden w p (pos tj -ℤ pos ti) ↔ TicksNear w ti tj
    one_start_rule e =
        let iff = one_start (subst (λ (s : ℕ). DistancesOf F s gi sj gj p) e six) in
        let both = forbidden_iff w p ti tj in
        (λ f. iff.0 (both.0 f), λ t. both.1 (iff.1 t))

    pub one_goal_rule : gi ≡ gj → Forbidden w p (pos tj -ℤ pos ti) ↔ TicksNear w (ti + p.ii) (tj + p.jj)
    one_goal_rule e =
        let iff = one_goal (subst (λ (g : ℕ). DistancesOf F si g sj gj p) e six) in
        let both = forbidden_iff w p ti tj in
        (λ f. iff.0 (both.0 f), λ t. both.1 (iff.1 t))

-- ---- where they meet

-- on its path a carrier stands on its start at its start tick, as on its goal from its goal tick on
-- (`goal_after`)
on_start : {F : Floor} {s g d : ℕ} {l : List ℕ} → PathOf F s g d l → (w t x : ℕ) → t ≡ x → At w l t x s
on_start p w t x e = record {
  gone = 0;
  stood = 0;
  time = omega arith;
  present = omega (arith, p.size);
  waits_at_goal = inl refl;
  within_dwell = zero-le;
  node = p.begins;
}

module _ {F : Floor} {path path' : List ℕ} {di dj : ℕ} (w : ℕ) where
  pub one_start_meets : {s gi gj : ℕ} → PathOf F s gi di path → PathOf F s gj dj path' → (ti tj : ℕ) →
      ti ≡ tj → Meet w path ti path' tj
  one_start_meets {s = s} p q ti tj e = record {
    tick = ti;
    node = s;
    first = on_start p w ti ti refl;
    second = on_start q w tj ti (sym e);
  }

  -- the later of the two goal ticks finds both at the goal
  pub one_goal_meets : {si sj g : ℕ} → PathOf F si g di path → PathOf F sj g dj path' → (ti tj : ℕ) →
      TicksNear w (ti + di) (tj + dj) → Meet w path ti path' tj
  one_goal_meets {g = g} p q ti tj e = record {
    tick = max (ti + di) (tj + dj);
    node = g;
    first = goal_after p w ti (max (ti + di) (tj + dj)) (omega arith) (omega arith);
    second = goal_after q w tj (max (ti + di) (tj + dj)) (omega arith) (omega arith);
  }

-- ---- two carriers (rule 12.3)

module _ {F : Floor} {w k : ℕ} {start goal : ℕ → ℕ} {t : Tables} {order : List ℕ} {tick : ℕ → ℕ}
    {path : ℕ → List ℕ} (shortest : (i : ℕ) → i < k → ShortestPath F (start i) (goal i) (path i))
    (demand : Demand3 F w k start goal t order tick path) where
  on_path : (i : ℕ) → i < k → PathOf F (start i) (goal i) (own t i) (path i)
  on_path i h = shortest_path (demand.distances i h) (shortest i h)

  pub two_safe : (i j : ℕ) → i < k → j < k → i ≢ j → Demand3OfTwo w start goal t tick path i j
  two_safe i j hi hj d = record {
    apart = apart;
    start_ticks_differ = λ s e. apart.0 (one_start_meets w (rw s at (on_path i hi)) (on_path j hj) (tick i) (tick j) e);
    goal_ticks_apart = λ g e. apart.0 (one_goal_meets w (rw g at (on_path i hi)) (on_path j hj) (tick i) (tick j) e);
    first_at_goal = λ x. (demand.only_then i hi x, λ e. demand.at_goal i hi x e.0 e.1);
    second_at_goal = λ x. (demand.only_then j hj x, λ e. demand.at_goal j hj x e.0 e.1);
  }
    where
      apart : Apart w path tick i j
      apart = demand.apart i j hi hj d

-- ---- from one start (rules 4.11 and 5.8)

-- below q steps of w + 1 ticks, a tick is at most w after one of the steps
within_step : (w q x : ℕ) → x < suc w * q → (p : ℕ) × ((p < q) × TicksNear w (suc w * p) x)
within_step w zero x h = absurd (not-suc-le-zero (rw mul-zero at h))
within_step w (suc q) x h = cases (within_step w q x) (dec_lt x (suc w * q))
  where
    below : x < suc w * q + suc w
    below = rw mul-suc at h

    cases : (x < suc w * q → (p : ℕ) × ((p < q) × TicksNear w (suc w * p) x)) → Dec (x < suc w * q)
        → (p : ℕ) × ((p < suc q) × TicksNear w (suc w * p) x)
    cases earlier (yes l) = let r = earlier l in (r.0, (omega (arith, r.1.0), r.1.1))
    cases earlier (no l) = (q, (omega arith, (omega arith, omega arith)))

module _ {F : Floor} (both_ways : Symmetric F) (w : ℕ) {k : ℕ} {start goal : ℕ → ℕ} {t : Tables}
    (true_tables : TablesOf F k start goal t) (reached : (i : ℕ) → i < k → own t i ≢ 65535)
    (order : List ℕ) (in_range : (q : ℕ) → q < length order → get_or order q 0 < k)
    (tick : ℕ → ℕ) (s : StartTicks w t order tick) where
  abbrev at : ℕ → ℕ
  at q = get_or order q 0

  -- the carrier at an earlier place forbids what is at most w away from its own tick, and nothing else
  forbids : (p q x : ℕ) → p < q → q < length order → start (at p) ≡ start (at q) →
      Forbidden w (pair_of t (at p) (at q)) (pos x -ℤ pos (tick (at p))) ↔ TicksNear w (tick (at p)) x
  forbids p q x l h one =
      let a = in_range p (omega arith) in
      let b = in_range q h in
      one_start_rule both_ways w (tick (at p)) x (true_pair true_tables reached (at p) (at q) a b) one

  earlier_not_near : (p q : ℕ) → p < q → q < length order → start (at p) ≡ start (at q) →
      ¬ TicksNear w (tick (at p)) (tick (at q))
  unfolding PermittedBy
  earlier_not_near p q l h one near =
      (s.smallest q h).permitted p l ((forbids p q (tick (at q)) l h one).1 near)

  pub places_not_near : (p q : ℕ) → p < length order → q < length order → p ≢ q → start (at p) ≡ start (at q) →
      ¬ TicksNear w (tick (at p)) (tick (at q))
  places_not_near p q hp hq d one near = cases (dec_lt p q)
    where
      cases : Dec (p < q) → ⊥
      cases (yes l) = earlier_not_near p q l hq one near
      cases (no l) = earlier_not_near q p (omega arith) hp (sym one) (near.1, near.0)

  module _ (one : (i j : ℕ) → i < k → j < k → start i ≡ start j) where
    -- the ticks of the first n places are w + 1 times their numbers
    abbrev Row : ℕ → Type 0
    Row n = (p : ℕ) → p < n → p < length order → tick (at p) ≡ suc w * p

    same : (p q : ℕ) → p < q → q < length order → start (at p) ≡ start (at q)
    same p q l h = one (at p) (at q) (in_range p (omega arith)) (in_range q h)

    next : (q : ℕ) → q < length order → Row q → tick (at q) ≡ suc w * q
    unfolding PermittedBy
    next q h row = cases (dec_lt (tick (at q)) (suc w * q))
      where
        free : PermittedAt w t order tick q (suc w * q)
        free p l f =
            let near = (forbids p q (suc w * q) l h (same p q l h)).0 f in
            omega (arith, near.1, row p l (omega arith), earlier_steps (suc w) p q l)

        not_after : tick (at q) ≤ suc w * q
        not_after = (s.smallest q h).least (suc w * q) zero-le free

        cases : Dec (tick (at q) < suc w * q) → tick (at q) ≡ suc w * q
        cases (no l) = omega (arith, not_after)
        cases (yes l) =
            let r = within_step w q (tick (at q)) l in
            let p = r.0 in
            let before = r.1.0 in
            let near = rw (← row p before (omega arith)) at r.1.1 in
            absurd (earlier_not_near p q before h (same p q before h) near)

    row : (n : ℕ) → Row n
    row zero p l h = absurd (not-suc-le-zero l)
    row (suc n) p l h = next p h (λ r m. row n r (omega arith))

    pub places_in_a_row : (q : ℕ) → q < length order → tick (at q) ≡ suc w * q
    places_in_a_row q h = next q h (row q)

-- of a plan
module _ (j : Numbers) (sound : None (checks_question j)) (t : Tables) (tick : ℕ → ℕ) (cost : ℕ)
    (plan : Plan j t tick cost) where
  pub starts_apart : (i k : ℕ) → i < carriers j → k < carriers j → i ≢ k → start j i ≡ start j k →
      ¬ TicksNear j.dwell (tick i) (tick k)
  starts_apart i k hi hk d one =
      let a = place_of j sound i hi in
      let b = place_of j sound k hk in
      rw (a.is, b.is) at
      (places_not_near (lanes_symmetric j.network) j.dwell plan.true_distances plan.reached j.order
      (entry_below j sound) tick plan.ticks a.place b.place a.inside b.inside
      (λ e. d (sym a.is ∙ ap (at_place j) e ∙ b.is))
      (ap (start j) a.is ∙ one ∙ ap (start j) (sym b.is)))

  pub in_a_row : ((i k : ℕ) → i < carriers j → k < carriers j → start j i ≡ start j k) →
      (p : ℕ) → p < length j.order → tick (at_place j p) ≡ suc j.dwell * p
  in_a_row =
      places_in_a_row (lanes_symmetric j.network) j.dwell plan.true_distances plan.reached j.order
      (entry_below j sound) tick plan.ticks

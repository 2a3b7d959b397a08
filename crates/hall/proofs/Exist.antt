-- Every job without faults has a plan, so nothing is promised of the empty set. The distances exist on at
-- most 1,024 nodes, and each own distance is one since fault 8 does not hold; of the listed checks the proof
-- uses the node count and the listing alone (Sound.antt). It can be decided whether a tick is permitted
-- against the carriers placed before, and one tick after their latest last tick is permitted, so there is a
-- smallest permitted tick. The ticks are then made place by place: since no carrier stands twice in the
-- order, giving the next carrier its tick changes none of the earlier ones. Assumes nothing.
--     TicksUpTo      the ticks of the carriers at the first n places are the smallest permitted
--     Planned        a job has a plan
use mathlib.Core.Path.{◌≡◌, sym, subst}
use mathlib.Core.Logic.{◌≢◌}
use mathlib.Core.List.{List}
use Prim.Native.Nat.{ℕ, zero, suc, ◌+◌, ◌≤◌, ◌<◌, zero-le}
use native.Mathlib.Nat.{not-suc-le-zero, le_refl}
use native.Mathlib.Decide.{ℕ_discrete, dec_le, dec_lt}
use native.Mathlib.Omega.{arith}
use lib.ListN.{length, get_or}
use Rattle.hall.specs.Floor.{NoWalk, DistanceIs, no_walk, distance, floor}
use Rattle.hall.specs.Job.{Numbers, carriers, start, goal}
use Rattle.hall.specs.Limits.{node_limit}
use Rattle.hall.specs.Stages.{None}
use Rattle.hall.specs.Questions.{job_question}
use Rattle.hall.specs.Ticks.{SmallestFrom, PermittedBy, Tables, own, pair_of, PermittedAt, StartTicks, last_tick, latest, cost_of}
use Rattle.hall.specs.Plan.{TablesOf, Plan}
use Rattle.hall.proofs.Ticks.{past_last, latest_bounds, carry}
use Rattle.hall.proofs.Sound.{Listing, listing, checks_of_none, walks_of_none, nodes_limit}
use Rattle.hall.proofs.Lowest.{dec_and, lowest_of}
use Rattle.hall.proofs.Test.{dec}
use Rattle.hall.proofs.TickTests.{permitted-by?}
use Rattle.hall.proofs.Decide.{distance_exists}

-- a smallest permitted tick from a tick up exists where some tick from there up is permitted
pub smallest_exists : (from : ℕ) {Permits : ℕ → Type 0} → ((x : ℕ) → Dec (Permits x)) → (y : ℕ) → from ≤ y → Permits y → (x : ℕ) × SmallestFrom from Permits x
smallest_exists from permits? y l p =
    let r = lowest_of (λ x. dec_and (dec_le from x) (permits? x)) y (l, p) in
    (r.0, record { not_before = r.1.0; permitted = r.1.1; least = λ z a b. r.2 z (a, b) })

-- ---- the ticks of all places

-- x for the carrier that is asked for, else y
put : {c d : ℕ} → Dec (c ≡ d) → ℕ → ℕ → ℕ
put (yes e) x y = x
put (no e) x y = y

put_here : (c d x y : ℕ) (e : Dec (c ≡ d)) → c ≡ d → put e x y ≡ x
unfolding put
put_here c d x y (yes e) h = omega arith
put_here c d x y (no e) h = absurd (e h)

put_else : (c d x y : ℕ) (e : Dec (c ≡ d)) → c ≢ d → put e x y ≡ y
unfolding put
put_else c d x y (yes e) h = absurd (h e)
put_else c d x y (no e) h = omega arith

module _ (w : ℕ) (t : Tables) (order : List ℕ) where
  abbrev at : ℕ → ℕ
  at q = get_or order q 0

  pub smallest_at : (tick : ℕ → ℕ) (q : ℕ) → (x : ℕ) × SmallestFrom 0 (PermittedAt w t order tick q) x
  unfolding PermittedBy
  smallest_at tick q =
      smallest_exists 0 (λ x. dec (permitted-by? w q (λ p. pair_of t (at p) (at q)) (λ p. tick (at p)) x))
      (latest order (last_tick w t tick) q + 1) zero-le
      (λ p l. past_last w (pair_of t (at p) (at q)) (tick (at p)) (latest order (last_tick w t tick) q + 1)
      (omega (arith, latest_bounds order (last_tick w t tick) q p l)))

  abbrev TicksUpTo : ℕ → (ℕ → ℕ) → Type 0
  TicksUpTo n tick = (q : ℕ) → q < n → SmallestFrom 0 (PermittedAt w t order tick q) (tick (at q))

  -- ticks that agree at the places up to q fit there alike
  smallest_same : (u v : ℕ → ℕ) (q : ℕ) → ((p : ℕ) → p ≤ q → u (at p) ≡ v (at p)) → SmallestFrom 0 (PermittedAt w t order u q) (u (at q)) → SmallestFrom 0 (PermittedAt w t order v q) (v (at q))
  smallest_same u v q e s = subst (SmallestFrom 0 (PermittedAt w t order v q)) (e q (le_refl q)) (record {
    not_before = s.not_before;
    permitted = carry w t order u v q (u (at q)) (λ p l. e p (omega arith)) s.permitted;
    least = λ y a f. s.least y a (carry w t order v u q y (λ p l. sym (e p (omega arith))) f);
  })

  module _ (once : (p q : ℕ) → p < length order → q < length order → at p ≡ at q → p ≡ q) where
    next_place : (n : ℕ) → n < length order → (tick : ℕ → ℕ) → TicksUpTo n tick → (tick' : ℕ → ℕ) × TicksUpTo (suc n) tick'
    next_place n h tick s = (more, λ q l. cases q l (dec_lt q n))
      where
        x : ℕ
        x = (smallest_at tick n).0

        more : ℕ → ℕ
        more c = put (ℕ_discrete c (at n)) x (tick c)

        earlier : (p : ℕ) → p < n → tick (at p) ≡ more (at p)
        earlier p l = sym (put_else (at p) (at n) x (tick (at p)) (ℕ_discrete (at p) (at n)) (λ e. let k = once p n (omega arith) h e in omega arith))

        newest : x ≡ more (at n)
        newest = let r = put_here (at n) (at n) x (tick (at n)) (ℕ_discrete (at n) (at n)) (omega arith) in omega arith

        last : SmallestFrom 0 (PermittedAt w t order more n) (more (at n))
        last = let s = (smallest_at tick n).1 in subst (SmallestFrom 0 (PermittedAt w t order more n)) newest (record {
          not_before = s.not_before;
          permitted = carry w t order tick more n x earlier s.permitted;
          least = λ y a f. s.least y a (carry w t order more tick n y (λ p l. sym (earlier p l)) f);
        })

        cases : (q : ℕ) → q < suc n → Dec (q < n) → SmallestFrom 0 (PermittedAt w t order more q) (more (at q))
        cases q l (yes k) = smallest_same tick more q (λ p m. earlier p (omega arith)) (s q k)
        cases q l (no k) = let e : n ≡ q = omega arith in subst (λ (z : ℕ). SmallestFrom 0 (PermittedAt w t order more z) (more (at z))) e last

    ticks_up_to : (n : ℕ) → n ≤ length order → (tick : ℕ → ℕ) × TicksUpTo n tick
    ticks_up_to zero h = ((λ c. 0), λ q l. absurd (not-suc-le-zero l))
    ticks_up_to (suc n) h = let r = ticks_up_to n (omega arith) in next_place n h r.0 r.1

    pub ticks_exist : (tick : ℕ → ℕ) × StartTicks w t order tick
    ticks_exist = let r = ticks_up_to (length order) (le_refl (length order)) in (r.0, record { smallest = r.1 })

-- ---- the plan of a job

pub record Planned (j : Numbers) : Type 0 where
  pub tables : Tables
  pub tick : ℕ → ℕ
  pub cost : ℕ
  pub plan : Plan j tables tick cost

module _ (j : Numbers) (listed : Listing j) (limit : j.network.nodes ≤ node_limit)
    (walks : (i : ℕ) → i < carriers j → ¬ NoWalk (floor j.network) (start j i) (goal j i)) where
  tables_exist : (t : Tables) × TablesOf (floor j.network) (carriers j) (start j) (goal j) t
  tables_exist = (
    record { ss = λ a b. (far (start j a) (start j b)).0; sg = λ a b. (far (start j a) (goal j b)).0; gg = λ a b. (far (goal j a) (goal j b)).0 },
    record {
      starts = λ a b ha hb. (far (start j a) (start j b)).1;
      goals = λ a b ha hb. (far (goal j a) (goal j b)).1;
      start_goal = λ a b ha hb. (far (start j a) (goal j b)).1;
    },
  )
    where
      far : (a b : ℕ) → (r : ℕ) × DistanceIs (floor j.network) a b r
      far = distance_exists j.network limit

  -- a carrier's own distance is one
  own_reached : (i r : ℕ) → i < carriers j → DistanceIs (floor j.network) (start j i) (goal j i) r → r ≢ 65535
  own_reached i r h (no_walk e nothing) = absurd (walks i h nothing)
  own_reached i r h (distance small d) = omega arith

  pub plan_exists_listed : Planned j
  plan_exists_listed = record {
    tables = t;
    tick = tick;
    cost = cost_of t tick (carriers j);
    plan = record {
      true_distances = tables_exist.1;
      reached = λ i h. own_reached i (own t i) h (tables_exist.1.start_goal i i h h);
      ticks = (ticks_exist j.dwell t j.order listed.once).1;
      cost_is = omega arith;
    };
  }
    where
      t : Tables
      t = tables_exist.0

      tick : ℕ → ℕ
      tick = (ticks_exist j.dwell t j.order listed.once).0

-- of a job without faults
pub plan_exists : (j : Numbers) → None (job_question j) → Planned j
plan_exists j none =
    let sound = checks_of_none j none in
    plan_exists_listed j (listing j sound) (nodes_limit j sound) (walks_of_none j none)

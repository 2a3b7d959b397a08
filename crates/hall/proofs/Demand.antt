-- Demand 3: start ticks by an order keep all carriers apart, whatever shortest paths they take. Of two
-- carriers the one that is later in the order has a tick that is permitted against the earlier one, so
-- `pair_safe` keeps the two apart; meeting and crossing do not ask who is first. A shortest path has as many
-- lanes as the distance, so the carrier comes to its goal that many ticks after its start, and waits there as
-- long as the dwell says. The first starts at 0 and each other one tick after the latest last tick before it
-- at the latest, by the laws of Ticks.antt. Of the job only its listing is used (Sound.antt), so that
-- carriers may share their starts and goals; what that gives is in Shared.antt. Assumes nothing.
use mathlib.Core.Path.{◌≡◌, refl, sym, ◌∙◌, ap}
use mathlib.Core.Logic.{inl, inr, ◌≢◌}
use mathlib.Core.List.{List}
use Prim.Native.Nat.{ℕ, ◌+◌, ◌-◌, ◌≤◌, ◌<◌}
use native.Mathlib.Decide.{dec_lt}
use native.Mathlib.Omega.{arith}
use lib.ListN.{length, get_or}
use Rattle.hall.specs.Floor.{Floor, Symmetric, Dist, floor}
use Rattle.hall.specs.Job.{Numbers, carriers, start, goal}
use Rattle.hall.specs.Stages.{None}
use Rattle.hall.specs.Questions.{checks_question}
use Rattle.hall.specs.Ticks.{Tables, own, pair_of, PermittedBy, StartTicks}
use Rattle.hall.specs.Path.{PathOf, ShortestPath, At, Meet, Cross}
use Rattle.hall.specs.Plan.{DistancesOf, TablesOf, Plan}
use Rattle.hall.specs.Safety.{Apart, Demand3}
use Rattle.hall.proofs.Walks.{ends_on_node, dist_unique, dist_self, lanes_symmetric, true_distance}
use Rattle.hall.proofs.Paths.{goal_distance}
use Rattle.hall.proofs.Safe.{pair_safe}
use Rattle.hall.proofs.Ticks.{first_at_zero, tick_bound}
use Rattle.hall.proofs.Sound.{Listing, listing, place_listed}
use Rattle.hall.proofs.Pigeon.{Listed}

-- ---- meeting and crossing do not ask who is first

pub meet_turned : {w : ℕ} {a b : List ℕ} {ta tb : ℕ} → Meet w a ta b tb → Meet w b tb a ta
meet_turned m = record { tick = m.tick; node = m.node; first = m.second; second = m.first }

pub cross_turned : {w : ℕ} {a b : List ℕ} {ta tb : ℕ} → Cross w a ta b tb → Cross w b tb a ta
cross_turned c = record {
  tick = c.tick;
  node = c.other;
  other = c.node;
  different = λ e. c.different (sym e);
  first_before = c.second_before;
  first_after = c.second_after;
  second_before = c.first_before;
  second_after = c.first_after;
}

-- ---- a carrier on its path

-- a shortest path has the distance for its length
pub shortest_path : {F : Floor} {s g d : ℕ} {l : List ℕ} → Dist F s g d → ShortestPath F s g l → PathOf F s g d l
shortest_path h p = rw (dist_unique p.short h) at p.is_path

module _ {F : Floor} {s g d : ℕ} {l : List ℕ} (p : PathOf F s g d l) (w t : ℕ) where
  -- a node on the way is as far from the goal as lanes are left, and the goal is 0 from itself
  pub goal_only_then : Dist F s g d → (x : ℕ) → At w l t x g → (t + d ≤ x) × (x ≤ t + d + w)
  goal_only_then short x h =
      let whole : h.gone ≡ d = omega (arith, inside, dist_unique left (dist_self (ends_on_node short.walk))) in
      (omega (arith, h.time), omega (arith, h.time, h.within_dwell))
    where
      inside : h.gone ≤ d
      inside = omega (arith, h.present, p.size)

      left : Dist F g g (d - h.gone)
      left = rw h.node at (goal_distance p short h.gone inside)

  pub goal_after : (x : ℕ) → t + d ≤ x → x ≤ t + d + w → At w l t x g
  goal_after x a b = record {
    gone = d;
    stood = x - (t + d);
    time = omega arith;
    present = omega (arith, p.size);
    waits_at_goal = inr (sym p.size);
    within_dwell = omega arith;
    node = p.ends;
  }

  -- on its way until its goal tick, at its goal from then on
  pub present_until : (x : ℕ) → t ≤ x → x ≤ t + d + w → (v : ℕ) × At w l t x v
  present_until x a b = cases (dec_lt x (t + d))
    where
      cases : Dec (x < t + d) → (v : ℕ) × At w l t x v
      cases (no h) = (g, goal_after x (omega arith) b)
      cases (yes h) = (
        get_or l (x - t) 0,
        record {
          gone = x - t;
          stood = 0;
          time = omega arith;
          present = omega (arith, p.size);
          waits_at_goal = inl refl;
          within_dwell = omega arith;
          node = refl;
        },
      )

  pub absent_else : (x v : ℕ) → At w l t x v → (t ≤ x) × (x ≤ t + d + w)
  absent_else x v h = (omega (arith, h.time), omega (arith, h.time, h.present, h.within_dwell, p.size))

-- ---- the distances of two carriers are true

module _ {F : Floor} {k : ℕ} {start goal : ℕ → ℕ} {t : Tables} (true_tables : TablesOf F k start goal t)
    (reached : (i : ℕ) → i < k → own t i ≢ 65535) where
  pub true_own : (i : ℕ) → i < k → Dist F (start i) (goal i) (own t i)
  true_own i h = true_distance (true_tables.start_goal i i h h) (reached i h)

  pub true_pair : (i j : ℕ) → i < k → j < k → DistancesOf F (start i) (goal i) (start j) (goal j) (pair_of t i j)
  true_pair i j hi hj = record {
    own_i = true_own i hi;
    own_j = true_own j hj;
    starts = true_tables.starts i j hi hj;
    goals = true_tables.goals i j hi hj;
    i_to_j = true_tables.start_goal i j hi hj;
    j_to_i = true_tables.start_goal j i hj hi;
  }

-- ---- start ticks by an order

module _ {F : Floor} (both_ways : Symmetric F) (w k : ℕ) (start goal : ℕ → ℕ) (t : Tables) (true_tables : TablesOf F k start goal t)
    (reached : (i : ℕ) → i < k → own t i ≢ 65535) (order : List ℕ) (in_range : (q : ℕ) → q < length order → get_or order q 0 < k)
    (tick : ℕ → ℕ) (s : StartTicks w t order tick) (path : ℕ → List ℕ) (shortest : (i : ℕ) → i < k → ShortestPath F (start i) (goal i) (path i)) where
  own_distance : (i : ℕ) → i < k → Dist F (start i) (goal i) (own t i)
  own_distance = true_own true_tables reached

  own_path : (i : ℕ) → i < k → PathOf F (start i) (goal i) (own t i) (path i)
  own_path i h = shortest_path (own_distance i h) (shortest i h)

  earlier_apart : (p q : ℕ) → p < q → q < length order → Apart w path tick (get_or order p 0) (get_or order q 0)
  unfolding PermittedBy
  earlier_apart p q h l =
      pair_safe both_ways (true_pair true_tables reached i j hi hj) (own_path i hi) (own_path j hj) w (tick i) (tick j) ((s.smallest q l).permitted p h)
    where
      i : ℕ
      i = get_or order p 0

      j : ℕ
      j = get_or order q 0

      hi : i < k
      hi = in_range p (omega arith)

      hj : j < k
      hj = in_range q l

  -- no two carriers at different places meet or cross
  pub places_apart : (p q : ℕ) → p < length order → q < length order → p ≢ q → Apart w path tick (get_or order p 0) (get_or order q 0)
  places_apart p q hp hq d = cases (dec_lt p q)
    where
      cases : Dec (p < q) → Apart w path tick (get_or order p 0) (get_or order q 0)
      cases (yes l) = earlier_apart p q l hq
      cases (no l) = let f = earlier_apart q p (omega arith) hp in ((λ m. f.0 (meet_turned m)), λ c. f.1 (cross_turned c))

  -- where each carrier has a place
  pub demand_three : ((c : ℕ) → c < k → Listed (λ q. get_or order q 0) (length order) c) → Demand3 F w k start goal t order tick path
  demand_three place = record {
    apart = λ i j hi hj d. listed_apart i j d (place i hi) (place j hj);
    distances = own_distance;
    at_goal = λ i h. goal_after (own_path i h) w (tick i);
    only_then = λ i h. goal_only_then (own_path i h) w (tick i) (own_distance i h);
    present = λ i h. present_until (own_path i h) w (tick i);
    absent = λ i h. absent_else (own_path i h) w (tick i);
    first_at_0 = first_at_zero w t order tick s;
    bound = tick_bound w t order tick s;
  }
    where
      listed_apart : (i j : ℕ) → i ≢ j → Listed (λ q. get_or order q 0) (length order) i → Listed (λ q. get_or order q 0) (length order) j → Apart w path tick i j
      listed_apart i j d a b =
          rw (a.is, b.is) at (places_apart a.place b.place a.inside b.inside (λ e. d (sym a.is ∙ ap (λ q. get_or order q 0) e ∙ b.is)))

-- a plan keeps the carriers of a job apart, whatever shortest paths they take
pub plan_safe_listed : (j : Numbers) (t : Tables) (tick : ℕ → ℕ) (cost : ℕ) → Listing j → Plan j t tick cost
    → (path : ℕ → List ℕ) → ((i : ℕ) → i < carriers j → ShortestPath (floor j.network) (start j i) (goal j i) (path i))
    → Demand3 (floor j.network) j.dwell (carriers j) (start j) (goal j) t j.order tick path
plan_safe_listed j t tick cost listed plan path shortest =
    demand_three (lanes_symmetric j.network) j.dwell (carriers j) (start j) (goal j) t plan.true_distances plan.reached j.order listed.below tick
    plan.ticks path shortest (place_listed j listed)

-- of a job without faults of the listed checks
pub plan_safe : (j : Numbers) (t : Tables) (tick : ℕ → ℕ) (cost : ℕ) → None (checks_question j) → Plan j t tick cost
    → (path : ℕ → List ℕ) → ((i : ℕ) → i < carriers j → ShortestPath (floor j.network) (start j i) (goal j i) (path i))
    → Demand3 (floor j.network) j.dwell (carriers j) (start j) (goal j) t j.order tick path
plan_safe j t tick cost sound = plan_safe_listed j t tick cost (listing j sound)

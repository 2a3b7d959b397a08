-- A job is well formed exactly if none of its listed checks holds of it, and a network by itself exactly if
-- none of its own does. From no fault: each part is the denial of one check; the checks hold each lane only
-- against the one before it, and that any later lane exceeds any earlier one is an induction over the later,
-- since exceeding is transitive, and so of the closed nodes; that every carrier has a place is the counting
-- law behind `place_of`. To no fault: each stage is clear by one part. Assumes nothing.
use mathlib.Core.Path.{◌≡◌, sym, subst}
use mathlib.Core.Logic.{◌↔◌, ◌⊎◌, inl, inr, ◌≢◌}
use mathlib.Core.List.{List, ◌∷◌}
use Prim.Native.Nat.{ℕ, zero, suc, ◌/◌, ◌%◌, ◌<◌}
use native.Mathlib.Nat.{not-suc-le-zero}
use native.Mathlib.Decide.{dec_lt}
use native.Mathlib.Omega.{arith}
use lib.ListN.{length, get_or}
use Rattle.hall.specs.Limits.{node_limit, lane_limit}
use Rattle.hall.specs.Floor.{Network, lanes_in, lower, higher, Lane}
use Rattle.hall.specs.Job.{Numbers, carriers, start, goal}
use Rattle.hall.specs.Refusals.{Exceeds, by_lower, by_higher, LaneFault, no_node, not_below, not_rising}
use Rattle.hall.specs.Refusals.{ClosedFault, no_such_node, not_higher, NoNode-at, ClosedEnd-at}
use Rattle.hall.specs.Refusals.{BadOrder-at, no_carrier, stands_earlier}
use Rattle.hall.specs.Stages.{Question, None}
use Rattle.hall.specs.Questions.{lane_checks, each_lane, closed_checks, each_closed, move_checks, order_checks}
use Rattle.hall.specs.Questions.{network_question, checks_question}
use Rattle.hall.specs.WellFormed.{WellFormedNetwork, WellFormed}
use Rattle.hall.proofs.Test.{dec}
use Rattle.hall.proofs.FaultTests.{exceeds?}
use Rattle.hall.proofs.Compose.{none_more, none_at_all}
use Rattle.hall.proofs.Places.{asked_clear, Passed, each_none}
use Rattle.hall.proofs.Sound.{not_above, DeniedNetwork, network_denied, Denied, denied_checks}
use Rattle.hall.proofs.Sound.{carriers_limit, dwell_within, order_length, ends_on}
use Rattle.hall.proofs.Sound.{entry_below, entry_once, place_of}

-- ---- the rising order

pub exceeds_trans : {lanes : List ℕ} {a b c : ℕ} → Exceeds lanes c b → Exceeds lanes b a → Exceeds lanes c a
exceeds_trans (by_lower h) (by_lower k) = by_lower (omega arith)
exceeds_trans (by_lower h) (by_higher e k) = by_lower (omega arith)
exceeds_trans (by_higher d h) (by_lower k) = by_lower (omega arith)
exceeds_trans (by_higher d h) (by_higher e k) = by_higher (omega arith) (omega arith)

pub not_same : {lanes : List ℕ} {a b : ℕ} → Exceeds lanes b a → lower lanes a ≡ lower lanes b → higher lanes a ≢ higher lanes b
not_same (by_lower h) d e = omega arith
not_same (by_higher x h) d e = omega arith

-- where each lane exceeds the one before it, every later one exceeds every earlier one
pub all_rising : (lanes : List ℕ) (count : ℕ) → ((k : ℕ) → suc k < count → Exceeds lanes (suc k) k) → (k l : ℕ) → k < l → l < count → Exceeds lanes l k
all_rising lanes count next k zero h m = absurd (not-suc-le-zero h)
all_rising lanes count next k (suc l) h m = cases (all_rising lanes count next k l) (dec_lt k l)
  where
    cases : (k < l → l < count → Exceeds lanes l k) → Dec (k < l) → Exceeds lanes (suc l) k
    cases before (yes x) = exceeds_trans (next l m) (before x (omega arith))
    cases before (no x) = let e : l ≡ k = omega arith in subst (Exceeds lanes (suc l)) e (next l m)

-- so of numbers
pub all_higher : (l : List ℕ) (count : ℕ) → ((k : ℕ) → suc k < count → get_or l k 0 < get_or l (suc k) 0) → (k m : ℕ) → k < m → m < count → get_or l k 0 < get_or l m 0
all_higher l count next k zero h x = absurd (not-suc-le-zero h)
all_higher l count next k (suc m) h x = cases (all_higher l count next k m) (dec_lt k m)
  where
    cases : (k < m → m < count → get_or l k 0 < get_or l m 0) → Dec (k < m) → get_or l k 0 < get_or l (suc m) 0
    cases before (yes y) = omega (arith, next m x, before y (omega arith))
    cases before (no y) = let e : m ≡ k = omega arith in subst (λ (i : ℕ). get_or l i 0 < get_or l (suc m) 0) e (next m x)

-- ---- no fault, so well formed

module _ (N : Network) (denied : DeniedNetwork N) where
  next_rises : (k : ℕ) → suc k < lanes_in N.lanes → Exceeds N.lanes (suc k) k
  next_rises k h = cases (dec (exceeds? N.lanes (suc k) k))
    where
      cases : Dec (Exceeds N.lanes (suc k) k) → Exceeds N.lanes (suc k) k
      cases (yes e) = e
      cases (no e) = absurd (denied.lane (suc k) h (not_rising {j = k} (omega arith) e))

  next_higher : (k : ℕ) → suc k < length N.closed → get_or N.closed k 0 < get_or N.closed (suc k) 0
  next_higher k h =
      not_above (get_or N.closed (suc k) 0) (suc (get_or N.closed k 0))
      (λ x. denied.closed_node_lem (suc k) h (not_higher k (omega arith) (omega arith)))

  pub well_formed_network : WellFormedNetwork N
  well_formed_network = record {
    node_count = (
      not_above N.nodes 1 (λ h. denied.nodes (inl h)),
      not_above node_limit N.nodes (λ h. denied.nodes (inr h)),
    );
    lane_count = (omega (arith, odd), not_above lane_limit (lanes_in N.lanes) (λ h. denied.lanes (inl h)));
    lane = λ k h. (
      not_above (higher N.lanes k) (suc (lower N.lanes k)) (λ x. denied.lane k h (not_below (omega arith))),
      not_above N.nodes (suc (higher N.lanes k)) (λ x. denied.lane k h (no_node (inr (omega arith)))),
    );
    rising = all_rising N.lanes (lanes_in N.lanes) next_rises;
    closed_count_lem = not_above node_limit (length N.closed) denied.closed_count_lem;
    closed_node_lem = λ k h. not_above N.nodes (suc (get_or N.closed k 0)) (λ x. denied.closed_node_lem k h (no_such_node (omega arith)));
    closed_rising = all_higher N.closed (length N.closed) next_higher;
  }
    where
      odd : length N.lanes % 2 ≢ 1
      odd e = denied.lanes (inr e)

module _ (j : Numbers) (sound : None (checks_question j)) where
  facts : Denied j
  facts = denied_checks j sound

  pub well_formed : WellFormed j
  well_formed = record {
    network_is = well_formed_network j.network facts.moves.network;
    dwell_few = dwell_within j sound;
    carrier_count = carriers_limit j sound;
    ends_on = ends_on j sound;
    ends_differ = facts.moves.same_ends;
    order_count_lem = order_length j sound;
    entry = entry_below j sound;
    placed = λ c h. let f = place_of j sound c h in (f.place, (f.inside, f.is));
    once = λ p q hp hq d e. d (entry_once j sound p q hp hq e);
  }

-- ---- well formed, so no fault

module _ (N : Network) (w : WellFormedNetwork N) where
  no_nodes_fault : ¬ ((N.nodes < 1) ⊎ (node_limit < N.nodes))
  no_nodes_fault (inl h) = omega (arith, w.node_count)
  no_nodes_fault (inr h) = omega (arith, w.node_count)

  no_lanes_fault : ¬ ((lane_limit < length N.lanes / 2) ⊎ (length N.lanes % 2 ≡ 1))
  no_lanes_fault (inl h) = omega (arith, w.lane_count)
  no_lanes_fault (inr h) = omega (arith, w.lane_count)

  no_lane_fault : (k : ℕ) → k < lanes_in N.lanes → ¬ LaneFault N.nodes N.lanes k
  no_lane_fault k h (no_node (inl x)) = omega (arith, w.lane k h)
  no_lane_fault k h (no_node (inr x)) = omega (arith, w.lane k h)
  no_lane_fault k h (not_below x) = omega (arith, w.lane k h)
  no_lane_fault k h (not_rising {j = i} e x) = x (w.rising i k (omega arith) h)

  each_lane_passed : Passed (lane_checks N.nodes N.lanes) (lanes_in N.lanes)
  each_lane_passed = record { clear = λ k l. (no_lane_fault k l, tt) }

  no_closed_fault : (k : ℕ) → k < length N.closed → ¬ ClosedFault N.nodes N.closed k
  no_closed_fault k h (no_such_node x) = omega (arith, w.closed_node_lem k h)
  no_closed_fault k h (not_higher i e x) = omega (arith, w.closed_rising i k (omega arith) h)

  each_closed_passed : Passed (closed_checks N.nodes N.closed) (length N.closed)
  each_closed_passed = record { clear = λ k l. (no_closed_fault k l, tt) }

  -- 3 and 12, of every lane and every closed node
  no_entry_check : {q : Question} → None q →
      None (each_lane N.nodes N.lanes ∷ each_closed N.nodes N.closed ∷ q)
  no_entry_check rest =
      none_more (each_none (lane_checks N.nodes N.lanes) each_lane_passed)
      (none_more (each_none (closed_checks N.nodes N.closed) each_closed_passed) rest)

  pub no_network_check : None (network_question N)
  no_network_check =
      asked_clear no_nodes_fault
      (asked_clear no_lanes_fault
      (asked_clear (λ l. omega (arith, w.closed_count_lem))
      (no_entry_check none_at_all)))

module _ (j : Numbers) (w : WellFormed j) where
  ends_are_nodes : (i : ℕ) → i < carriers j → ¬ NoNode-at j.network.nodes (start j i) (goal j i)
  ends_are_nodes i h (inl x) = omega (arith, (w.ends_on.starts i h).numbered)
  ends_are_nodes i h (inr x) = omega (arith, (w.ends_on.goals i h).numbered)

  no_closed_end : (i : ℕ) → i < carriers j → ¬ ClosedEnd-at j.network.closed (start j i) (goal j i)
  no_closed_end i h (inl x) = (w.ends_on.starts i h).not_closed x
  no_closed_end i h (inr x) = (w.ends_on.goals i h).not_closed x

  no_bad_order : (p : ℕ) → p < length j.order → ¬ BadOrder-at (carriers j) j.order p
  no_bad_order p h (no_carrier x) = omega (arith, w.entry p h)
  no_bad_order p h (stands_earlier {q = q} l e) = w.once q p (omega arith) h (λ x. omega arith) e

  pub no_check : None (checks_question j)
  no_check =
      asked_clear (no_nodes_fault j.network w.network_is)
      (asked_clear (no_lanes_fault j.network w.network_is)
      (asked_clear (λ l. omega (arith, w.network_is.closed_count_lem))
      (asked_clear (λ l. omega (arith, w.carrier_count))
      (asked_clear (λ d. d w.order_count_lem)
      (asked_clear (λ l. omega (arith, w.dwell_few))
      (no_entry_check j.network w.network_is
      (none_more (each_none (move_checks j.network.nodes j.network.closed j.moves) moves_passed)
      (none_more (each_none (order_checks (carriers j) j.order) order_passed)
      none_at_all))))))))
    where
      moves_passed : Passed (move_checks j.network.nodes j.network.closed j.moves) (carriers j)
      moves_passed = record { clear = λ i l. (ends_are_nodes i l, (w.ends_differ i l, (no_closed_end i l, tt))) }

      order_passed : Passed (order_checks (carriers j) j.order) (length j.order)
      order_passed = record { clear = λ p l. (no_bad_order p l, tt) }

-- ---- what follows of the lanes

module _ (N : Network) (w : WellFormedNetwork N) where
  -- no lane stands twice
  pub none_twice : (k l : ℕ) → k < lanes_in N.lanes → l < lanes_in N.lanes → k ≢ l →
      lower N.lanes k ≡ lower N.lanes l → higher N.lanes k ≢ higher N.lanes l
  none_twice k l hk hl d e f = cases (dec_lt k l)
    where
      cases : Dec (k < l) → ⊥
      cases (yes x) = not_same (w.rising k l x hl) e f
      cases (no x) = not_same (w.rising l k (omega arith) hk) (sym e) (sym f)

  -- a lane joins two different nodes, whichever stands first
  pub joins_two_nodes : (a b : ℕ) → Lane N.lanes a b → (a < N.nodes) × (b < N.nodes) × (a ≢ b)
  joins_two_nodes a b l = cases (w.lane l.k l.inside) l.ends
    where
      cases : (lower N.lanes l.k < higher N.lanes l.k) × (higher N.lanes l.k < N.nodes)
          → ((lower N.lanes l.k ≡ a) × (higher N.lanes l.k ≡ b))
          ⊎ ((lower N.lanes l.k ≡ b) × (higher N.lanes l.k ≡ a))
          → (a < N.nodes) × (b < N.nodes) × (a ≢ b)
      cases h (inl e) = (omega arith, omega arith, λ x. omega arith)
      cases h (inr e) = (omega arith, omega arith, λ x. omega arith)

-- the checks of a network, and the listed checks of a job, are the rules' words
pub network_well_formed_iff : (N : Network) → None (network_question N) ↔ WellFormedNetwork N
network_well_formed_iff N = (λ none. well_formed_network N (network_denied N none), no_network_check N)

pub well_formed_iff : (j : Numbers) → None (checks_question j) ↔ WellFormed j
well_formed_iff j = (well_formed j, no_check j)

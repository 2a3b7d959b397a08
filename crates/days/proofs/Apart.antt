-- No two carriers ever admitted meet or cross, whatever shortest paths they take. A day is a day of the book
-- that forgets nothing (Days.antt), where the later of two carriers has a tick that the earlier one permits;
-- hall's `pair_safe` does the rest, dwell included. Each carrier has a shortest path, and on it goes as
-- demand 3 says, by hall's laws of a carrier on its path. Assumes nothing.
--     later_permitted   of any two carriers of such a day the earlier one permits the later one's tick
--     day_paths         each carrier has a shortest path, so that the theorem speaks of something
--     day_travels       it comes to its goal its distance after its start, and is nowhere after its last tick
--     day_apart         the theorem
use mathlib.Core.Logic.{◌≢◌}
use mathlib.Core.List.{List}
use Prim.Native.Nat.{ℕ, zero, suc, ◌≤◌, ◌<◌}
use native.Mathlib.Nat.{not-suc-le-zero}
use native.Mathlib.Decide.{dec_lt}
use native.Mathlib.Omega.{arith}
use lib.ListN.{length}
use Rattle.hall.specs.Limits.{node_limit}
use Rattle.hall.specs.Floor.{Dist, Network, floor}
use Rattle.hall.specs.Path.{ShortestPath}
use Rattle.hall.specs.Safety.{Apart}
use Rattle.hall.proofs.Walks.{lanes_symmetric}
use Rattle.hall.proofs.Safe.{pair_safe}
use Rattle.hall.proofs.Paths.{shortest_exists}
use Rattle.hall.proofs.Demand.{meet_turned, cross_turned, shortest_path, goal_after, goal_only_then, present_until, absent_else}
use Rattle.slots.specs.declared.Slot.{Slot}
use Rattle.slots.specs.declared.Book.{Book}
use Rattle.slots.specs.Record.{slot_at}
use Rattle.admission.specs.Admission.{PermitsOne}
use Rattle.admission.proofs.SoundCall.{call_tells}
use Rattle.days.specs.Day.{Call, Day, begins, admits, refuses, PermittedEver, UnforgottenDay, Travels}
use Rattle.days.specs.Day as D
use Rattle.admission.proofs.Took.{took}
use Rattle.days.proofs.Days.{remembers, unforgotten_day}
use Rattle.admission.proofs.Pairs.{six}

-- the lists have the latest first, so p is later than q
pub later_permitted : (N : Network) (w : ℕ) {calls : List Call} {ever : List Slot} → UnforgottenDay N w calls ever → (p q : ℕ) → p < q → q < length ever
    → PermitsOne N w (slot_at ever q) (slot_at ever p).start (slot_at ever p).goal (slot_at ever p).tick
unfolding PermittedEver
later_permitted N w D.UnforgottenDay.begins p q l h = absurd (not-suc-le-zero h)
later_permitted N w (D.UnforgottenDay.admits d call x e s own) p zero l h = absurd (not-suc-le-zero l)
later_permitted N w (D.UnforgottenDay.admits d call x e s own) zero (suc q) l h = s.permitted q (omega arith)
later_permitted N w (D.UnforgottenDay.admits d call x e s own) (suc p) (suc q) l h = later_permitted N w d p q (omega arith) (omega arith)

-- where a call was accepted the network has at most 1,024 nodes
pub few_of_day : (N : Network) (w : ℕ) {calls : List Call} {ever : List Slot} {b : Book} → Day N w calls ever b → 0 < length ever → N.nodes ≤ node_limit
few_of_day N w begins h = absurd (not-suc-le-zero h)
few_of_day N w (admits {b = b} d call x left a) h =
    let t = took N w (remembers N w d).dwell_is a in
    (call_tells N b call.now call.start call.goal t.sound).few_nodes
few_of_day N w (refuses d call n p left a) h = few_of_day N w d h

pub day_paths : (N : Network) (w : ℕ) {calls : List Call} {ever : List Slot} {b : Book} → Day N w calls ever b → (p : ℕ) → p < length ever
    → (l : List ℕ) × ShortestPath (floor N) (slot_at ever p).start (slot_at ever p).goal l
day_paths N w day p h = shortest_exists ((remembers N w day).true_distance p h)

-- a carrier with its true distance, on any of its shortest paths
travels : (N : Network) (w : ℕ) (c : Slot) {l : List ℕ} → Dist (floor N) c.start c.goal c.distance → ShortestPath (floor N) c.start c.goal l → Travels w c l
travels N w c d s =
    let p = shortest_path d s in
    record {
      at_goal = goal_after p w c.tick;
      only_then = goal_only_then p w c.tick d;
      present = present_until p w c.tick;
      absent = absent_else p w c.tick;
    }

module _ (N : Network) (w : ℕ) {calls : List Call} {ever : List Slot} {b : Book} (day : Day N w calls ever b)
    (path : ℕ → List ℕ) (shortest : (p : ℕ) → p < length ever → ShortestPath (floor N) (slot_at ever p).start (slot_at ever p).goal (path p)) where
  abbrev tick : ℕ → ℕ
  tick p = (slot_at ever p).tick

  own : (p : ℕ) → p < length ever → Dist (floor N) (slot_at ever p).start (slot_at ever p).goal (slot_at ever p).distance
  own = (remembers N w day).true_distance

  pub day_travels : (p : ℕ) → p < length ever → Travels w (slot_at ever p) (path p)
  day_travels p h = travels N w (slot_at ever p) (own p h) (shortest p h)

  -- q is the earlier one
  earlier_apart : (p q : ℕ) → p < q → q < length ever → Apart w path tick q p
  unfolding PermitsOne six
  earlier_apart p q l h =
      let hp : p < length ever = omega arith in
      let pair = six N (few_of_day N w day (omega arith)) (slot_at ever q).start (slot_at ever q).goal (slot_at ever p).start (slot_at ever p).goal
      (slot_at ever q).distance (slot_at ever p).distance (own q h) (own p hp) in
      pair_safe (lanes_symmetric N) pair.1 (shortest_path (own q h) (shortest q h)) (shortest_path (own p hp) (shortest p hp)) w
      (tick q) (tick p) (later_permitted N w (unforgotten_day N w day) p q l h pair.0 pair.1)

  pub day_apart : (p q : ℕ) → p < length ever → q < length ever → p ≢ q → Apart w path tick p q
  day_apart p q hp hq d = cases (dec_lt q p)
    where
      cases : Dec (q < p) → Apart w path tick p q
      cases (yes l) = earlier_apart q p l hp
      cases (no l) = let f = earlier_apart p q (omega arith) hq in ((λ m. f.0 (meet_turned m)), λ c. f.1 (cross_turned c))

-- A trolley is admissions and nothing else, from what the lent function promises: however it ended, the day
-- with its admitted moves added is a day, whose carriers have the ticks that stand in the list. So what is
-- owed to a day is owed to one with trolleys. By induction over the moves that are admitted; the move that
-- was refused changed nothing. Assumes nothing.
--     trolley_day      the theorem
--     midway           between two moves it is a day too
--     put_at           each move that was admitted, with its tick in the list
--     aboard_at        move i of k stands at place k - 1 - i of the carriers
--     kept_day         a book that admissions and trolleys alone have changed is that of a day
use mathlib.Core.Path.{◌≡◌, refl, sym, ◌∙◌, ap, subst}
use mathlib.Core.List.{List, [], ◌∷◌, ◌++◌}
use Prim.Native.Nat.{ℕ, suc, ◌-◌, ◌<◌}
use native.Mathlib.Nat.{not-suc-le-zero}
use native.Mathlib.Decide.{ℕ_discrete}
use native.Mathlib.Omega.{arith}
use lib.ListN.{get_or, get_or-append}
use lib.Seq.{get_or_at}
use Rattle.hall.specs.Limits.{carrier_limit}
use Rattle.hall.specs.Floor.{Network}
use Rattle.hall.specs.Job.{start_in, goal_in}
use Rattle.hall.specs.Left.{filled}
use Rattle.hall.specs.Said.{accepted, refused}
use Rattle.slots.specs.declared.Slot.{Slot}
use Rattle.slots.specs.declared.Book.{Book}
use Rattle.slots.specs.Record.{slot_at}
use Rattle.admission.specs.Admission.{carrier_of}
use Rattle.admission.specs.Trolley.{Ending, Admits, none_yet, one_more, to_the_end, up_to, Ride, not_begun, begun}
use Rattle.admission.proofs.Riding.{admits_length, Taken, taken_at}
use Rattle.days.specs.Day as D
use Rattle.days.specs.Day.{Call, Day, admits, refuses}
use Rattle.days.specs.Trolleys.{admitted_by, trolley_calls, Aboard, nobody, next, OfMove, RodeOn, Kept, begins, admission, trolley}

module _ (N : Network) (w : ℕ) {calls : List Call} {ever : List Slot} {b : Book} (day : Day N w calls ever b) (now : ℕ) (moves : List ℕ) where
  -- the moves that are admitted, with any list that has their ticks in front
  admitted_day : {k : ℕ} {ticks : List ℕ} {left : Book} → Admits N b now moves k ticks left → (after : List ℕ)
      → ((i : ℕ) → i < k → get_or ticks i 0 ≡ get_or after i 0) → RodeOn N w calls ever now moves after k left
  admitted_day none_yet after same = record { carriers = []; aboard = nobody; day = day }
  admitted_day (one_more {k = k} {starts = ticks} {left = left} {e = e} m before a) after same =
      let size = admits_length before in
      let so_far = admitted_day before after (λ i l. sym (get_or-append ticks (e.tick ∷ []) 0 i (omega arith)) ∙ same i (omega arith)) in
      let tick : e.tick ≡ get_or after k 0 = sym (get_or_at ticks e.tick [] 0 k size) ∙ same k (omega arith) in
      let call : Call = record { now = now; start = start_in moves k; goal = goal_in moves k } in
      record {
        carriers = carrier_of (start_in moves k) (goal_in moves k) a.outcome.distance (get_or after k 0) ∷ so_far.carriers;
        aboard = next so_far.aboard a.outcome.own;
        day = subst (λ (y : ℕ). Day N w (call ∷ (trolley_calls now moves k ++ calls)) (carrier_of (start_in moves k) (goal_in moves k) a.outcome.distance y ∷ (so_far.carriers ++ ever)) left) tick (admits so_far.day call e left a);
      }

  -- between two moves it is a day too
  pub midway : {k : ℕ} {ticks : List ℕ} {held : Book} → Admits N b now moves k ticks held → RodeOn N w calls ever now moves ticks k held
  midway {ticks = ticks} p = admitted_day p ticks (λ i l. refl)

  -- the ticks stand in front of the list that is left
  in_front : {k : ℕ} {ticks after : List ℕ} {left : Book} (before : List ℕ) → Admits N b now moves k ticks left → after ≡ filled ticks carrier_limit before
      → RodeOn N w calls ever now moves after k left
  unfolding filled
  in_front {ticks = ticks} before p e =
      admitted_day p _ (λ i l. sym (get_or-append ticks _ 0 i (omega (arith, admits_length p))) ∙ ap (λ (u : List ℕ). get_or u i 0) (sym e))

  in_list : {k : ℕ} {starts after : List ℕ} {held : Book} (before : List ℕ) → Admits N b now moves k starts held → after ≡ filled starts carrier_limit before → (i : ℕ) → i < k
      → Taken N b now moves after i
  unfolding filled
  in_list {starts = starts} before p e i l =
      let t = taken_at p i l in
      record {
        so_far = t.so_far;
        held = t.held;
        left = t.left;
        entry = t.entry;
        admits = t.admits;
        put = t.put;
        tick_is = ap (λ (u : List ℕ). get_or u i 0) e ∙ get_or-append starts _ 0 i (omega (arith, admits_length p)) ∙ t.tick_is;
      }

  pub trolley_day : {before after : List ℕ} {ended : Ending} {left : Book} → Ride N b now moves before ended left after
      → RodeOn N w calls ever now moves after (admitted_by moves ended) left
  trolley_day (not_begun f same list) = rw same (record { carriers = []; aboard = nobody; day = day })
  trolley_day {before} (begun n (to_the_end p) e) = in_front before p e
  trolley_day {before} (begun n (up_to {k = k} {n = number} {p = place} {left = left} l p c) e) =
      let so_far = in_front before p e in
      let call : Call = record { now = now; start = start_in moves k; goal = goal_in moves k } in
      record { carriers = so_far.carriers; aboard = so_far.aboard; day = refuses so_far.day call number place left c }

  -- each move that a trolley admitted, with its tick in the list that is left
  pub put_at : {before after : List ℕ} {ended : Ending} {left : Book} → Ride N b now moves before ended left after → (i : ℕ) → i < admitted_by moves ended → Taken N b now moves after i
  put_at (not_begun f same list) i l = absurd (not-suc-le-zero l)
  put_at {before} (begun n (to_the_end p) e) i l = in_list before p e i l
  put_at {before} (begun n (up_to m p c) e) i l = in_list before p e i l

-- ---- who is who

pub aboard_at : {N : Network} {moves ticks : List ℕ} {k : ℕ} {carriers : List Slot} → Aboard N moves ticks k carriers → (ever : List Slot) (i : ℕ) → i < k
    → OfMove N moves ticks i (slot_at (carriers ++ ever) (k - 1 - i))
aboard_at nobody ever i l = absurd (not-suc-le-zero l)
aboard_at {N} {moves} {ticks} (next {k = k} {d = d} {carriers = carriers} before own) ever i l = cases (ℕ_discrete i k) (λ z. aboard_at before ever i z)
  where
    cases : Dec (i ≡ k) → (i < k → OfMove N moves ticks i (slot_at (carriers ++ ever) (k - 1 - i)))
        → OfMove N moves ticks i (slot_at (carrier_of (start_in moves k) (goal_in moves k) d (get_or ticks k 0) ∷ (carriers ++ ever)) (suc k - 1 - i))
    cases (yes e) earlier = let place : suc k - 1 - i ≡ 0 = omega arith in rw (place, e) (d, own, refl)
    cases (no e) earlier = let place : suc k - 1 - i ≡ suc (k - 1 - i) = omega arith in rw place (earlier (omega arith))

-- ---- any number of admissions and trolleys

pub kept_day : {N : Network} {w : ℕ} {b : Book} → Kept N w b → (calls : List Call) × (ever : List Slot) × Day N w calls ever b
kept_day begins = ([], [], D.Day.begins)
kept_day (admission kept now s g (accepted e) a) = let d = kept_day kept in (_, _, admits d.2 (record { now = now; start = s; goal = g }) e _ a)
kept_day (admission kept now s g (refused n p) a) = let d = kept_day kept in (d.0, d.1, refuses d.2 (record { now = now; start = s; goal = g }) n p _ a)
kept_day {N} {w} (trolley kept now moves ticks ticks' end ride) = let d = kept_day kept in (_, _, (trolley_day N w d.2 now moves ride).day)

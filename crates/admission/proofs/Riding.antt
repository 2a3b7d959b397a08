-- A trolley underway: the moves before k are admitted, their start ticks stand in front of the list, and the
-- rest of it is as it came. Behind a list whose first 64 places are zero that makes a filled one. Assumes
-- nothing.
--     Underway        what holds before move k
--     sets_out, goes_on, stops, arrives    it holds before the first move; it holds again after a move that
--                     is admitted; and what it tells where a move is refused, and where none is left
--     admits_length   there are as many start ticks as moves that are admitted
--     Taken           move i among those admitted: the book that it was put to, and its start tick
--     taken_at        each of them was taken so
--     ridden          the moves over a list that was zeroed are a whole trolley
--     empty_rides     no moves are a trolley that leaves everything but the ticks as it came
use mathlib.Core.Path.{◌≡◌, refl, sym, ◌∙◌, ap}
use mathlib.Core.List.{List, [], ◌∷◌, ◌++◌, append_assoc}
use Prim.Native.Nat.{ℕ, suc, ◌+◌, ◌≤◌, ◌<◌}
use native.Mathlib.Nat.{not-suc-le-zero}
use native.Mathlib.Numerals.{add-one}
use native.Mathlib.Decide.{ℕ_discrete}
use native.Mathlib.Omega.{arith}
use lib.ListN.{length, get_or, set, drop, length-append, length-set, get_or-append}
use lib.Seq.{drop-cons, set_at, get_or_at}
use Rattle.hall.specs.Limits.{carrier_limit}
use Rattle.hall.specs.Floor.{Network}
use Rattle.hall.specs.Job.{move_count}
use Rattle.hall.specs.Left.{zeroed, filled}
use Rattle.hall.specs.Stages.{None}
use Rattle.hall.specs.Said.{accepted, refused}
use Rattle.hall.proofs.Left.{drop_zeroed}
use Rattle.hall.proofs.Compose.{none_at_all}
use Rattle.hall.proofs.Places.{asked_clear}
use Rattle.slots.specs.declared.Book.{Book}
use Rattle.admission.specs.declared.Entry.{Entry}
use Rattle.admission.specs.Trolley.{Ending, all, stopped, PutTo, Admits, none_yet, one_more, Rides, to_the_end, up_to}
use Rattle.admission.specs.Trolley.{trolley_counts, Ride, begun}
use Rattle.admission.specs.Steps.{Settled, Riding}

pub record Underway (N : Network) (b : Book) (now : ℕ) (moves ticks : List ℕ) (k : ℕ) (held : Book) (ticks' : List ℕ) : Type 0 where
  -- the start ticks of the moves that are admitted
  pub starts : List ℕ
  pub so_many : length starts ≡ k
  pub admits : Admits N b now moves k starts held
  pub written : ticks' ≡ starts ++ drop k ticks
  -- the list is as long as it was
  pub long : length ticks' ≡ length ticks
  -- after a move that is admitted, only the next move is in question
  pub settled : 0 < k → Settled N held now

-- a tick is written at its place
tick_written : (starts ticks ticks' : List ℕ) (k t : ℕ) → length starts ≡ k → k < length ticks → ticks' ≡ starts ++ drop k ticks → set ticks' k t ≡ (starts ++ t ∷ []) ++ drop (k + 1) ticks
tick_written starts ticks ticks' k t e l w =
    ap (λ (a : List ℕ). set a k t) (w ∙ ap (λ (d : List ℕ). starts ++ d) (drop-cons ticks k 0 l))
    ∙ set_at starts (get_or ticks k 0) (drop (suc k) ticks) t k e
    ∙ sym (append_assoc starts (t ∷ []) (drop (suc k) ticks))
    ∙ ap (λ (j : ℕ). (starts ++ t ∷ []) ++ drop j ticks) (sym (add-one k))

module _ (N : Network) (b : Book) (now : ℕ) (moves ticks : List ℕ) where
  pub sets_out : Underway N b now moves ticks 0 b ticks
  sets_out = record { starts = []; so_many = refl; admits = none_yet; written = refl; long = refl; settled = λ l. absurd (not-suc-le-zero l) }

  module _ {k : ℕ} {held : Book} {ticks' : List ℕ} (u : Underway N b now moves ticks k held ticks') where
    pub goes_on : {left : Book} {e : Entry} → k < length ticks → k < move_count moves → PutTo N b now moves k held (accepted e) left → Settled N left now
        → Underway N b now moves ticks (k + 1) left (set ticks' k e.tick)
    goes_on {e = e} l m a next = record {
      starts = u.starts ++ e.tick ∷ [];
      so_many = length-append u.starts (e.tick ∷ []) ∙ ap (λ (n : ℕ). n + 1) u.so_many;
      admits = rw add-one (one_more m u.admits a);
      written = tick_written u.starts ticks ticks' k e.tick u.so_many l u.written;
      long = length-set ticks' k e.tick ∙ u.long;
      settled = λ some. next;
    }

    rest_as_came : ticks' ≡ u.starts ++ drop (length u.starts) ticks
    rest_as_came = u.written ∙ ap (λ (n : ℕ). u.starts ++ drop n ticks) (sym u.so_many)

    pub stops : {left : Book} {n p : ℕ} → k < move_count moves → PutTo N b now moves k held (refused n p) left → Riding N b now moves ticks (stopped k n p) left ticks'
    stops l a = record { starts = u.starts; rides = up_to l u.admits a; written = rest_as_came }

    pub arrives : k ≡ move_count moves → Riding N b now moves ticks all held ticks'
    arrives e = record { starts = u.starts; rides = to_the_end (rw e at u.admits); written = rest_as_came }

-- ---- the moves that are admitted

pub admits_length : {N : Network} {b : Book} {now : ℕ} {moves : List ℕ} {k : ℕ} {starts : List ℕ} {left : Book} → Admits N b now moves k starts left → length starts ≡ k
admits_length none_yet = refl
admits_length (one_more {k = k} {starts = starts} {e = e} l before a) = length-append starts (e.tick ∷ []) ∙ omega (arith, admits_length before)

pub record Taken (N : Network) (b : Book) (now : ℕ) (moves starts : List ℕ) (i : ℕ) : Type 0 where
  pub so_far : List ℕ
  pub held : Book
  pub left : Book
  pub entry : Entry
  pub admits : Admits N b now moves i so_far held
  pub put : PutTo N b now moves i held (accepted entry) left
  pub tick_is : get_or starts i 0 ≡ entry.tick

pub taken_at : {N : Network} {b : Book} {now : ℕ} {moves : List ℕ} {k : ℕ} {starts : List ℕ} {held : Book} → Admits N b now moves k starts held → (i : ℕ) → i < k → Taken N b now moves starts i
taken_at none_yet i l = absurd (not-suc-le-zero l)
taken_at {N} {b} {now = now} {moves = moves} (one_more {k = k} {starts = starts} {held = held} {left = left} {e = e} m before a) i l = cases (ℕ_discrete i k) (λ z. taken_at before i z)
  where
    cases : Dec (i ≡ k) → (i < k → Taken N b now moves starts i) → Taken N b now moves (starts ++ e.tick ∷ []) i
    cases (yes z) earlier = rw z (record { so_far = starts; held = held; left = left; entry = e; admits = before; put = a; tick_is = get_or_at starts e.tick [] 0 k (admits_length before) })
    cases (no z) earlier =
        let t = earlier (omega arith) in
        record {
          so_far = t.so_far;
          held = t.held;
          left = t.left;
          entry = t.entry;
          admits = t.admits;
          put = t.put;
          tick_is = get_or-append starts (e.tick ∷ []) 0 i (omega (arith, admits_length before)) ∙ t.tick_is;
        }

-- ---- the whole trolley

rides_length : {N : Network} {b left : Book} {now : ℕ} {moves starts : List ℕ} {end : Ending} → Rides N b now moves end starts left → length starts ≤ move_count moves
rides_length (to_the_end a) = omega (arith, admits_length a)
rides_length (up_to l a c) = omega (arith, admits_length a)

pub ridden : (N : Network) (b : Book) (now : ℕ) (moves ticks : List ℕ) {end : Ending} {left : Book} {ticks' : List ℕ} → carrier_limit ≤ length ticks → move_count moves ≤ carrier_limit
    → None (trolley_counts moves ticks) → Riding N b now moves (zeroed carrier_limit ticks) end left ticks' → Ride N b now moves ticks end left ticks'
unfolding filled
ridden N b now moves ticks long few none r = begun none r.rides (r.written ∙ behind)
  where
    behind : r.starts ++ drop (length r.starts) (zeroed carrier_limit ticks) ≡ filled r.starts carrier_limit ticks
    behind = ap (λ (t : List ℕ). r.starts ++ t) (drop_zeroed (length r.starts) carrier_limit ticks (omega (arith, rides_length r.rides)) long)

pub empty_rides : (N : Network) (b : Book) (now : ℕ) (moves ticks : List ℕ) → move_count moves ≡ 0 → carrier_limit ≤ length ticks
    → Ride N b now moves ticks all b (zeroed carrier_limit ticks)
empty_rides N b now moves ticks e long =
    ridden N b now moves ticks long (omega arith) (asked_clear (omega arith) (asked_clear (omega arith) none_at_all))
    (record { starts = []; rides = to_the_end (rw e none_yet); written = refl })

-- One way to end, one book and one list of ticks for each input: two outcomes of a trolley that fit its
-- promise are equal. The moves that are admitted are so one by one, each with one answer
-- (`admission_unique`); so where one outcome has a move refused, no other has it admitted. Assumes nothing.
--     ride_unique     of what is said
--     ended_unique    of the answers themselves: a refusal has the fault of its number
use mathlib.Core.Path.{◌≡◌, refl, sym, ◌∙◌, ap, subst}
use mathlib.Core.List.{List, [], ◌∷◌, ◌++◌}
use Prim.Native.Nat.{ℕ, ◌<◌}
use native.Mathlib.Decide.{dec_lt}
use native.Mathlib.Omega.{arith}
use Rattle.hall.specs.declared.Refusal.{Refusal}
use Rattle.hall.specs.Limits.{carrier_limit}
use Rattle.hall.specs.Floor.{Network}
use Rattle.hall.specs.Left as table
use Rattle.hall.specs.Numbers.{number_of}
use Rattle.hall.specs.Said.{Said, accepted, refused}
use Rattle.hall.proofs.Numbers.{number_one_fault}
use Rattle.hall.proofs.Stages.{none_excludes, first_unique}
use Rattle.slots.specs.declared.Book.{Book}
use Rattle.admission.specs.declared.Entry.{Entry}
use Rattle.std.specs.Prelude.{Result, Ok, Err}
use Rattle.admission.specs.declared.trolley.Stop.{Stop}
use Rattle.admission.specs.declared.trolley.Stop.TheVariants.{Before, At}
use Rattle.admission.specs.Trolley.{Ending, all, stopped, refused_whole, said_ended, PutTo, Admits, none_yet, one_more}
use Rattle.admission.specs.Trolley.{Rides, to_the_end, up_to, Ride, not_begun, begun}
use Rattle.admission.proofs.Unique.{admission_unique}
use Rattle.admission.proofs.Riding.{Taken, taken_at}

-- the numbers of an answer, 0 where it has none
abbrev number : Said Entry → ℕ
number (accepted e) = 0
number (refused n p) = n

abbrev place : Said Entry → ℕ
place (accepted e) = 0
place (refused n p) = p

abbrev tick : Said Entry → ℕ
tick (accepted e) = e.tick
tick (refused n p) = 0

abbrev entries : Said Entry → ℕ
entries (accepted e) = 1
entries (refused n p) = 0

module _ (N : Network) (b : Book) (now : ℕ) (moves : List ℕ) where
  admits_once : {k : ℕ} {ticks other : List ℕ} {held stands : Book} → Admits N b now moves k ticks held → Admits N b now moves k other stands
      → (ticks ≡ other) × (held ≡ stands)
  admits_once none_yet none_yet = (refl, refl)
  admits_once (one_more {k = k} {left = left} {e = x} l p a) (one_more {left = left'} {e = y} m q c) =
      let e = admits_once p q in
      let u = admission_unique N (accepted x) (accepted y) a (subst (λ (h : Book). PutTo N b now moves k h (accepted y) left') (sym e.1) c) in
      ((λ i. e.0 i ++ (ap tick u.0 i ∷ [])), u.1)

  -- no move is admitted in one outcome and refused in another
  not_both : {k : ℕ} {starts ticks : List ℕ} {held stands : Book} (n m : ℕ) → Taken N b now moves starts k → Admits N b now moves k ticks held → PutTo N b now moves k held (refused n m) stands → ⊥
  not_both {k} {held = held} n m t p c =
      let e = admits_once t.admits p in
      let u = admission_unique N (accepted t.entry) (refused n m) (subst (λ (h : Book). PutTo N b now moves k h (accepted t.entry) t.left) e.1 t.put) c in
      let z : ◌≡◌ {A = ℕ} 1 0 = ap entries u.0 in omega arith

  rides_once : {e f : Ending} {h g : Book} {s t : List ℕ} → Rides N b now moves e s h → Rides N b now moves f t g → (e ≡ f) × (s ≡ t) × (h ≡ g)
  rides_once (to_the_end p) (to_the_end q) = let u = admits_once p q in (refl, u.0, u.1)
  rides_once (to_the_end p) (up_to {k = k} {n = n} {p = m} l q c) = absurd (not_both n m (taken_at p k l) q c)
  rides_once (up_to {k = k} {n = n} {p = m} l q c) (to_the_end p) = absurd (not_both n m (taken_at p k l) q c)
  rides_once (up_to {k = k} {n = n} {p = r} {starts = u} {held = b₁} {left = h} l p a) (up_to {k = m} {n = o} {p = t} {starts = v} {held = b₂} {left = g} l' q c) = cases (dec_lt k m) (dec_lt m k)
    where
      same : k ≡ m → (stopped k n r ≡ stopped m o t) × (u ≡ v) × (h ≡ g)
      same e =
          let q' : Admits N b now moves k v b₂ = rw (sym e) at q in
          let c' : PutTo N b now moves k b₂ (refused o t) g = rw (sym e) at c in
          let z = admits_once p q' in
          let w = admission_unique N (refused n r) (refused o t) a (subst (λ (j : Book). PutTo N b now moves k j (refused o t) g) (sym z.1) c') in
          ((λ i. stopped (e i) (ap number w.0 i) (ap place w.0 i)), z.0, w.1)

      cases : Dec (k < m) → Dec (m < k) → (stopped k n r ≡ stopped m o t) × (u ≡ v) × (h ≡ g)
      cases (yes z) z' = absurd (not_both n r (taken_at q k z) p a)
      cases (no z) (yes z') = absurd (not_both o t (taken_at p m z') q c)
      cases (no z) (no z') = same (omega arith)

  pub ride_unique : (before : List ℕ) {e f : Ending} {h g : Book} {s t : List ℕ} → Ride N b now moves before e h s → Ride N b now moves before f g t → (e ≡ f) × (h ≡ g) × (s ≡ t)
  ride_unique before (not_begun p h s) (not_begun q g u) =
      let o = first_unique p q in
      ((λ i. refused_whole (o.0 i) (o.1 i)), h ∙ sym g, s ∙ (λ i. table.left (o.0 i) carrier_limit before) ∙ sym u)
  ride_unique before (not_begun p h s) (begun n x u) = absurd (none_excludes p n)
  ride_unique before (begun n x u) (not_begun p h s) = absurd (none_excludes p n)
  ride_unique before (begun n x u) (begun m y v) =
      let o = rides_once x y in
      (o.0, o.2, u ∙ (λ i. table.filled (o.1 i) carrier_limit before) ∙ sym v)

-- ---- what is said is said by one end

abbrev kind : Ending → ℕ
kind all = 0
kind (stopped k n p) = 1
kind (refused_whole n p) = 2

abbrev ending_move : Ending → ℕ
ending_move all = 0
ending_move (stopped k n p) = k
ending_move (refused_whole n p) = 0

abbrev ending_number : Ending → ℕ
ending_number all = 0
ending_number (stopped k n p) = n
ending_number (refused_whole n p) = n

abbrev ending_place : Ending → ℕ
ending_place all = 0
ending_place (stopped k n p) = p
ending_place (refused_whole n p) = p

-- a refusal is its number and its place
pub refusal_once : (r t : Refusal) → number_of r.fault ≡ number_of t.fault → r.place ≡ t.place → r ≡ t
refusal_once r t e f = let same = number_one_fault r.fault t.fault e in λ i. record { fault = same i; place = f i }

other_kind : (e f : Result Unit Stop) → said_ended e ≡ said_ended f → ¬ (kind (said_ended e) ≡ kind (said_ended f)) → e ≡ f
other_kind e f h differ = absurd (differ (ap kind h))

ended_once : (e f : Result Unit Stop) → said_ended e ≡ said_ended f → e ≡ f
ended_once (Ok u) (Ok v) h = refl
ended_once (Err (At k r)) (Err (At m t)) h = λ i. Err (At (ap ending_move h i) (refusal_once r t (ap ending_number h) (ap ending_place h) i))
ended_once (Err (Before r)) (Err (Before t)) h = λ i. Err (Before (refusal_once r t (ap ending_number h) (ap ending_place h) i))
ended_once (Ok u) (Err (At m t)) h = other_kind (Ok u) (Err (At m t)) h (λ e. omega arith)
ended_once (Ok u) (Err (Before t)) h = other_kind (Ok u) (Err (Before t)) h (λ e. omega arith)
ended_once (Err (At k r)) (Ok v) h = other_kind (Err (At k r)) (Ok v) h (λ e. omega arith)
ended_once (Err (At k r)) (Err (Before t)) h = other_kind (Err (At k r)) (Err (Before t)) h (λ e. omega arith)
ended_once (Err (Before r)) (Ok v) h = other_kind (Err (Before r)) (Ok v) h (λ e. omega arith)
ended_once (Err (Before r)) (Err (At m t)) h = other_kind (Err (Before r)) (Err (At m t)) h (λ e. omega arith)

pub ended_unique : (N : Network) (b : Book) (now : ℕ) (moves before : List ℕ) (r r' : Result Unit Stop) {h g : Book} {s t : List ℕ}
    → Ride N b now moves before (said_ended r) h s → Ride N b now moves before (said_ended r') g t
    → (r ≡ r') × (h ≡ g) × (s ≡ t)
ended_unique N b now moves before r r' x y =
    let o = ride_unique N b now moves before x y in
    (ended_once r r' o.0, o.1, o.2)

-- A computed test of a trolley with an outcome. The answer to each of its calls is guessed, from the book
-- that the answer before left, and tested to be what the definitions give (`gives?`). So one outcome is found
-- that is given, and there is no other (`trolley_unique`): a test of an outcome compares it with the one
-- found. It passes exactly if the outcome is what the definitions give. Assumes nothing.
--     compared?       where one outcome is given, a test of another compares the two
--     faults          the checks of a question that hold, each with number and place, in the order of asking
--     first_from      of so many numbers from x up the first that passes, or the one behind them
--     guessed         the answer guessed to a call, by the labels: the first fault, or else the first tick
--                     within 100 ticks that the carriers held permit and the first free slot
--     call_of k held   the call of move k to the book `held`
--     guesses m k     the answers guessed to m calls from move k on, up to the first refusal
--     CaseRides, CaseAdmits, CasePutTo   `Rides`, `Admits` and `PutTo` of the trolley of the case
--     Answered l k    from move k on the calls are answered by the list l, up to the last or to a refusal
--     Course          how the calls end, the ticks of the moves admitted, and the book that is left
--     course l k      the one that the answers of the list l come to
--     found           the outcome of the whole trolley, by the answers of a list
--     Sure            what the tests of a case go by: true labels, and the answers of the list are given
use mathlib.Core.Path.{◌≡◌, refl, subst}
use mathlib.Core.Bool.{Bool, cond, not}
use mathlib.Core.List.{List, [], ◌∷◌, ◌++◌, map}
use Prim.Native.Nat.{ℕ, zero, suc, ◌<◌}
use lib.Dec.{eqb}
use lib.ListN.{length}
use Rattle.hall.specs.declared.Fault.TheVariants.{Unreachable, NoSlot, StaleSlot}
use Rattle.hall.specs.Limits.{carrier_limit, no_walk_mark}
use Rattle.hall.specs.Numbers.{number_of}
use Rattle.hall.specs.Job.{move_count, start_in, goal_in}
use Rattle.hall.specs.Left.{filled, left}
use Rattle.hall.specs.Stages.{Stage, Question, First, None}
use Rattle.hall.specs.Questions.{move_ends}
use Rattle.hall.specs.Said.{Said, accepted, refused}
use Rattle.slots.specs.declared.Slot.{Slot}
use Rattle.slots.specs.declared.Book.{Book}
use Rattle.slots.specs.Record.{slot_count, slot_at}
use Rattle.slots.specs.Questions.{book_question}
use Rattle.admission.specs.declared.Entry.{Entry}
use Rattle.admission.specs.Trolley.{Ending, all, stopped, refused_whole, trolley_counts, PutTo}
use Rattle.admission.specs.Trolley.{Admits, none_yet, one_more, Rides, to_the_end, up_to, not_begun, begun}
use Rattle.book_cases.specs.Case.{Case, Gives, case, entry}
use Rattle.book_cases.specs.Trolleys.{TrolleyOutcome, TrolleyCase, GivesTrolley, outcome_of}
use Rattle.hall.proofs.Test.{Test, both, lt?, eq?, ◌and?◌, ◌then?◌, map?}
use Rattle.hall.proofs.TickTests.{permitted?}
use Rattle.hall.proofs.StageTests.{ChecksAt, Tested, TestedAll, once?, none?, first?}
use Rattle.book_cases.proofs.MoveTests.{label, move-ends?, Rows, rows?}
use Rattle.book_cases.proofs.BookTests.{free?, standing?, full?, book?}
use Rattle.book_cases.proofs.HeldTests.{each-one?, carriers_in}
use Rattle.book_cases.proofs.AdmissionTests.{kept, placed, left_by, gives?, leaves}
use Rattle.book_cases.proofs.OutcomeTests.{outcome?}
use Rattle.book_cases.proofs.Unique.{trolley_unique}

abbrev pub compared? : (c : TrolleyCase) (o o' : TrolleyOutcome) → GivesTrolley c o → Test (GivesTrolley c o')
compared? c o o' h = map? (λ e. subst (GivesTrolley c) e h) (trolley_unique c o o' h) (outcome? o o')

-- ---- guesses

abbrev pub faults_at : (s : Stage) (p : ℕ) → ChecksAt s p → List (ℕ × ℕ)
faults_at [] p t = []
faults_at (c ∷ s) p t = cond t.0.pass ((c.number, p) ∷ faults_at s p t.1) (faults_at s p t.1)

abbrev pub faults_in : {s : Stage} → Tested s → (places p : ℕ) → List (ℕ × ℕ)
faults_in t zero p = []
faults_in {s} t (suc m) p = faults_at s p (t.at p) ++ faults_in t m (suc p)

abbrev pub faults : (q : Question) → TestedAll q → List (ℕ × ℕ)
faults [] t = []
faults (s ∷ q) t = faults_in t.0 t.0.places 0 ++ faults q t.1

abbrev pub first_from : (ℕ → Bool) → (many x : ℕ) → ℕ
first_from f zero x = x
first_from f (suc m) x = cond (f x) x (first_from f m (suc x))

module _ (c : Case) where
  -- 8, 17 and 15
  abbrev pub no-walk-guess : List (ℕ × ℕ)
  no-walk-guess =
      cond (eqb (label c.network c.start c.goal) no_walk_mark) ((number_of Unreachable, 0) ∷ []) []

  abbrev pub other-label : Slot → Bool
  other-label x = not (eqb (label c.network x.start x.goal) x.distance)

  abbrev pub stale-place : ℕ → Bool
  stale-place i =
      both
      (standing? c.book.slots c.book.dwell c.now i).pass
      (other-label (slot_at c.book.slots i))

  abbrev pub stale-guess : List (ℕ × ℕ)
  stale-guess =
      let i = first_from stale-place slot_count 0 in
      cond (eqb i slot_count) [] ((number_of StaleSlot, i) ∷ [])

  abbrev pub full-guess : List (ℕ × ℕ)
  full-guess = cond (full? c.book.slots c.book.dwell c.now).pass ((number_of NoSlot, 0) ∷ []) []

  abbrev pub fault-guess : List (ℕ × ℕ)
  fault-guess =
      faults (book_question c.book c.now) (book? c.book c.now)
      ++ (faults (move_ends c.network c.start c.goal) (move-ends? c.network c.start c.goal)
      ++ (no-walk-guess ++ (stale-guess ++ full-guess)))

  abbrev pub entry-guess : Entry
  entry-guess =
      let held = kept c.network c.book c.now c.start c.goal in
      let pairs = map (placed c.network c.book c.now c.start c.goal) (carriers_in held) in
      let wait = c.book.dwell in
      let permits : ℕ → Bool = λ x. (each-one? (λ q. permitted? wait q.1 q.0 x) pairs).pass in
      entry (first_from permits 100 c.now) (first_from (λ i. (free? (slot_at held i)).pass) slot_count 0)

abbrev pub guess_by : List (ℕ × ℕ) → Entry → Said Entry
guess_by [] e = accepted e
guess_by (f ∷ l) e = refused f.0 f.1

abbrev pub guessed : Case → Said Entry
guessed c = guess_by (fault-guess c) (entry-guess c)

-- ---- the calls of a trolley

pub record Course : Type 0 where
  pub end : Ending
  pub ticks : List ℕ
  pub left : Book

abbrev pub and_then : Said Entry → (Entry → List (Said Entry)) → List (Said Entry)
and_then (accepted e) more = accepted e ∷ more e
and_then (refused n p) more = refused n p ∷ []

module _ (c : TrolleyCase) where
  abbrev pub call_of : ℕ → Book → Case
  call_of k held = case c.network held c.now (start_in c.moves k) (goal_in c.moves k) (refused 0 0)

  abbrev pub guesses : (m k : ℕ) → Book → List (Said Entry)
  guesses zero k held = []
  guesses (suc m) k held =
      and_then (guessed (call_of k held)) (λ e. guesses m (suc k) (left_by (call_of k held) e))

  abbrev pub CaseRides : Course → Type 0
  CaseRides x = Rides c.network c.book c.now c.moves x.end x.ticks x.left

  abbrev pub CaseAdmits : ℕ → List ℕ → Book → Type 0
  CaseAdmits k ticks held = Admits c.network c.book c.now c.moves k ticks held

  abbrev pub CasePutTo : ℕ → Book → Said Entry → Book → Type 0
  CasePutTo k held o l = PutTo c.network c.book c.now c.moves k held o l

  abbrev pub AnsweredBy : ℕ → Book → Said Entry → Type 0
  AnsweredBy k held o =
      (k < move_count c.moves) × ((length held.slots ≡ slot_count) × Gives (call_of k held) o)

  abbrev pub Answered : List (Said Entry) → ℕ → Book → Type 0
  Answered [] k held = k ≡ move_count c.moves
  Answered (accepted e ∷ l) k held =
      AnsweredBy k held (accepted e) × Answered l (suc k) (left_by (call_of k held) e)
  Answered (refused n p ∷ l) k held = AnsweredBy k held (refused n p)

  abbrev pub course : List (Said Entry) → ℕ → Book → List ℕ → Course
  course [] k held ticks = record { end = all; ticks = ticks; left = held }
  course (accepted e ∷ l) k held ticks = course l (suc k) (left_by (call_of k held) e) (ticks ++ e.tick ∷ [])
  course (refused n p ∷ l) k held ticks = record { end = stopped k n p; ticks = ticks; left = held }

  module _ (rows : Rows c.network) where
    abbrev pub answered-by? : (k : ℕ) (held : Book) (o : Said Entry) → Test (AnsweredBy k held o)
    answered-by? k held o =
        lt? k (move_count c.moves)
        and? (eq? (length held.slots) slot_count then? λ size. gives? (call_of k held) (rows, size) o)

    abbrev pub answered? : (l : List (Said Entry)) (k : ℕ) (held : Book) → Test (Answered l k held)
    answered? [] k held = eq? k (move_count c.moves)
    answered? (accepted e ∷ l) k held =
        answered-by? k held (accepted e) and? answered? l (suc k) (left_by (call_of k held) e)
    answered? (refused n p ∷ l) k held = answered-by? k held (refused n p)

    pub course_rides : (l : List (Said Entry)) (k : ℕ) (held : Book) (ticks : List ℕ)
        → CaseAdmits k ticks held → Answered l k held → CaseRides (course l k held ticks)
    course_rides [] k held ticks a h = to_the_end (subst (λ (j : ℕ). CaseAdmits j ticks held) h a)
    course_rides (accepted e ∷ l) k held ticks a h =
        let same = leaves (call_of k held) (rows, h.0.1.0) e h.0.1.1 in
        course_rides l (suc k) (left_by (call_of k held) e) (ticks ++ e.tick ∷ [])
        (one_more h.0.0 a (subst (CasePutTo k held (accepted e)) same h.0.1.1.admission)) h.1
    course_rides (refused n p ∷ l) k held ticks a h =
        let call = h.1.1.admission in
        up_to h.0 a (subst (CasePutTo k held (refused n p)) call.outcome call)

  -- ---- the whole trolley

  abbrev pub counts : Question
  counts = trolley_counts c.moves c.ticks

  abbrev pub counts? : TestedAll counts
  counts? = (
    once? (lt? (length c.ticks) carrier_limit),
    (once? (lt? carrier_limit (move_count c.moves)), tt),
  )

  module _ (l : List (Said Entry)) where
    abbrev pub found-by : List (ℕ × ℕ) → TrolleyOutcome
    found-by [] =
        let x = course l 0 c.book [] in
        outcome_of x.end (filled x.ticks carrier_limit c.ticks) x.left
    found-by (f ∷ r) =
        outcome_of (refused_whole f.0 f.1) (left f.0 carrier_limit c.ticks) c.book

    abbrev pub SureBy : List (ℕ × ℕ) → Type 0
    SureBy [] = None counts × (Rows c.network × Answered l 0 c.book)
    SureBy (f ∷ r) = First counts f.0 f.1

    abbrev pub sure-by? : (r : List (ℕ × ℕ)) → Test (SureBy r)
    sure-by? [] = none? counts counts? and? (rows? c.network then? λ rows. answered? rows l 0 c.book)
    sure-by? (f ∷ r) = first? counts counts? f.0 f.1

    pub by_given : (r : List (ℕ × ℕ)) → SureBy r → GivesTrolley c (found-by r)
    by_given [] s = begun s.0 (course_rides s.1.0 l 0 c.book [] none_yet s.1.1) refl
    by_given (f ∷ r) s = not_begun s refl refl

    abbrev pub found : TrolleyOutcome
    found = found-by (faults counts counts?)

    abbrev pub Sure : Type 0
    Sure = SureBy (faults counts counts?)

    abbrev pub sure? : Test Sure
    sure? = sure-by? (faults counts counts?)

    pub found_given : Sure → GivesTrolley c found
    found_given s = by_given (faults counts counts?) s

    abbrev pub gives-trolley? : Sure → (o : TrolleyOutcome) → Test (GivesTrolley c o)
    gives-trolley? s o = compared? c found o (found_given s)

-- Computed tests of a call to a floor book with an outcome. Its checks are computed from the labels of the
-- network (MoveTests.antt). Where none holds, every carrier that is still held has its true distance, so the
-- labels give its pair with the move, and two carriers have one pair (`pair_once`). So the smallest tick is a
-- computed question, and a test of an outcome passes exactly if the outcome is what the definitions give.
-- Assumes nothing.
--     Off             17, of the slot at a place: its carrier stands, and has another distance than is held
--     placed          a carrier held: its start tick, and its pair with the move by the labels
--     TruePair        the pair has the true distances
--     PermitsAt w x   what is placed so permits the tick x
--     Entered         nothing of the question holds, and tick and slot are those of the rules
--     Known           what the tests of a case go by: true labels, and 64 slots
--     left_by          the book that an accepted call leaves, by the labels
use mathlib.Core.Path.{◌≡◌, refl}
use mathlib.Core.Logic.{inr}
use mathlib.Core.List.{List, [], ◌∷◌, ◌++◌, map}
use Prim.Native.Nat.{ℕ}
use lib.ListN.{length, set}
use lib.IntN.{pos, ◌-ℤ◌}
use Rattle.hall.specs.Floor.{Dist, Network, floor}
use Rattle.hall.specs.Rule.{Pair, pair6, Permitted}
use Rattle.hall.specs.Ticks.{SmallestFrom}
use Rattle.hall.specs.Plan.{DistancesOf}
use Rattle.hall.specs.Stages.{None}
use Rattle.hall.specs.Said.{Said, accepted, refused}
use Rattle.hall.specs.Questions.{move_question}
use Rattle.slots.specs.declared.Slot.{Slot}
use Rattle.slots.specs.declared.Book.{Book}
use Rattle.slots.specs.Record.{slot_count, slot_at, Standing, forgetting, LowestFree, book_with}
use Rattle.slots.specs.Questions.{book_question}
use Rattle.admission.specs.declared.Entry.{Entry}
use Rattle.admission.specs.Refusals.{Stale, start_shut, goal_shut, other_distance}
use Rattle.admission.specs.Questions.{stale_checks, stale_slots, full_book, call_question, admission_question}
use Rattle.admission.specs.Admission.{PermitsOne, PermittedHeld, carrier_of}
use Rattle.book_cases.specs.Case.{Case, Gives}
use Rattle.hall.proofs.Walks.{begins_on_node, ends_on_node, true_distance}
use Rattle.hall.proofs.Compose.{none_split}
use Rattle.hall.proofs.Test.{Test, eq?, not?, ◌and?◌, ◌then?◌, map?}
use Rattle.hall.proofs.TickTests.{permitted?}
use Rattle.hall.proofs.FloorTests.{no_walk_is}
use Rattle.hall.proofs.StageTests.{TestedAll, once?, each?, both?, none?, first?}
use Rattle.admission.proofs.Admitting.{pair_once, true_held}
use Rattle.admission.proofs.SoundCall.{walk_there, move_clear, call_tells}
use Rattle.admission.proofs.Unique.{admission_unique}
use Rattle.book_cases.proofs.MoveTests.{label, Rows, rows?, distance_is, dist?, move?}
use Rattle.book_cases.proofs.BookTests.{standing?, full?, lowest-free?, book?}
use Rattle.book_cases.proofs.HeldTests.{Each, each-one?, carriers_in, each_held, held_each, smallest-from?}

-- ---- 17

module _ (N : Network) (w t : ℕ) (slots : List Slot) (i : ℕ) where
  abbrev pub Off : Type 0
  Off =
      Standing w t slots i
      × (¬ Dist (floor N) (slot_at slots i).start (slot_at slots i).goal (slot_at slots i).distance)

  pub off_stale : Off → Stale N w t slots i
  off_stale h = other_distance h.0 h.1

  pub stale_off : Stale N w t slots i → Off
  stale_off (start_shut h k) = (h, λ d. k (begins_on_node d.walk))
  stale_off (goal_shut h k) = (h, λ d. k (ends_on_node d.walk))
  stale_off (other_distance h k) = (h, k)

  abbrev pub stale? : Rows N → Test (Stale N w t slots i)
  stale? rows =
      map? off_stale stale_off
      (standing? slots w t i
      then? λ h. not? (dist? N rows (slot_at slots i).start (slot_at slots i).goal (slot_at slots i).distance))

module _ (N : Network) (b : Book) (now s g : ℕ) where
  -- ---- all checks

  abbrev pub stale-slots? : Rows N → TestedAll (stale_slots N b.dwell now b.slots ∷ [])
  stale-slots? rows =
      (each? slot_count (stale_checks N b.dwell now b.slots) (λ i. (stale? N b.dwell now b.slots i rows, tt)), tt)

  abbrev pub call? : Rows N → TestedAll (call_question N b now s g)
  call? rows =
      both? (book_question b now) (move_question N s g ++ (stale_slots N b.dwell now b.slots ∷ [])) (book? b now)
      (both? (move_question N s g) (stale_slots N b.dwell now b.slots ∷ []) (move? N rows s g) (stale-slots? rows))

  abbrev pub admission? : Rows N → TestedAll (admission_question N b now s g)
  admission? rows =
      both? (call_question N b now s g) (full_book b now ∷ []) (call? rows) (once? (full? b.slots b.dwell now), tt)

  -- ---- the pairs

  abbrev pub kept : List Slot
  kept = forgetting b.dwell now b.slots

  abbrev pub placed : Slot → ℕ × Pair
  placed c = (
    c.tick,
    pair6
        (label N c.start s)
        (label N c.goal g)
        c.distance
        (label N s g)
        (label N c.start g)
        (label N s c.goal),
  )

  abbrev pub TruePair : Slot → Type 0
  TruePair c = DistancesOf (floor N) c.start c.goal s g (placed c).1

  abbrev pub PermitsAt : (w x : ℕ) → ℕ × Pair → Type 0
  PermitsAt w x q = Permitted w q.1 (pos x -ℤ pos q.0)

  pub placed_permit : (w x : ℕ) (l : List Slot) → Each TruePair l → Each (PermitsAt w x) (map placed l) → Each (λ c. PermitsOne N w c s g x) l
  unfolding PermitsOne
  placed_permit w x [] d h = tt
  placed_permit w x (c ∷ l) d h = ((λ p six. rw (pair_once six d.0) h.0), placed_permit w x l d.1 h.1)

  pub permit_placed : (w x : ℕ) (l : List Slot) → Each TruePair l → Each (λ c. PermitsOne N w c s g x) l → Each (PermitsAt w x) (map placed l)
  unfolding PermitsOne
  permit_placed w x [] d h = tt
  permit_placed w x (c ∷ l) d h = (h.0 (placed c).1 d.0, permit_placed w x l d.1 h.1)

  -- ---- the tick of a call that passes its checks

  module _ (rows : Rows N) (size : length b.slots ≡ slot_count) (sound : None (call_question N b now s g)) where
    pub own_distance : Dist (floor N) s g (label N s g)
    own_distance =
        let move = call_tells N b now s g sound in
        true_distance (distance_is N rows s g move.start_open move.goal_open)
        (λ e. walk_there N s g (move_clear N b now s g sound) (no_walk_is N s g (label N s g) (distance_is N rows s g) (inr (inr e))))

    pub true_pairs : Each TruePair (carriers_in kept)
    true_pairs = held_each TruePair kept (λ i h. pair (slot_at kept i) (true_held N b now s g size sound i h))
      where
        pair : (c : Slot) → Dist (floor N) c.start c.goal c.distance → TruePair c
        pair c d =
            let from = begins_on_node d.walk in
            let to = ends_on_node d.walk in
            let move = call_tells N b now s g sound in
            record {
              own_i = d;
              own_j = own_distance;
              starts = distance_is N rows c.start s from move.start_open;
              goals = distance_is N rows c.goal g to move.goal_open;
              i_to_j = distance_is N rows c.start g from move.goal_open;
              j_to_i = distance_is N rows s c.goal move.start_open to;
            }

    pub placed_held : (x : ℕ) → Each (PermitsAt b.dwell x) (map placed (carriers_in kept)) → PermittedHeld N b.dwell kept s g x
    unfolding PermittedHeld
    placed_held x h = each_held (λ c. PermitsOne N b.dwell c s g x) kept (placed_permit b.dwell x (carriers_in kept) true_pairs h)

    pub held_placed : (x : ℕ) → PermittedHeld N b.dwell kept s g x → Each (PermitsAt b.dwell x) (map placed (carriers_in kept))
    unfolding PermittedHeld
    held_placed x h = permit_placed b.dwell x (carriers_in kept) true_pairs (held_each (λ c. PermitsOne N b.dwell c s g x) kept h)

    abbrev pub permitted-held? : (x : ℕ) → Test (PermittedHeld N b.dwell kept s g x)
    permitted-held? x =
        map? (placed_held x) (held_placed x)
        (each-one? (λ q. permitted? b.dwell q.1 q.0 x) (map placed (carriers_in kept)))

  -- ---- an accepted call

  abbrev pub Entered : Entry → Type 0
  Entered e =
      None (admission_question N b now s g)
      × (SmallestFrom now (PermittedHeld N b.dwell kept s g) e.tick × LowestFree kept e.slot)

  pub before_full : None (admission_question N b now s g) → None (call_question N b now s g)
  before_full none = (none_split (call_question N b now s g) (full_book b now ∷ []) none).0

  abbrev pub entered? : Rows N → length b.slots ≡ slot_count → (e : Entry) → Test (Entered e)
  entered? rows size e =
      none? (admission_question N b now s g) (admission? rows)
      then? λ none.
      smallest-from? (permitted-held? rows size (before_full none)) now e.tick and? lowest-free? kept e.slot

-- ---- a case

abbrev pub Known : Case → Type 0
Known c = Rows c.network × (length c.book.slots ≡ slot_count)

abbrev pub known? : (c : Case) → Test (Known c)
known? c = rows? c.network and? eq? (length c.book.slots) slot_count

abbrev pub left_by : Case → Entry → Book
left_by c e =
    book_with c.now c.book.dwell
    (set (forgetting c.book.dwell c.now c.book.slots) e.slot
    (carrier_of c.start c.goal (label c.network c.start c.goal) e.tick))

module _ (c : Case) (known : Known c) where
  pub entered_given : (e : Entry) → Entered c.network c.book c.now c.start c.goal e → Gives c (accepted e)
  entered_given e h = record {
    left = left_by c e;
    admission = record {
      fits = h.0;
      outcome = record {
        distance = label c.network c.start c.goal;
        own = own_distance c.network c.book c.now c.start c.goal known.0 known.1 (before_full c.network c.book c.now c.start c.goal h.0);
        smallest = h.1.0;
        takes = h.1.1;
        left_is = refl;
      };
    };
  }

  pub given_entered : (e : Entry) → Gives c (accepted e) → Entered c.network c.book c.now c.start c.goal e
  given_entered e h = (h.admission.fits, (h.admission.outcome.smallest, h.admission.outcome.takes))

  abbrev pub gives? : (o : Said Entry) → Test (Gives c o)
  gives? (accepted e) =
      map? (entered_given e) (given_entered e)
      (entered? c.network c.book c.now c.start c.goal known.0 known.1 e)
  gives? (refused n p) =
      map? (λ h. record { left = c.book; admission = record { fits = h; outcome = refl } }) (λ h. h.admission.fits)
      (first? (admission_question c.network c.book c.now c.start c.goal) (admission? c.network c.book c.now c.start c.goal known.0) n p)

  -- there is one book that an accepted call leaves
  pub leaves : (e : Entry) (h : Gives c (accepted e)) → h.left ≡ left_by c e
  unfolding entered_given
  leaves e h = (admission_unique c.network (accepted e) (accepted e) h.admission (entered_given e (given_entered e h)).admission).1

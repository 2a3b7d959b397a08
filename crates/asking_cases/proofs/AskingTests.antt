-- Computed tests of the question whether a move may go at a tick, with what is said. Its checks are those
-- of a call (`call?` of book_cases). Where none holds, every carrier that is not past at the tick has its
-- true distance, so the labels give its pair with the move (`true_pairs`), and two carriers have one pair.
-- So it is a computed question whether a slot forbids the tick. It comes behind `then?`, so that it is not
-- computed of a slot that is free or past. A test passes exactly if what is said is what the definitions
-- give. Assumes nothing.
--     ForbidsAt c     the pair of the carrier c by the labels forbids the tick
--     Blocks i        slot i stands at the tick, and its carrier does so
--     SlotForbids i   `ForbiddenBy` of slot i of the book
--     Unbarred        no slot of the book forbids the tick
--     LowestOf i      slot i forbids it, and none before does
--     RightVerdict v   `Judgement` of the verdict v
--     call_of          the call of a case as one of an admission, whose outcome is of no account: `Known` of
--                     it is what the tests of the case go by
--     sure?           `known?` of AdmissionTests, with the labels tested once for each network
use mathlib.Core.Path.{◌≡◌, subst}
use Prim.Native.Nat.{ℕ, ◌<◌}
use lib.ListN.{length}
use lib.IntN.{pos, ◌-ℤ◌}
use Rattle.hall.specs.Floor.{Network}
use Rattle.hall.specs.Rule.{Forbidden}
use Rattle.hall.specs.Stages.{First, None}
use Rattle.hall.specs.Said.{Said, accepted, refused}
use Rattle.slots.specs.declared.Slot.{Slot}
use Rattle.slots.specs.declared.Book.{Book}
use Rattle.slots.specs.Record.{slot_count, slot_at, Standing}
use Rattle.admission.specs.Questions.{call_question}
use Rattle.admission.specs.Asking.{ForbiddenBy, Verdict, may, barred, Judgement, free_to_go, lowest, Asking}
use Rattle.book_cases.specs.Case.{Case, case}
use Rattle.asking_cases.specs.Case.{AskingCase, GivesAsking}
use Rattle.hall.proofs.Test.{Test, eq?, not?, ◌and?◌, ◌then?◌, map?, all?}
use Rattle.hall.proofs.Rules.{forbidden_iff}
use Rattle.hall.proofs.TickTests.{forbidden?}
use Rattle.hall.proofs.StageTests.{none?, first?}
use Rattle.slots.proofs.Slots.{held_still}
use Rattle.admission.proofs.Admitting.{pair_once}
use Rattle.book_cases.proofs.MoveTests.{Rows}
use Rattle.book_cases.proofs.BookTests.{standing?}
use Rattle.book_cases.proofs.HeldTests.{each_held}
use Rattle.book_cases.proofs.AdmissionTests.{call?, kept, placed, TruePair, true_pairs, Known}
use Rattle.asking_cases.proofs.Networks.{rows-once?}

module _ (N : Network) (b : Book) (t s g : ℕ) where
  abbrev pub ForbidsAt : Slot → Type 0
  ForbidsAt c = Forbidden b.dwell (placed N b t s g c).1 (pos t -ℤ pos c.tick)

  abbrev pub Blocks : ℕ → Type 0
  Blocks i = Standing b.dwell t b.slots i × ForbidsAt (slot_at b.slots i)

  abbrev pub forbids-at? : (c : Slot) → Test (ForbidsAt c)
  forbids-at? c =
      let same = forbidden_iff b.dwell (placed N b t s g c).1 c.tick t in
      map? same.1 same.0 (forbidden? b.dwell (placed N b t s g c).1 c.tick t)

  abbrev pub blocks? : (i : ℕ) → Test (Blocks i)
  blocks? i = standing? b.slots b.dwell t i then? λ h. forbids-at? (slot_at b.slots i)

  abbrev pub SlotForbids : ℕ → Type 0
  SlotForbids i = ForbiddenBy N b.dwell b.slots t s g i

  abbrev pub Unbarred : Type 0
  Unbarred = (i : ℕ) → i < length b.slots → ¬ SlotForbids i

  abbrev pub LowestOf : ℕ → Type 0
  LowestOf i = SlotForbids i × ((j : ℕ) → j < i → ¬ SlotForbids j)

  abbrev pub RightVerdict : Verdict → Type 0
  RightVerdict v = Judgement N b.dwell b.slots t s g v

  pub unbarred_may : Unbarred → RightVerdict may
  unbarred_may h = free_to_go (λ i f. h i f.standing.held.inside f)

  pub may_unbarred : RightVerdict may → Unbarred
  may_unbarred (free_to_go h) i l = h i

  pub lowest_barred : (i : ℕ) → LowestOf i → RightVerdict (barred i)
  lowest_barred i h = lowest h.0 h.1

  pub barred_lowest : (i : ℕ) → RightVerdict (barred i) → LowestOf i
  barred_lowest i (lowest f first) = (f, first)

  module _ (rows : Rows N) (size : length b.slots ≡ slot_count) where
    -- ---- a call that passes its checks

    module _ (sound : None (call_question N b t s g)) where
      pub true_one : (i : ℕ) → Standing b.dwell t b.slots i → TruePair N b t s g (slot_at b.slots i)
      true_one i h =
          let still = held_still b.dwell t b.slots i h in
          let pairs = true_pairs N b t s g rows size sound in
          subst (TruePair N b t s g) still.1
          (each_held (TruePair N b t s g) (kept N b t s g) pairs i still.0)

      pub blocks_forbids : (i : ℕ) → Blocks i → SlotForbids i
      blocks_forbids i h = record {
        standing = h.0;
        pair = (placed N b t s g (slot_at b.slots i)).1;
        distances = true_one i h.0;
        forbids = h.1;
      }

      pub forbids_blocks : (i : ℕ) → SlotForbids i → Blocks i
      forbids_blocks i f =
          (f.standing, rw (pair_once f.distances (true_one i f.standing)) at f.forbids)

      abbrev pub slot-forbids? : (i : ℕ) → Test (SlotForbids i)
      slot-forbids? i = map? (blocks_forbids i) (forbids_blocks i) (blocks? i)

      abbrev pub right-verdict? : (v : Verdict) → Test (RightVerdict v)
      right-verdict? may =
          map? unbarred_may may_unbarred (all? (λ i. not? (slot-forbids? i)) (length b.slots))
      right-verdict? (barred i) =
          map? (lowest_barred i) (barred_lowest i) (slot-forbids? i and? all? (λ j. not? (slot-forbids? j)) i)

    -- ---- what is said

    abbrev pub asked? : (o : Said Verdict) → Test (Asking N b t s g o)
    asked? (accepted v) =
        map? {A = None (call_question N b t s g) × RightVerdict v}
        (λ h. record { fits = h.0; right = h.1 }) (λ a. (a.fits, a.right))
        (none? (call_question N b t s g) (call? N b t s g rows) then? λ sound. right-verdict? sound v)
    asked? (refused n p) =
        map? {A = First (call_question N b t s g) n p} (λ h. record { fits = h; right = tt }) (λ a. a.fits)
        (first? (call_question N b t s g) (call? N b t s g rows) n p)

-- ---- a case

abbrev pub call_of : AskingCase → Case
call_of c = case c.network c.book c.t c.start c.goal (refused 0 0)

abbrev pub sure? : (c : AskingCase) → Test (Known (call_of c))
sure? c = rows-once? c.network and? eq? (length c.book.slots) slot_count

abbrev pub asking? : (c : AskingCase) → Known (call_of c) → (o : Said Verdict) → Test (GivesAsking c o)
asking? c known = asked? c.network c.book c.t c.start c.goal known.0 known.1

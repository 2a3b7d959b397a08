-- What an accepted admission says, with the dwell of the book by its own name. Assumes nothing.
--     Took      the clock did not turn back, the tick is the smallest, the slot the lowest free one, and so
--               on
--     past      past its last tick a carrier permits every tick
use mathlib.Core.Path.{◌≡◌, refl, subst}
use mathlib.Core.Logic.{◌≢◌}
use mathlib.Core.List.{[], ◌∷◌}
use Prim.Native.Nat.{ℕ, zero, ◌≤◌, ◌<◌}
use native.Mathlib.Decide.{ℕ_discrete}
use native.Mathlib.Omega.{arith}
use lib.ListN.{set}
use Rattle.hall.specs.Floor.{Floor, Walk, here, Dist, Network, floor}
use Rattle.hall.specs.Stages.{None}
use Rattle.hall.specs.Ticks.{SmallestFrom}
use Rattle.hall.specs.Said.{accepted}
use Rattle.hall.proofs.Walks.{dist_unique}
use Rattle.hall.proofs.Compose.{none_split}
use Rattle.hall.proofs.Ticks.{past_last}
use Rattle.slots.specs.declared.Slot.{Slot}
use Rattle.slots.specs.declared.Book.{Book}
use Rattle.admission.specs.declared.Entry.{Entry}
use Rattle.slots.specs.Record.{free, last_tick, forgetting, LowestFree, book_with}
use Rattle.admission.specs.Questions.{call_question, full_book}
use Rattle.admission.specs.Admission.{PermitsOne, PermittedHeld, carrier_of, Admission}
use Rattle.admission.proofs.SoundCall.{not_back, call_tells}
use Rattle.slots.proofs.Slots.{carrier_taken}

-- a carrier with its true distance permits every tick past its last one
pub past : (N : Network) (w : ℕ) (c : Slot) → Dist (floor N) c.start c.goal c.distance → (s g x : ℕ) → last_tick w c < x → PermitsOne N w c s g x
unfolding PermitsOne
past N w c d s g x h p six = past_last w p c.tick x (omega (arith, dist_unique six.own_i d))

-- two different nodes are one lane apart at least
stays : {F : Floor} {s g : ℕ} → Walk F s g zero → s ≡ g
stays (here n) = refl

pub apart_one : {F : Floor} {s g d : ℕ} → Dist F s g d → s ≢ g → 1 ≤ d
apart_one {F} {s} {g} {d} h differ = cases (ℕ_discrete d 0)
  where
    cases : Dec (d ≡ 0) → 1 ≤ d
    cases (yes e) = absurd (differ (stays (subst (Walk F s g) e h.walk)))
    cases (no k) = omega arith

pub record Took (N : Network) (w : ℕ) (b : Book) (now s g x d : ℕ) (left : Book) : Type 0 where
  pub sound : None (call_question N b now s g)
  pub not_back : b.clock ≤ now
  pub own : Dist (floor N) s g d
  pub taken : carrier_of s g d x ≢ free
  pub smallest : SmallestFrom now (PermittedHeld N w (forgetting w now b.slots) s g) x
  pub slot : ℕ
  pub takes : LowestFree (forgetting w now b.slots) slot
  pub left_is : left ≡ book_with now w (set (forgetting w now b.slots) slot (carrier_of s g d x))

pub took : (N : Network) (w : ℕ) {b left : Book} {now s g : ℕ} {x : Entry} → b.dwell ≡ w → (a : Admission N b now s g (accepted x) left)
    → Took N w b now s g x.tick a.outcome.distance left
took N w {b} {left} {now} {s} {g} {x} e a = record {
  sound = sound;
  not_back = not_back N b now s g sound;
  own = a.outcome.own;
  taken = carrier_taken _ (apart_one a.outcome.own (call_tells N b now s g sound).ends_differ);
  smallest = rw e at a.outcome.smallest;
  slot = x.slot;
  takes = rw e at a.outcome.takes;
  left_is = rw e at a.outcome.left_is;
}
  where
    sound : None (call_question N b now s g)
    sound = (none_split (call_question N b now s g) (full_book b now ∷ []) a.fits).0

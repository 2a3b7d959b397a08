-- A day of admissions (rules 13.9 to 13.13 and 13.27): an empty book and the admissions made to it since, on
-- one network with the same closed nodes; nothing else has changed it. Every list has the latest first.
--     Call            a call: the clock value now and the move
--     Day N w         the calls that were accepted, the carriers that they admitted, and the book that is
--                     left, where the empty book was made with the dwell w. A day may have refused calls:
--                     they are in no list, and leave the book as it was
--     PermittedEver   every carrier admitted so far permits the tick
--     UnforgottenDay  the accepted calls to a book that forgets nothing and has a slot for everybody: each
--                     gets the smallest tick from now up that every carrier admitted before it permits. Such
--                     a book would also take what 15 refuses, and have others to mind from then on
--                     (docs/DECISIONS.md, 73): so it is put the calls that were accepted
--     Travels         what demand 3 says of one carrier on one of its shortest paths: it stands at its goal
--                     from its goal tick, its distance after its start tick, to its last tick, and at no
--                     other; it is on the floor from its start tick to its last tick and absent otherwise
--     Gets t          an admission is accepted, with the start tick t
--     NoneLater w t   no carrier held has a last tick later than t. The latest last tick held is such a tick,
--                     and the least of them
--     Bounded         demand 3's bound, with those held after forgetting: no start later than now and one
--                     tick after the latest last tick held, whichever is later; and now where nobody is held
use Rattle.std.specs.Prelude.{◌≡◌, List, [], ◌∷◌, ℕ, ◌+◌, ◌≤◌, ◌<◌, max, length}
use Rattle.hall.specs.Floor.{Dist, Network, floor}
use Rattle.hall.specs.Path.{At}
use Rattle.hall.specs.Ticks.{SmallestFrom}
use Rattle.hall.specs.Said.{Said, accepted, refused}
use Rattle.slots.specs.declared.Slot.{Slot}
use Rattle.slots.specs.declared.Book.{Book}
use Rattle.slots.specs.Record.{slot_at, Held, goal_tick, last_tick, empty_book}
use Rattle.admission.specs.declared.Entry.{Entry}
use Rattle.admission.specs.Admission.{PermitsOne, carrier_of, Admission}

pub record Call : Type 0 where
  pub now : ℕ
  pub start : ℕ
  pub goal : ℕ

pub data Day (N : Network) (w : ℕ) : List Call → List Slot → Book → Type 0 where
  begins : Day N w [] [] (empty_book w)
  admits : {calls : List Call} {ever : List Slot} {b : Book} → Day N w calls ever b
      → (call : Call) (e : Entry) (left : Book)
      → (a : Admission N b call.now call.start call.goal (accepted e) left)
      → Day N w (call ∷ calls)
      (carrier_of call.start call.goal a.outcome.distance e.tick ∷ ever) left
  refuses : {calls : List Call} {ever : List Slot} {b : Book} → Day N w calls ever b
      → (call : Call) (n p : ℕ) (left : Book)
      → Admission N b call.now call.start call.goal (refused n p) left
      → Day N w calls ever left

-- ---- the book that forgets nothing

unfoldable pub PermittedEver : Network → (w : ℕ) → List Slot → (s g x : ℕ) → Type 0
PermittedEver N w ever s g x = (p : ℕ) → p < length ever → PermitsOne N w (slot_at ever p) s g x

pub data UnforgottenDay (N : Network) (w : ℕ) : List Call → List Slot → Type 0 where
  begins : UnforgottenDay N w [] []
  admits : {calls : List Call} {ever : List Slot} → UnforgottenDay N w calls ever
      → (call : Call) (x d : ℕ)
      → SmallestFrom call.now (PermittedEver N w ever call.start call.goal) x
      → Dist (floor N) call.start call.goal d
      → UnforgottenDay N w (call ∷ calls) (carrier_of call.start call.goal d x ∷ ever)

abbrev pub Gets : ℕ → Said Entry → Type 0
Gets t (accepted e) = e.tick ≡ t
Gets t (refused n p) = ⊥

-- ---- demand 3

pub record Travels (w : ℕ) (c : Slot) (path : List ℕ) : Type 0 where
  pub at_goal : (x : ℕ) → goal_tick c ≤ x → x ≤ last_tick w c → At w path c.tick x c.goal
  pub only_then : (x : ℕ) → At w path c.tick x c.goal → (goal_tick c ≤ x) × (x ≤ last_tick w c)
  pub present : (x : ℕ) → c.tick ≤ x → x ≤ last_tick w c → (v : ℕ) × At w path c.tick x v
  pub absent : (x v : ℕ) → At w path c.tick x v → (c.tick ≤ x) × (x ≤ last_tick w c)

abbrev pub NoneLater : (w t : ℕ) → List Slot → Type 0
NoneLater w t slots = (i : ℕ) → Held slots i → last_tick w (slot_at slots i) ≤ t

pub record Bounded (w now : ℕ) (kept : List Slot) (x : ℕ) : Type 0 where
  pub not_late : (t : ℕ) → NoneLater w t kept → x ≤ max now (t + 1)
  pub at_once : ((i : ℕ) → ¬ Held kept i) → x ≡ now

-- What a trolley adds to a day (rules 13.18 and 13.19). Every list but that of the moves and that of the
-- ticks has the latest first.
--     admitted_by      how many moves a trolley admitted, by how it ended: all, those before the one that was
--                     refused, or none
--     MoveOrRoom      the numbers of a refusal that a move behind the first can get: 4, 5, 13 and 8, which
--                     are about the move, and 15
--     StopsAt         the moves before k are admitted, and of move k, put to the book that they left, this is
--                     the refusal
--     AdmitsAll       all moves are admitted: their start ticks, and the book that they leave
--     BoundedAt       the tick of move i in the list is within the bound of rule 13.9, with those held after
--                     forgetting in the book that the moves before it left
--     trolley_calls    the calls of the moves before k, all at one clock value
--     Aboard          the carriers of the moves before k, each with its distance on the network and with the
--                     tick that stands at its place in the list of ticks
--     OfMove i c      c is the carrier of move i: its start, its goal, its distance on the network, and the
--                     tick that stands at its place in the list of ticks
--     RodeOn          the day that a day is after a trolley: the calls that were accepted are those of the
--                     moves before k after those of the day, and so are the carriers
--     Kept            a book that began empty, and that nothing has changed but admissions and trolleys,
--                     however they ended, on one network with the same closed nodes
use Rattle.std.specs.Prelude.{◌≡◌, ◌⊎◌, List, [], ◌∷◌, ◌++◌, ℕ, zero, suc, ◌<◌, get_or}
use Rattle.hall.specs.Floor.{Dist, Network, floor}
use Rattle.hall.specs.Job.{move_count, start_in, goal_in}
use Rattle.hall.specs.Stages.{First}
use Rattle.hall.specs.Said.{Said}
use Rattle.slots.specs.declared.Slot.{Slot}
use Rattle.slots.specs.declared.Book.{Book}
use Rattle.slots.specs.Record.{forgetting, empty_book}
use Rattle.admission.specs.declared.Entry.{Entry}
use Rattle.admission.specs.Questions.{admission_question}
use Rattle.admission.specs.Admission.{carrier_of, Admission}
use Rattle.admission.specs.Trolley.{Ending, all, stopped, refused_whole, Admits, Ride}
use Rattle.days.specs.Day.{Call, Day, Bounded}

abbrev pub admitted_by : (moves : List ℕ) → Ending → ℕ
admitted_by moves all = move_count moves
admitted_by moves (stopped k n p) = k
admitted_by moves (refused_whole n p) = 0

abbrev pub MoveOrRoom : ℕ → Type 0
MoveOrRoom n = (n ≡ 4) ⊎ ((n ≡ 5) ⊎ ((n ≡ 13) ⊎ ((n ≡ 8) ⊎ (n ≡ 15))))

pub record StopsAt (N : Network) (b : Book) (now : ℕ) (moves : List ℕ) (k n p : ℕ) : Type 0 where
  pub starts : List ℕ
  pub held : Book
  pub is_move : k < move_count moves
  pub admits : Admits N b now moves k starts held
  pub first : First (admission_question N held now (start_in moves k) (goal_in moves k)) n p

abbrev pub AdmitsAll : Network → Book → (now : ℕ) (moves : List ℕ) → Type 0
AdmitsAll N b now moves =
    (starts : List ℕ) × (left : Book) × Admits N b now moves (move_count moves) starts left

abbrev pub BoundedAt : Network → (w : ℕ) → Book → (now : ℕ) (moves ticks : List ℕ) → ℕ → Type 0
BoundedAt N w b now moves ticks i =
    (starts : List ℕ) × (held : Book) × Admits N b now moves i starts held
    × Bounded w now (forgetting w now held.slots) (get_or ticks i 0)

abbrev pub trolley_calls : (now : ℕ) (moves : List ℕ) → ℕ → List Call
trolley_calls now moves zero = []
trolley_calls now moves (suc k) =
    record { now = now; start = start_in moves k; goal = goal_in moves k } ∷ trolley_calls now moves k

pub data Aboard (N : Network) (moves ticks : List ℕ) : ℕ → List Slot → Type 0 where
  nobody : Aboard N moves ticks zero []
  next : {k d : ℕ} {carriers : List Slot} → Aboard N moves ticks k carriers
      → Dist (floor N) (start_in moves k) (goal_in moves k) d
      → Aboard N moves ticks (suc k)
      (carrier_of (start_in moves k) (goal_in moves k) d (get_or ticks k 0) ∷ carriers)

abbrev pub OfMove : (N : Network) (moves ticks : List ℕ) → ℕ → Slot → Type 0
OfMove N moves ticks i c =
    (d : ℕ) × Dist (floor N) (start_in moves i) (goal_in moves i) d
    × (c ≡ carrier_of (start_in moves i) (goal_in moves i) d (get_or ticks i 0))

pub record RodeOn (N : Network) (w : ℕ) (calls : List Call) (ever : List Slot) (now : ℕ)
    (moves ticks : List ℕ) (k : ℕ) (left : Book) : Type 0 where
  pub carriers : List Slot
  pub aboard : Aboard N moves ticks k carriers
  pub day : Day N w (trolley_calls now moves k ++ calls) (carriers ++ ever) left

pub data Kept (N : Network) (w : ℕ) : Book → Type 0 where
  begins : Kept N w (empty_book w)
  admission : {b left : Book} → Kept N w b → (now s g : ℕ) (said : Said Entry)
      → Admission N b now s g said left
      → Kept N w left
  trolley : {b left : Book} → Kept N w b → (now : ℕ) (moves ticks ticks' : List ℕ) (end : Ending)
      → Ride N b now moves ticks end left ticks'
      → Kept N w left

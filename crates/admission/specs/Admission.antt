-- One admission to the floor book (rules 13.5 to 13.8). Nothing here names a loop or a search.
--     PermitsOne N w c s g x    the carrier c, with its own start tick, permits the move from s to g to start
--                     at tick x: the pair rule with the dwell w and the six distances on the network N. The
--                     carrier is i of the rule, the move j (rule 4.1)
--     PermittedHeld   every carrier held permits it
--     carrier_of       the carrier of a move with a distance and a start tick
--     Admitted        an accepted admission, with the start tick and the slot that are answered: who is past
--                     is forgotten, the tick is the smallest from now up that every carrier still held
--                     permits, the slot is the lowest free one, and the clock is now
--     Outcome         what an answer leaves: a refused call leaves the book as it came
--     Admission       the promise: the answer fits the question, and the book is left so
--     said_answer      what an admission answers: a start tick and a slot, or a refusal
use Rattle.std.specs.Prelude.{◌≡◌, Result, List, ℕ, set, pos, ◌-ℤ◌}
use Rattle.hall.specs.Floor.{Dist, Network, floor}
use Rattle.hall.specs.Rule.{Pair, Permitted}
use Rattle.hall.specs.Ticks.{SmallestFrom}
use Rattle.hall.specs.Plan.{DistancesOf}
use Rattle.hall.specs.declared.Refusal.{Refusal}
use Rattle.hall.specs.Said.{Said, accepted, refused, Fits, said}
use Rattle.slots.specs.declared.Slot.{Slot}
use Rattle.slots.specs.declared.Book.{Book}
use Rattle.slots.specs.Record.{slot_at, Held, forgetting, LowestFree, book_with}
use Rattle.admission.specs.declared.Entry.{Entry}
use Rattle.admission.specs.Questions.{admission_question}

unfoldable pub PermitsOne : Network → (w : ℕ) → Slot → (s g x : ℕ) → Type 0
PermitsOne N w c s g x =
    (p : Pair) → DistancesOf (floor N) c.start c.goal s g p → Permitted w p (pos x -ℤ pos c.tick)

unfoldable pub PermittedHeld : Network → (w : ℕ) → List Slot → (s g x : ℕ) → Type 0
PermittedHeld N w slots s g x = (i : ℕ) → Held slots i → PermitsOne N w (slot_at slots i) s g x

abbrev pub carrier_of : (s g d x : ℕ) → Slot
carrier_of s g d x = record { start = s; goal = g; distance = d; tick = x }

pub record Admitted (N : Network) (b : Book) (now s g : ℕ) (e : Entry) (left : Book) : Type 0 where
  pub distance : ℕ
  pub own : Dist (floor N) s g distance
  pub smallest :
      SmallestFrom now (PermittedHeld N b.dwell (forgetting b.dwell now b.slots) s g) e.tick
  pub takes : LowestFree (forgetting b.dwell now b.slots) e.slot
  pub left_is : left
      ≡ book_with now b.dwell
      (set (forgetting b.dwell now b.slots) e.slot (carrier_of s g distance e.tick))

abbrev pub Outcome : Network → Book → (now s g : ℕ) → Said Entry → Book → Type 0
Outcome N b now s g (accepted e) left = Admitted N b now s g e left
Outcome N b now s g (refused n p) left = left ≡ b

pub record Admission (N : Network) (b : Book) (now s g : ℕ) (said : Said Entry) (left : Book) : Type 0 where
  pub fits : Fits (admission_question N b now s g) said
  pub outcome : Outcome N b now s g said left

abbrev pub said_answer : Result Entry Refusal → Said Entry
said_answer = said (λ e. e)

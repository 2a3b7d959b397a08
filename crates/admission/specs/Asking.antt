-- May it go at this tick (rules 13.25 and 13.26): what is answered of one move and one tick. The book does
-- not change. Nothing here names a loop or a search.
--     ForbiddenBy     the slot at a place forbids the move from s to g to start at tick t: it holds a carrier
--                     whose last tick is t or later, and the pair rule forbids it, with the book's dwell and
--                     the six distances on the network. The carrier is i of the rule, the move j (rule 4.1)
--     Verdict         the move may go, or is barred by a slot
--     Judgement       the right verdict: it may go where no slot forbids it, and otherwise it is barred by
--                     the lowest of all slots that do
--     Right           so it is of an answer that is no refusal
--     Asking          the promise: the answer fits the question, and its verdict is right
--     verdict_of      the verdict where the lowest slot that forbids it is told, if there is one
--     said_asked      what is answered: a verdict, or a refusal
use Rattle.std.specs.Prelude.{Option, Some, None, Result, List, ℕ, ◌<◌, pos, ◌-ℤ◌}
use Rattle.hall.specs.Floor.{Network, floor}
use Rattle.hall.specs.Rule.{Pair, Forbidden}
use Rattle.hall.specs.Plan.{DistancesOf}
use Rattle.hall.specs.declared.Refusal.{Refusal}
use Rattle.hall.specs.Said.{Said, accepted, refused, Fits, said}
use Rattle.slots.specs.declared.Slot.{Slot}
use Rattle.slots.specs.declared.Book.{Book}
use Rattle.slots.specs.Record.{slot_at, Standing}
use Rattle.admission.specs.Questions.{call_question}

pub record ForbiddenBy (N : Network) (w : ℕ) (slots : List Slot) (t s g i : ℕ) : Type 0 where
  pub standing : Standing w t slots i
  pub pair : Pair
  pub distances : DistancesOf (floor N) (slot_at slots i).start (slot_at slots i).goal s g pair
  pub forbids : Forbidden w pair (pos t -ℤ pos (slot_at slots i).tick)

pub data Verdict : Type 0 where
  may : Verdict
  barred : ℕ → Verdict

pub data Judgement (N : Network) (w : ℕ) (slots : List Slot) (t s g : ℕ) : Verdict → Type 0 where
  free_to_go : ((i : ℕ) → ¬ ForbiddenBy N w slots t s g i) → Judgement N w slots t s g may
  lowest : {i : ℕ} → ForbiddenBy N w slots t s g i
      → ((j : ℕ) → j < i → ¬ ForbiddenBy N w slots t s g j)
      → Judgement N w slots t s g (barred i)

abbrev pub Right : Network → Book → (t s g : ℕ) → Said Verdict → Type 0
Right N b t s g (accepted v) = Judgement N b.dwell b.slots t s g v
Right N b t s g (refused n p) = Unit

pub record Asking (N : Network) (b : Book) (t s g : ℕ) (said : Said Verdict) : Type 0 where
  pub fits : Fits (call_question N b t s g) said
  pub right : Right N b t s g said

abbrev pub verdict_of : Option ℕ → Verdict
verdict_of None = may
verdict_of (Some i) = barred i

abbrev pub said_asked : Result (Option ℕ) Refusal → Said Verdict
said_asked = said verdict_of

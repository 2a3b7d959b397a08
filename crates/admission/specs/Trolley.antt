-- A trolley of calls (rules 13.14 to 13.17): the moves of a list, admitted one by one at one clock value, up
-- to the first that is refused. Stated through `Admission`, from book to book; nothing here names a loop. A
-- move is named by its number in the list, from 0.
--     Ending          how a trolley ended: all its moves were admitted; one was stopped, with its number in
--                     the list and the number and the place of its refusal; or the trolley was refused whole,
--                     with a number and a place, before any move
--     said_ended       what the end of a trolley says
--     PutTo k         move k is put to the book `held`: what is said, and the book that is left
--     Admits k        the moves before k are moves of the list, and are admitted one after the other, each to
--                     the book that the one before it left: their start ticks in the order of the moves, and
--                     the book that is left
--     Rides           how the moves end: all are admitted, or those before the first that is refused, and
--                     that leaves the book as it finds it
--     trolley_counts   what is asked before any admission: 9 of a list of ticks with fewer than 64 places,
--                     then 2 (place 2) of more than 64 moves
--     Ride            the promise. Refused whole, the trolley leaves the book as it came; the list of ticks
--                     too after 9, and zeros in its first 64 places after 2. After any other end the list has
--                     the start ticks of the moves admitted, at the places with their numbers, and zeros
--                     behind them up to 64 places (rule 9.15). Beyond these it is always as it came
use Rattle.std.specs.Prelude.{◌≡◌, Result, Ok, Err, List, [], ◌∷◌, ◌++◌, ℕ, zero, suc, ◌<◌, length}
use Rattle.hall.specs.Limits.{carrier_limit}
use Rattle.hall.specs.Floor.{Network}
use Rattle.hall.specs.Job.{move_count, start_in, goal_in}
use Rattle.hall.specs.Left as table
use Rattle.hall.specs.Numbers.{number_of}
use Rattle.hall.specs.Stages.{Question, First, None}
use Rattle.hall.specs.Questions.{short_table, carriers_count}
use Rattle.hall.specs.Said.{Said, accepted, refused}
use Rattle.slots.specs.declared.Book.{Book}
use Rattle.admission.specs.declared.Entry.{Entry}
use Rattle.admission.specs.declared.trolley.Stop.{Stop}
use Rattle.admission.specs.declared.trolley.Stop.TheVariants.{Before, At}
use Rattle.admission.specs.Admission.{Admission}

pub data Ending : Type 0 where
  all : Ending
  stopped : (move number place : ℕ) → Ending
  refused_whole : (number place : ℕ) → Ending

abbrev pub said_ended : Result Unit Stop → Ending
said_ended (Ok u) = all
said_ended (Err (At k r)) = stopped k (number_of r.fault) r.place
said_ended (Err (Before r)) = refused_whole (number_of r.fault) r.place

abbrev pub trolley_counts : (moves ticks : List ℕ) → Question
trolley_counts moves ticks =
    short_table (length ticks < carrier_limit) ∷ carriers_count (move_count moves) ∷ []

module _ (N : Network) (b : Book) (now : ℕ) (moves : List ℕ) where
  abbrev pub PutTo : ℕ → Book → Said Entry → Book → Type 0
  PutTo k held said left = Admission N held now (start_in moves k) (goal_in moves k) said left

  pub data Admits : ℕ → List ℕ → Book → Type 0 where
    none_yet : Admits zero [] b
    one_more : {k : ℕ} {starts : List ℕ} {held left : Book} {e : Entry} → k < move_count moves
        → Admits k starts held → PutTo k held (accepted e) left
        → Admits (suc k) (starts ++ e.tick ∷ []) left

  pub data Rides : Ending → List ℕ → Book → Type 0 where
    to_the_end : {starts : List ℕ} {left : Book} → Admits (move_count moves) starts left
        → Rides all starts left
    up_to : {k n p : ℕ} {starts : List ℕ} {held left : Book} → k < move_count moves → Admits k starts held
        → PutTo k held (refused n p) left
        → Rides (stopped k n p) starts left

  -- `ticks` is the list as it is lent, `ticks'` as it is left
  pub data Ride (ticks : List ℕ) : Ending → Book → List ℕ → Type 0 where
    not_begun : {n p : ℕ} {left : Book} {ticks' : List ℕ} → First (trolley_counts moves ticks) n p
        → left ≡ b → ticks' ≡ table.left n carrier_limit ticks
        → Ride ticks (refused_whole n p) left ticks'
    begun : {end : Ending} {starts : List ℕ} {left : Book} {ticks' : List ℕ}
        → None (trolley_counts moves ticks)
        → Rides end starts left → ticks' ≡ table.filled starts carrier_limit ticks
        → Ride ticks end left ticks'

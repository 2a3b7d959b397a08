-- The cases of the floor book (rule 11.18) as one table: a day one by one, forgetting, a train through a full
-- book, closed nodes under a carrier held, and carriers held that start later than the new one. Those at a
-- limit and those with several faults are in Refusals.antt. A line is the whole answer to its call; the
-- book that is left with it is the only one too (`case_unique`, proofs/Unique.antt).
--     Case            a call with its outcome: the network and the book that are lent, the clock value now,
--                     the move, and what is answered
--     Gives c o       the outcome o is what the definitions give of the call of c: some book is left, and
--                     answer and book are those of its admission
--     Holds           the same of a case with its own outcome
--     hall4, ..       the networks of the lines of 4 and 5 nodes and of the two rows, with closed nodes
--     slots_of        64 slots: the given ones, and free ones behind them
--     train           so many carriers of one move, whose start ticks follow one another
--     book            a book from its clock, its dwell and its first slots
--     entry, starts   a start tick and a slot; accepted with them
--     case            a case from network, book, now, start, goal and outcome
--     book_cases      the table
use Rattle.std.specs.Prelude.{List, [], ◌∷◌, ◌++◌, ℕ, zero, suc, ◌-◌, length, replicate}
use Rattle.hall.specs.Floor.{Network, network_of}
use Rattle.hall.specs.Said.{Said, accepted, refused}
use Rattle.cases.specs.Case.{line4, line5, two_rows}
use Rattle.slots.specs.declared.Slot.{Slot}
use Rattle.slots.specs.declared.Book.{Book}
use Rattle.slots.specs.Record.{slot_count, free, book_with}
use Rattle.admission.specs.declared.Entry.{Entry}
use Rattle.admission.specs.Admission.{carrier_of, Admission}

pub record Case : Type 0 where
  pub network : Network
  pub book : Book
  pub now : ℕ
  pub start : ℕ
  pub goal : ℕ
  pub outcome : Said Entry

pub record Gives (c : Case) (o : Said Entry) : Type 0 where
  pub left : Book
  pub admission : Admission c.network c.book c.now c.start c.goal o left

abbrev pub Holds : Case → Type 0
Holds c = Gives c c.outcome

-- ---- how a case is written

abbrev pub hall4 : (closed : List ℕ) → Network
hall4 closed = network_of 4 line4 closed

abbrev pub hall5 : (closed : List ℕ) → Network
hall5 closed = network_of 5 line5 closed

abbrev pub hall6 : (closed : List ℕ) → Network
hall6 closed = network_of 6 two_rows closed

abbrev pub slots_of : List Slot → List Slot
slots_of slots = slots ++ replicate (slot_count - length slots) free

abbrev pub train : (n s g d first : ℕ) → List Slot
train zero s g d first = []
train (suc n) s g d first = carrier_of s g d first ∷ train n s g d (suc first)

abbrev pub book : (clock dwell : ℕ) → List Slot → Book
book clock dwell slots = book_with clock dwell (slots_of slots)

abbrev pub entry : (tick slot : ℕ) → Entry
entry tick slot = record { tick = tick; slot = slot }

abbrev pub starts : (tick slot : ℕ) → Said Entry
starts tick slot = accepted (entry tick slot)

abbrev pub case : Network → Book → (now s g : ℕ) → Said Entry → Case
case N b now s g o = record { network = N; book = b; now = now; start = s; goal = g; outcome = o }

-- ---- the table

unfoldable pub book_cases : List Case
book_cases =
    -- the moves of P8 one by one, each with the book that the line before left; and with dwell 2
    case (hall5 []) (book 0 0 []) 0 0 4 (starts 0 0)
    ∷ case (hall5 []) (book 0 0 (carrier_of 0 4 4 0 ∷ [])) 0 4 0 (starts 5 1)
    ∷ case (hall5 []) (book 0 0 (carrier_of 0 4 4 0 ∷ carrier_of 4 0 4 5 ∷ [])) 0 2 1 (starts 3 2)
    ∷ case (hall5 []) (book 0 2 []) 0 0 4 (starts 0 0)
    ∷ case (hall5 []) (book 0 2 (carrier_of 0 4 4 0 ∷ [])) 0 4 0 (starts 7 1)
    ∷ case (hall5 []) (book 0 2 (carrier_of 0 4 4 0 ∷ carrier_of 4 0 4 7 ∷ [])) 0 2 1 (starts 5 2)
    -- a carrier at its last tick is held, one tick later it is forgotten; and with dwell 2
    ∷ case (hall5 []) (book 0 0 (carrier_of 0 4 4 0 ∷ [])) 4 0 4 (starts 4 1)
    ∷ case (hall5 []) (book 0 0 (carrier_of 0 4 4 0 ∷ [])) 5 0 4 (starts 5 0)
    ∷ case (hall5 []) (book 0 2 (carrier_of 0 4 4 0 ∷ [])) 6 0 4 (starts 6 1)
    ∷ case (hall5 []) (book 0 2 (carrier_of 0 4 4 0 ∷ [])) 7 0 4 (starts 7 0)
    -- a book full of a train: no slot while its first carrier is on the floor, then that carrier's, behind
    -- the train, along with it or against it; and when the whole train is gone
    ∷ case (hall4 []) (book 0 0 (train 64 0 3 3 0)) 3 0 3 (refused 15 0)
    ∷ case (hall4 []) (book 0 0 (train 64 0 3 3 0)) 4 0 3 (starts 64 0)
    ∷ case (hall4 []) (book 0 0 (train 64 0 3 3 0)) 4 3 0 (starts 67 0)
    ∷ case (hall4 []) (book 0 0 (train 64 0 3 3 0)) 67 3 0 (starts 67 0)
    -- a closed node on the only way of a carrier held: 17, and nothing when it is past
    ∷ case (hall5 (2 ∷ [])) (book 0 0 (carrier_of 0 4 4 0 ∷ [])) 4 3 4 (refused 17 0)
    ∷ case (hall5 (2 ∷ [])) (book 0 0 (carrier_of 0 4 4 0 ∷ [])) 5 3 4 (starts 5 0)
    -- a closed node that has a way round: the distance held is 2, and is 4 now; held with 4 it is true
    ∷ case (hall6 (1 ∷ [])) (book 2 0 (carrier_of 0 2 2 2 ∷ [])) 4 2 0 (refused 17 0)
    ∷ case (hall6 (1 ∷ [])) (book 2 0 (carrier_of 0 2 4 2 ∷ [])) 4 2 0 (starts 7 1)
    -- a goal held that is no node of the network lent; and the lowest stale slot behind free ones
    ∷ case (hall4 []) (book 0 0 (carrier_of 0 4 4 0 ∷ [])) 0 3 2 (refused 17 0)
    ∷ case (hall5 (2 ∷ [])) (book 0 0 (free ∷ free ∷ free ∷ carrier_of 0 4 4 0 ∷ [])) 0 3 4 (refused 17 3)
    -- carriers held that start later: those of P8 in other slots, with tick 3 free between them; and one far
    -- in the future, which is in nobody's way before
    ∷ case (hall5 []) (book 0 0 (carrier_of 4 0 4 5 ∷ carrier_of 0 4 4 0 ∷ [])) 0 2 1 (starts 3 2)
    ∷ case (hall5 []) (book 0 0 (carrier_of 0 4 4 1000 ∷ [])) 0 4 0 (starts 0 1)
    ∷ case (hall5 []) (book 0 0 (carrier_of 0 4 4 1000 ∷ [])) 995 4 0 (starts 995 1)
    ∷ case (hall5 []) (book 0 0 (carrier_of 0 4 4 1000 ∷ [])) 996 4 0 (starts 1005 1)
    ∷ []

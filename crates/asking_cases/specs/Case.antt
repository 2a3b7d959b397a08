-- The cases of the question whether a move may go at a tick (rule 11.24) as one table: an empty book, the
-- ends of a forbidden stretch, several slots that forbid one tick, carriers held that start later, a full
-- book, closed nodes under a carrier held, and refusals at a limit or with several faults. A line is the
-- whole answer to its call, and the only one (`only_asking`, proofs/Cases.antt); no book is left, since the
-- question changes none (rule 13.25). What easy errors would answer is in Errors.antt.
--     AskingCase      a call with its answer: the network and the book that are lent, the tick t asked about,
--                     the move, and what is said
--     GivesAsking c o   what o says is what the definitions give of the call of c
--     HoldsAsking     the same of a case with what it says itself
--     may_go          what is said: the move may go (rule 13.26)
--     barred_by i     what is said: it is barred, and slot i is the lowest that forbids it
--     asking          a case from network, book, tick, start, goal and what is said
--     all_joined      the network of four nodes with all six lanes between them
--     two             the book at clock 0, without dwell, that holds the first two carriers of P8
--     two_dwell       the same with dwell 2
--     behind_five     the book at clock 0, without dwell, whose slots before slot 5 are free, and which holds
--                     these carriers from slot 5 on
--     train_book      the book full of a train, at clock 0
--     early_train     the same, where its first carrier starts at tick 10
--     asking_cases    the table
use Rattle.std.specs.Prelude.{List, [], ◌∷◌, ◌++◌, ℕ, replicate}
use Rattle.hall.specs.Floor.{Network, network_of}
use Rattle.hall.specs.Said.{Said, accepted, refused}
use Rattle.cases.specs.Case.{six_lanes}
use Rattle.slots.specs.declared.Slot.{Slot}
use Rattle.slots.specs.declared.Book.{Book}
use Rattle.slots.specs.Record.{free}
use Rattle.admission.specs.Admission.{carrier_of}
use Rattle.admission.specs.Asking.{Verdict, may, barred, Asking}
use Rattle.book_cases.specs.Case.{hall4, hall5, hall6, train, book}
use Rattle.book_cases.specs.Refusals.{one}
use Rattle.book_cases.specs.Trolleys.{there}

pub record AskingCase : Type 0 where
  pub network : Network
  pub book : Book
  pub t : ℕ
  pub start : ℕ
  pub goal : ℕ
  pub said : Said Verdict

abbrev pub GivesAsking : AskingCase → Said Verdict → Type 0
GivesAsking c o = Asking c.network c.book c.t c.start c.goal o

abbrev pub HoldsAsking : AskingCase → Type 0
HoldsAsking c = GivesAsking c c.said

-- ---- how a case is written

abbrev pub may_go : Said Verdict
may_go = accepted may

abbrev pub barred_by : ℕ → Said Verdict
barred_by i = accepted (barred i)

abbrev pub asking : Network → Book → (t s g : ℕ) → Said Verdict → AskingCase
asking N b t s g o = record { network = N; book = b; t = t; start = s; goal = g; said = o }

abbrev pub all_joined : Network
all_joined = network_of 4 six_lanes []

abbrev pub two : Book
two = book 0 0 (carrier_of 0 4 4 0 ∷ carrier_of 4 0 4 5 ∷ [])

abbrev pub two_dwell : Book
two_dwell = book 0 2 (carrier_of 0 4 4 0 ∷ carrier_of 4 0 4 7 ∷ [])

abbrev pub behind_five : List Slot → Book
behind_five carriers = book 0 0 (replicate 5 free ++ carriers)

abbrev pub train_book : Book
train_book = book 0 0 (train 64 0 3 3 0)

abbrev pub early_train : Book
early_train = book 0 0 (train 64 0 3 3 10)

-- ---- the table

unfoldable pub asking_cases : List AskingCase
asking_cases =
    -- an empty book, at its clock and later
    asking (hall5 []) (book 0 0 []) 0 0 4 may_go
    ∷ asking (hall5 []) (book 7 0 []) 7 4 0 may_go
    ∷ asking (hall5 []) (book 7 2 []) 1000 4 0 may_go
    -- one carrier against the move: up to its last tick, and not one tick later; and with dwell 2
    ∷ asking (hall5 []) (there 0 0) 0 4 0 (barred_by 0)
    ∷ asking (hall5 []) (there 0 0) 1 4 0 (barred_by 0)
    ∷ asking (hall5 []) (there 0 0) 4 4 0 (barred_by 0)
    ∷ asking (hall5 []) (there 4 0) 4 4 0 (barred_by 0)
    ∷ asking (hall5 []) (there 0 0) 5 4 0 may_go
    ∷ asking (hall5 []) (book 0 2 (carrier_of 0 4 4 0 ∷ [])) 0 4 0 (barred_by 0)
    ∷ asking (hall5 []) (book 0 2 (carrier_of 0 4 4 0 ∷ [])) 5 4 0 (barred_by 0)
    ∷ asking (hall5 []) (book 0 2 (carrier_of 0 4 4 0 ∷ [])) 6 4 0 (barred_by 0)
    ∷ asking (hall5 []) (book 0 2 (carrier_of 0 4 4 0 ∷ [])) 7 4 0 may_go
    -- into one chute with dwell 2: from two ticks before the tick that meets it at the goal to two behind
    ∷ asking (hall5 []) (book 0 2 (carrier_of 0 4 4 0 ∷ [])) 0 3 4 may_go
    ∷ asking (hall5 []) (book 0 2 (carrier_of 0 4 4 0 ∷ [])) 1 3 4 (barred_by 0)
    ∷ asking (hall5 []) (book 0 2 (carrier_of 0 4 4 0 ∷ [])) 5 3 4 (barred_by 0)
    ∷ asking (hall5 []) (book 0 2 (carrier_of 0 4 4 0 ∷ [])) 6 3 4 may_go
    -- the exception of the pair rule (rule 4.8), and none with dwell 1
    ∷ asking all_joined (one (carrier_of 0 1 1 0)) 0 2 3 may_go
    ∷ asking all_joined (book 0 1 (carrier_of 0 1 1 0 ∷ [])) 0 2 3 (barred_by 0)
    ∷ asking all_joined (book 0 1 (carrier_of 0 1 1 0 ∷ [])) 1 2 3 (barred_by 0)
    ∷ asking all_joined (book 0 1 (carrier_of 0 1 1 0 ∷ [])) 2 2 3 may_go
    -- the third move of P8 against the first two, of which the second starts later: an admission gets 3, and
    -- tick 7 is forbidden again; and with dwell 2, where it gets 5, and 7 to 11 are forbidden again
    ∷ asking (hall5 []) two 0 2 1 (barred_by 0)
    ∷ asking (hall5 []) two 1 2 1 (barred_by 0)
    ∷ asking (hall5 []) two 2 2 1 (barred_by 0)
    ∷ asking (hall5 []) two 3 2 1 may_go
    ∷ asking (hall5 []) two 4 2 1 may_go
    ∷ asking (hall5 []) two 5 2 1 may_go
    ∷ asking (hall5 []) two 6 2 1 may_go
    ∷ asking (hall5 []) two 7 2 1 (barred_by 1)
    ∷ asking (hall5 []) two 8 2 1 may_go
    ∷ asking (hall5 []) two_dwell 4 2 1 (barred_by 0)
    ∷ asking (hall5 []) two_dwell 5 2 1 may_go
    ∷ asking (hall5 []) two_dwell 6 2 1 may_go
    ∷ asking (hall5 []) two_dwell 7 2 1 (barred_by 1)
    ∷ asking (hall5 []) two_dwell 11 2 1 (barred_by 1)
    ∷ asking (hall5 []) two_dwell 12 2 1 may_go
    -- several slots that forbid one tick: the lowest, of three and of two; and as they go past
    ∷ asking (hall5 []) (book 0 0 (train 3 0 4 4 0)) 4 4 0 (barred_by 0)
    ∷ asking (hall5 []) (book 0 0 (train 2 0 4 4 0)) 4 4 0 (barred_by 0)
    ∷ asking (hall5 []) (book 0 0 (train 3 0 4 4 0)) 5 4 0 (barred_by 1)
    ∷ asking (hall5 []) (book 0 0 (train 3 0 4 4 0)) 6 4 0 (barred_by 2)
    ∷ asking (hall5 []) (book 0 0 (train 3 0 4 4 0)) 7 4 0 may_go
    -- the lowest, and not the one that starts first, or that is on the floor longest
    ∷ asking (hall5 []) (book 0 0 (carrier_of 0 4 4 1 ∷ carrier_of 0 4 4 0 ∷ [])) 2 4 0 (barred_by 0)
    ∷ asking (hall5 []) (book 0 0 (carrier_of 0 4 4 1 ∷ carrier_of 0 4 4 2 ∷ [])) 3 4 0 (barred_by 0)
    -- the lowest in slot 5, behind free slots; behind one that is past; behind one that permits the tick; and
    -- in the last slot
    ∷ asking (hall5 []) (behind_five (train 2 0 4 4 0)) 3 4 0 (barred_by 5)
    ∷ asking (hall5 []) (behind_five (train 2 0 4 4 0)) 5 4 0 (barred_by 6)
    ∷ asking (hall5 []) (book 0 0 (free ∷ carrier_of 0 4 4 0 ∷ [])) 0 0 4 (barred_by 1)
    ∷ asking (hall5 []) (book 0 0 (carrier_of 0 1 1 0 ∷ free ∷ train 2 0 4 4 2)) 3 4 0 (barred_by 2)
    ∷ asking (hall5 []) (book 0 0 (carrier_of 0 4 4 1000 ∷ train 2 0 4 4 0)) 3 4 0 (barred_by 1)
    ∷ asking (hall5 []) (book 0 0 (replicate 63 free ++ (carrier_of 0 4 4 0 ∷ []))) 4 4 0 (barred_by 63)
    -- a carrier far in the future
    ∷ asking (hall5 []) (one (carrier_of 0 4 4 1000)) 995 4 0 may_go
    ∷ asking (hall5 []) (one (carrier_of 0 4 4 1000)) 996 4 0 (barred_by 0)
    ∷ asking (hall5 []) (one (carrier_of 0 4 4 1000)) 1004 4 0 (barred_by 0)
    ∷ asking (hall5 []) (one (carrier_of 0 4 4 1000)) 1005 4 0 may_go
    -- a full book is asked, and there is no 15 (rule 8.34): the lowest of those that are not past, and may go
    -- while all 64 are to come
    ∷ asking (hall4 []) train_book 3 3 0 (barred_by 0)
    ∷ asking (hall4 []) train_book 4 3 0 (barred_by 1)
    ∷ asking (hall4 []) train_book 66 3 0 (barred_by 63)
    ∷ asking (hall4 []) train_book 67 3 0 may_go
    ∷ asking (hall4 []) early_train 9 0 3 may_go
    -- 17 at the tick asked about: a closed node on the only way of a carrier held; nothing when it is past at
    -- the tick, though it is not at the clock; and so with dwell 2
    ∷ asking (hall5 (2 ∷ [])) (there 0 0) 4 3 4 (refused 17 0)
    ∷ asking (hall5 (2 ∷ [])) (there 0 0) 5 3 4 may_go
    ∷ asking (hall5 (2 ∷ [])) (there 5 0) 5 3 4 may_go
    ∷ asking (hall5 (2 ∷ [])) (book 0 2 (carrier_of 0 4 4 0 ∷ [])) 6 3 4 (refused 17 0)
    ∷ asking (hall5 (2 ∷ [])) (book 0 2 (carrier_of 0 4 4 0 ∷ [])) 7 3 4 may_go
    -- so of a goal held that is no node of the network lent
    ∷ asking (hall4 []) (there 0 0) 4 3 2 (refused 17 0)
    ∷ asking (hall4 []) (there 0 0) 5 3 2 may_go
    -- 17 at the lowest slot, behind free ones, and behind one that is past at the tick
    ∷ asking (hall5 (2 ∷ [])) (behind_five (train 2 0 4 4 0)) 4 3 4 (refused 17 5)
    ∷ asking (hall5 (2 ∷ [])) (behind_five (train 2 0 4 4 0)) 5 3 4 (refused 17 6)
    -- a closed node that has a way round: the distance held is 2, and is 4 now. It is past by the distance
    -- held, and forbids nothing, though by the distances of this network it would; held with 4 it does
    ∷ asking (hall6 (1 ∷ [])) (one (carrier_of 0 2 2 0)) 2 2 0 (refused 17 0)
    ∷ asking (hall6 (1 ∷ [])) (one (carrier_of 0 2 2 0)) 3 2 0 may_go
    ∷ asking (hall6 (1 ∷ [])) (one (carrier_of 0 2 4 0)) 3 2 0 (barred_by 0)
    -- 14: one below the clock, at it, at the last clock value, and one above
    ∷ asking (hall5 []) (book 5 0 []) 4 0 4 (refused 14 0)
    ∷ asking (hall5 []) (there 5 5) 4 4 0 (refused 14 0)
    ∷ asking (hall5 []) (there 5 5) 5 4 0 (barred_by 0)
    ∷ asking (hall5 []) (book 0 0 []) 4000000000 0 4 may_go
    ∷ asking (hall5 []) (one (carrier_of 0 4 4 4000000004)) 4000000000 4 0 (barred_by 0)
    ∷ asking (hall5 []) (book 0 0 []) 4000000001 0 4 (refused 14 0)
    -- 16: a clock, a dwell, a carrier, also one that is past; and before 14
    ∷ asking (hall5 []) (book 4000000001 0 []) 4000000001 0 4 (refused 16 0)
    ∷ asking (hall5 []) (book 0 256 []) 0 0 4 (refused 16 0)
    ∷ asking (hall5 []) (one (carrier_of 4 4 4 0)) 9 0 4 (refused 16 0)
    ∷ asking (hall5 []) (book 5 256 []) 4 0 4 (refused 16 0)
    -- of two faults the one that is listed first: 14, 2, 3, 12, 4, 5, 13, 8, 17 (rule 8.34)
    ∷ asking (network_of 0 [] []) (book 5 0 []) 4 0 4 (refused 14 0)
    ∷ asking (network_of 5 (1 ∷ 0 ∷ 2 ∷ []) []) (book 0 0 []) 0 0 4 (refused 2 1)
    ∷ asking (network_of 5 (1 ∷ 0 ∷ []) (5 ∷ [])) (book 0 0 []) 0 0 4 (refused 3 0)
    ∷ asking (hall5 (5 ∷ [])) (book 0 0 []) 0 5 0 (refused 12 0)
    ∷ asking (hall5 []) (book 0 0 []) 0 5 5 (refused 4 0)
    ∷ asking (hall5 (0 ∷ [])) (book 0 0 []) 0 0 0 (refused 5 0)
    ∷ asking (hall5 (2 ∷ [])) (there 0 0) 0 2 4 (refused 13 0)
    ∷ asking (hall5 (2 ∷ [])) (there 0 0) 0 1 3 (refused 8 0)
    -- 17 before any slot is asked whether it forbids the tick
    ∷ asking (hall5 []) (book 0 0 (carrier_of 0 4 4 0 ∷ carrier_of 0 4 3 0 ∷ [])) 0 4 0 (refused 17 1)
    ∷ []

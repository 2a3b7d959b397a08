-- The cases of a trolley of calls (rule 11.20) as one table: moves at one clock value, each admitted to the
-- book that the one before it left, up to the first that is refused. A line is the whole outcome of its call;
-- there is no second one (`trolley_unique`, proofs/Unique.antt). What easy errors would give is in
-- TrolleyErrors.antt.
--     TrolleyOutcome  how the trolley ended, and the list of ticks and the book as they are left
--     TrolleyCase     a call with its outcome: the network, the book, the clock value now, the moves and the
--                     list of ticks as they are lent
--     GivesTrolley c o   the outcome o is what the definitions give of the call of c
--     HoldsTrolley    the same of a case with its own outcome
--     nines n         a list of ticks as it is lent: n places, and a 9 in each
--     ticks_of        64 places: the given ticks, and zeros behind them
--     repeated n s g  n moves from s to g
--     outcome_of      an outcome from its parts
--     trolley_with    a case from network, book, now, moves, list of ticks and outcome
--     trolley         the same with a list of 64 places, from the ticks that are left in front of it
--     no_node         a network without a node, which every move is refused for
--     damaged         a book with a dwell above the limit
--     there           the book with a clock that holds one carrier, in slot 0: from 0 to 4, with a start tick
--     half_way        the moves 0 to 4, 2 to 2 and 4 to 0, of which the second has a fault
--     trolley_cases   the table
use Rattle.std.specs.Prelude.{List, [], ◌∷◌, ◌++◌, ℕ, zero, suc, ◌-◌, length, replicate}
use Rattle.hall.specs.Limits.{carrier_limit}
use Rattle.hall.specs.Floor.{Network, network_of}
use Rattle.slots.specs.declared.Book.{Book}
use Rattle.slots.specs.Record.{free}
use Rattle.admission.specs.Admission.{carrier_of}
use Rattle.admission.specs.Trolley.{Ending, all, stopped, refused_whole, Ride}
use Rattle.book_cases.specs.Case.{hall4, hall5, train, book}

pub record TrolleyOutcome : Type 0 where
  pub end : Ending
  pub ticks_left : List ℕ
  pub left : Book

pub record TrolleyCase : Type 0 where
  pub network : Network
  pub book : Book
  pub now : ℕ
  pub moves : List ℕ
  pub ticks : List ℕ
  pub outcome : TrolleyOutcome

abbrev pub GivesTrolley : TrolleyCase → TrolleyOutcome → Type 0
GivesTrolley c o =
    Ride c.network c.book c.now c.moves c.ticks o.end o.left o.ticks_left

abbrev pub HoldsTrolley : TrolleyCase → Type 0
HoldsTrolley c = GivesTrolley c c.outcome

-- ---- how a case is written

abbrev pub nines : ℕ → List ℕ
nines n = replicate n 9

abbrev pub ticks_of : List ℕ → List ℕ
ticks_of ticks = ticks ++ replicate (carrier_limit - length ticks) 0

abbrev pub repeated : (n s g : ℕ) → List ℕ
repeated zero s g = []
repeated (suc n) s g = s ∷ g ∷ repeated n s g

abbrev pub outcome_of : Ending → List ℕ → Book → TrolleyOutcome
outcome_of end ticks left = record { end = end; ticks_left = ticks; left = left }

abbrev pub trolley_with : Network → Book → (now : ℕ) (moves ticks : List ℕ) → TrolleyOutcome → TrolleyCase
trolley_with N b now moves ticks o =
    record { network = N; book = b; now = now; moves = moves; ticks = ticks; outcome = o }

abbrev pub trolley : Network → Book → (now : ℕ) (moves : List ℕ) → Ending → List ℕ → Book → TrolleyCase
trolley N b now moves end ticks left =
    trolley_with N b now moves (nines carrier_limit) (outcome_of end (ticks_of ticks) left)

abbrev pub no_node : Network
no_node = network_of 0 [] []

abbrev pub damaged : Book
damaged = book 0 256 []

abbrev pub there : (clock tick : ℕ) → Book
there clock tick = book clock 0 (carrier_of 0 4 4 tick ∷ [])

abbrev pub half_way : List ℕ
half_way = 0 ∷ 4 ∷ 2 ∷ 2 ∷ 4 ∷ 0 ∷ []

-- ---- the table

unfoldable pub trolley_cases : List TrolleyCase
trolley_cases =
    -- the moves of P8 into an empty book; and with dwell 2
    trolley (hall5 []) (book 0 0 []) 0 (0 ∷ 4 ∷ 4 ∷ 0 ∷ 2 ∷ 1 ∷ []) all (0 ∷ 5 ∷ 3 ∷ [])
    (book 0 0 (carrier_of 0 4 4 0 ∷ carrier_of 4 0 4 5 ∷ carrier_of 2 1 1 3 ∷ []))
    ∷ trolley (hall5 []) (book 0 2 []) 0 (0 ∷ 4 ∷ 4 ∷ 0 ∷ 2 ∷ 1 ∷ []) all (0 ∷ 7 ∷ 5 ∷ [])
    (book 0 2 (carrier_of 0 4 4 0 ∷ carrier_of 4 0 4 7 ∷ carrier_of 2 1 1 5 ∷ []))
    -- a carrier that is past is forgotten for the first move, and its slot is taken
    ∷ trolley (hall5 []) (there 0 0) 5 (0 ∷ 4 ∷ 4 ∷ 0 ∷ []) all (5 ∷ 10 ∷ [])
    (book 5 0 (carrier_of 0 4 4 5 ∷ carrier_of 4 0 4 10 ∷ []))
    -- the second move is refused: the tick and the carrier of the first stay, the third is not asked
    ∷ trolley (hall5 []) (book 0 0 []) 7 half_way (stopped 1 5 0) (7 ∷ []) (there 7 7)
    -- an odd last number is in no move
    ∷ trolley (hall5 []) (book 0 0 []) 0 (0 ∷ 4 ∷ 4 ∷ []) all (0 ∷ []) (there 0 0)
    -- no moves: nothing is asked of the book, the clock or the network, and nobody is forgotten
    ∷ trolley (hall5 []) (there 3 0) 9 [] all [] (there 3 0)
    ∷ trolley (hall5 []) damaged 0 [] all [] damaged
    ∷ trolley (hall5 []) (book 5 0 []) 4 [] all [] (book 5 0 [])
    ∷ trolley no_node (book 0 0 []) 0 [] all [] (book 0 0 [])
    ∷ trolley no_node damaged 4000000001 (9 ∷ []) all [] damaged
    -- the same with a move: that move is refused, not the trolley whole
    ∷ trolley (hall5 []) damaged 0 (0 ∷ 4 ∷ []) (stopped 0 16 0) [] damaged
    ∷ trolley (hall5 []) (book 5 0 []) 4 (0 ∷ 4 ∷ []) (stopped 0 14 0) [] (book 5 0 [])
    ∷ trolley no_node (book 0 0 []) 0 (0 ∷ 4 ∷ []) (stopped 0 2 0) [] (book 0 0 [])
    -- more than 64 moves, whatever the book; 64 and a number are not more
    ∷ trolley (hall5 []) damaged 0 (repeated 65 0 4) (refused_whole 2 2) [] damaged
    ∷ trolley (hall5 []) damaged 0 (repeated 64 0 4 ++ (0 ∷ [])) (stopped 0 16 0) [] damaged
    -- a list of 63 places, before all else: nothing is touched
    ∷ trolley_with (hall5 []) damaged 0 (repeated 65 0 4) (nines 63)
    (outcome_of (refused_whole 9 0) (nines 63) damaged)
    ∷ trolley_with (hall5 []) (book 0 0 []) 0 [] (nines 63)
    (outcome_of (refused_whole 9 0) (nines 63) (book 0 0 []))
    -- a list of 66 places: those beyond 64 keep what they held
    ∷ trolley_with (hall5 []) (book 0 0 []) 0 (0 ∷ 4 ∷ []) (nines 66)
    (outcome_of all (ticks_of (0 ∷ []) ++ (9 ∷ 9 ∷ [])) (there 0 0))
    ∷ trolley_with (hall5 []) damaged 0 (repeated 65 0 4) (nines 66)
    (outcome_of (refused_whole 2 2) (ticks_of [] ++ (9 ∷ 9 ∷ [])) damaged)
    -- a full book: the slot of the one carrier that is past, and no slot for the second move
    ∷ trolley (hall4 []) (book 0 0 (train 64 0 3 3 0)) 4 (0 ∷ 3 ∷ 0 ∷ 3 ∷ []) (stopped 1 15 0) (64 ∷ [])
    (book 4 0 (carrier_of 0 3 3 64 ∷ train 63 0 3 3 1))
    -- a stale carrier: behind a fault of the first move, and with a sound one
    ∷ trolley (hall5 (2 ∷ [])) (there 0 0) 0 (2 ∷ 2 ∷ 3 ∷ 4 ∷ []) (stopped 0 5 0) [] (there 0 0)
    ∷ trolley (hall5 (2 ∷ [])) (book 0 0 (free ∷ free ∷ free ∷ carrier_of 0 4 4 0 ∷ [])) 0 (3 ∷ 4 ∷ 2 ∷ 2 ∷ [])
    (stopped 0 17 3) [] (book 0 0 (free ∷ free ∷ free ∷ carrier_of 0 4 4 0 ∷ []))
    ∷ []

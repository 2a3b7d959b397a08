-- Calls to a floor book at a limit, and calls with several faults and the first of them (rules 8.31 and
-- 11.18), as one table: `book_checks_in_order` (proofs/Cases.antt).
--     one             the book at clock 0, without dwell, that holds one carrier, in slot 0
--     one_last        the same at the last clock value
--     stale_train     a full book: a train, whose carrier in slot 5 has a distance held that is not the true
--                     one
--     refused_book_cases   the table
use Rattle.std.specs.Prelude.{List, [], ◌∷◌, ◌++◌, replicate}
use Rattle.hall.specs.Floor.{network_of}
use Rattle.hall.specs.Said.{refused}
use Rattle.slots.specs.declared.Slot.{Slot}
use Rattle.slots.specs.declared.Book.{Book}
use Rattle.slots.specs.Record.{free}
use Rattle.admission.specs.Admission.{carrier_of}
use Rattle.book_cases.specs.Case.{Case, case, hall4, hall5, train, book, starts}

abbrev pub one : Slot → Book
one carrier = book 0 0 (carrier ∷ [])

abbrev pub one_last : Slot → Book
one_last carrier = book 4000000000 0 (carrier ∷ [])

abbrev pub stale_train : List Slot
stale_train = train 5 0 3 3 0 ++ (carrier_of 0 3 4 5 ∷ train 58 0 3 3 6)

unfoldable pub refused_book_cases : List Case
refused_book_cases =
    -- of two faults the one that is listed first: 16, 14, 2, 3, 12, 4, 5, 13 and 8, 17, 15
    case (hall5 []) (book 5 256 []) 4 0 4 (refused 16 0)
    ∷ case (network_of 0 [] []) (book 5 0 []) 4 0 4 (refused 14 0)
    ∷ case (network_of 5 (1 ∷ 0 ∷ 2 ∷ []) []) (book 0 0 []) 0 0 4 (refused 2 1)
    ∷ case (network_of 5 (1 ∷ 0 ∷ []) (5 ∷ [])) (book 0 0 []) 0 0 4 (refused 3 0)
    ∷ case (hall5 (5 ∷ [])) (book 0 0 []) 0 5 0 (refused 12 0)
    ∷ case (hall5 []) (book 0 0 []) 0 5 5 (refused 4 0)
    ∷ case (hall5 (0 ∷ [])) (book 0 0 []) 0 0 0 (refused 5 0)
    ∷ case (hall5 (2 ∷ [])) (one (carrier_of 0 4 4 0)) 0 2 4 (refused 13 0)
    ∷ case (hall5 (2 ∷ [])) (one (carrier_of 0 4 4 0)) 0 1 3 (refused 8 0)
    ∷ case (hall4 []) (book 0 0 stale_train) 3 0 3 (refused 17 5)
    -- 16: the clock, the dwell, and each number of a carrier
    ∷ case (hall5 []) (book 4000000001 0 []) 4000000001 0 4 (refused 16 0)
    ∷ case (hall5 []) (book 0 256 []) 0 0 4 (refused 16 0)
    ∷ case (hall5 []) (one (carrier_of 1024 4 4 0)) 0 0 4 (refused 16 0)
    ∷ case (hall5 []) (one (carrier_of 0 1024 4 0)) 0 0 4 (refused 16 0)
    ∷ case (hall5 []) (one (carrier_of 4 4 4 0)) 0 0 4 (refused 16 0)
    ∷ case (hall5 []) (one (carrier_of 0 4 0 0)) 0 0 4 (refused 16 0)
    ∷ case (hall5 []) (one (carrier_of 0 4 1024 0)) 0 0 4 (refused 16 0)
    ∷ case (hall5 []) (one (carrier_of 0 4 4 4000200001)) 0 0 4 (refused 16 0)
    -- 16: a slot with one number that is not 0 is not free; of a carrier that is past, and in the last slot
    ∷ case (hall5 []) (one (carrier_of 1 0 0 0)) 0 0 4 (refused 16 0)
    ∷ case (hall5 []) (one (carrier_of 0 1 0 0)) 0 0 4 (refused 16 0)
    ∷ case (hall5 []) (one (carrier_of 0 0 1 0)) 0 0 4 (refused 16 0)
    ∷ case (hall5 []) (one (carrier_of 0 0 0 1)) 0 0 4 (refused 16 0)
    ∷ case (hall5 []) (one (carrier_of 4 4 4 0)) 9 0 4 (refused 16 0)
    ∷ case (hall5 []) (book 0 0 (replicate 63 free ++ (carrier_of 4 4 4 0 ∷ []))) 0 0 4 (refused 16 0)
    -- 14: one below the clock, and one above the last clock value
    ∷ case (hall5 []) (book 5 0 []) 4 0 4 (refused 14 0)
    ∷ case (hall5 []) (book 0 0 []) 4000000001 0 4 (refused 14 0)
    -- at the limits: the clock and now, the dwell, the start tick of a carrier held, its ends and distance
    ∷ case (hall5 []) (book 4000000000 0 []) 4000000000 0 4 (starts 4000000000 0)
    ∷ case (hall5 []) (one_last (carrier_of 0 4 4 4000000000)) 4000000000 4 0 (starts 4000000005 1)
    ∷ case (hall5 []) (one_last (carrier_of 0 4 4 4000200000)) 4000000000 4 0 (starts 4000000000 1)
    ∷ case (hall5 []) (book 0 255 (carrier_of 0 4 4 0 ∷ [])) 259 4 0 (starts 260 1)
    ∷ case (hall5 []) (one (carrier_of 1023 1022 1023 0)) 1023 0 4 (refused 17 0)
    ∷ case (hall5 []) (one (carrier_of 1023 1022 1023 0)) 1024 0 4 (starts 1024 0)
    ∷ []

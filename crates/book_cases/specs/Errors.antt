-- The outcomes that errors which come easily with a floor book would give (rule 11.19), as one table. None is
-- what the definitions give of its call: `no_wrong_book_case` (proofs/Cases.antt).
--     wrong_book_cases   a call with an outcome that a book with that error may give
use Rattle.std.specs.Prelude.{List, [], ◌∷◌}
use Rattle.hall.specs.Said.{refused}
use Rattle.slots.specs.Record.{free}
use Rattle.admission.specs.Admission.{carrier_of}
use Rattle.book_cases.specs.Case.{Case, case, hall4, hall5, train, book, starts}
use Rattle.book_cases.specs.Refusals.{stale_train}

unfoldable pub wrong_book_cases : List Case
wrong_book_cases =
    -- forgotten at the last tick; and at the goal tick, with the wait left out
    case (hall5 []) (book 0 0 (carrier_of 0 4 4 0 ∷ [])) 4 0 4 (starts 4 0)
    ∷ case (hall5 []) (book 0 2 (carrier_of 0 4 4 0 ∷ [])) 5 0 4 (starts 5 0)
    -- not the lowest free slot; nobody ever forgotten
    ∷ case (hall5 []) (book 0 0 []) 0 0 4 (starts 0 1)
    ∷ case (hall5 []) (book 0 0 (carrier_of 0 4 4 0 ∷ [])) 5 0 4 (starts 5 1)
    ∷ case (hall4 []) (book 0 0 (train 64 0 3 3 0)) 4 0 3 (refused 15 0)
    -- a tick before now: counted from 0
    ∷ case (hall5 []) (book 0 0 []) 5 0 4 (starts 0 0)
    -- the dwell left out of the pair rule
    ∷ case (hall5 []) (book 0 2 (carrier_of 0 4 4 0 ∷ [])) 0 4 0 (starts 5 1)
    ∷ case (hall5 []) (book 0 2 (carrier_of 0 4 4 0 ∷ carrier_of 4 0 4 7 ∷ [])) 0 2 1 (starts 3 2)
    -- the difference of start ticks turned round; and a start behind all that are held, past the free ticks
    ∷ case (hall5 []) (book 0 0 (carrier_of 0 4 4 0 ∷ carrier_of 4 0 4 5 ∷ [])) 0 2 1 (starts 1 2)
    ∷ case (hall5 []) (book 0 0 (carrier_of 0 4 4 0 ∷ carrier_of 4 0 4 5 ∷ [])) 0 2 1 (starts 8 2)
    ∷ case (hall5 []) (book 0 0 (carrier_of 0 4 4 1000 ∷ [])) 0 4 0 (starts 1005 1)
    -- 15 before 17, 14 before 16, 17 before 13 and 8
    ∷ case (hall4 []) (book 0 0 stale_train) 3 0 3 (refused 15 0)
    ∷ case (hall5 []) (book 5 256 []) 4 0 4 (refused 14 0)
    ∷ case (hall5 (2 ∷ [])) (book 0 0 (carrier_of 0 4 4 0 ∷ [])) 0 2 4 (refused 17 0)
    ∷ case (hall5 (2 ∷ [])) (book 0 0 (carrier_of 0 4 4 0 ∷ [])) 0 1 3 (refused 17 0)
    -- 17 of a carrier that is past, at a place among those held, and not at all
    ∷ case (hall5 (2 ∷ [])) (book 0 0 (carrier_of 0 4 4 0 ∷ [])) 5 3 4 (refused 17 0)
    ∷ case (hall5 (2 ∷ [])) (book 0 0 (free ∷ free ∷ free ∷ carrier_of 0 4 4 0 ∷ [])) 0 3 4 (refused 17 0)
    ∷ case (hall5 (2 ∷ [])) (book 0 0 (carrier_of 0 4 4 0 ∷ [])) 4 3 4 (starts 4 1)
    -- a slot taken for free by its start, goal and distance alone
    ∷ case (hall5 []) (book 0 0 (carrier_of 0 0 0 1 ∷ [])) 0 0 4 (starts 0 0)
    ∷ []

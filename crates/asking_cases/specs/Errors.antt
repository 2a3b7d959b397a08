-- What errors that come easily with the question whether a move may go would answer (rule 11.25), as one
-- table. None is what the definitions give of its call: `no_wrong_asking` (proofs/Cases.antt).
--     wrong_askings   a call with an answer that a question with that error may give
use Rattle.std.specs.Prelude.{List, [], ◌∷◌}
use Rattle.hall.specs.Floor.{network_of}
use Rattle.hall.specs.Said.{refused}
use Rattle.slots.specs.Record.{free}
use Rattle.admission.specs.Admission.{carrier_of}
use Rattle.book_cases.specs.Case.{hall4, hall5, hall6, train, book}
use Rattle.book_cases.specs.Refusals.{one}
use Rattle.book_cases.specs.Trolleys.{there}
use Rattle.asking_cases.specs.Case.{AskingCase, asking, may_go, barred_by}
use Rattle.asking_cases.specs.Case.{all_joined, two, behind_five, train_book, early_train}

unfoldable pub wrong_askings : List AskingCase
wrong_askings =
    -- a later slot in place of the lowest: the last one, and the one between; the one that starts first
    asking (hall5 []) (book 0 0 (train 3 0 4 4 0)) 4 4 0 (barred_by 2)
    ∷ asking (hall5 []) (book 0 0 (train 3 0 4 4 0)) 4 4 0 (barred_by 1)
    ∷ asking (hall5 []) (book 0 0 (carrier_of 0 4 4 1 ∷ carrier_of 0 4 4 0 ∷ [])) 2 4 0 (barred_by 1)
    -- a place among those held, or among those that are not past, in place of the slot
    ∷ asking (hall5 []) (behind_five (train 2 0 4 4 0)) 3 4 0 (barred_by 0)
    ∷ asking (hall5 []) (book 0 0 (train 3 0 4 4 0)) 5 4 0 (barred_by 0)
    -- the lowest slot that holds a carrier, though it permits the tick
    ∷ asking (hall5 []) (book 0 0 (carrier_of 0 4 4 1000 ∷ train 2 0 4 4 0)) 3 4 0 (barred_by 0)
    -- 17 at the clock of the book: of a carrier that is past at the tick, and at the slot of such a one; 17
    -- at a place among those held; and not at all
    ∷ asking (hall5 (2 ∷ [])) (there 0 0) 5 3 4 (refused 17 0)
    ∷ asking (hall5 (2 ∷ [])) (behind_five (train 2 0 4 4 0)) 5 3 4 (refused 17 5)
    ∷ asking (hall5 (2 ∷ [])) (behind_five (train 2 0 4 4 0)) 5 3 4 (refused 17 0)
    ∷ asking (hall5 (2 ∷ [])) (there 0 0) 4 3 4 may_go
    ∷ asking (hall5 []) (book 0 0 (carrier_of 0 4 4 0 ∷ carrier_of 0 4 3 0 ∷ [])) 0 4 0 (barred_by 0)
    -- a carrier that is past forbids, by the distances of the network lent
    ∷ asking (hall6 (1 ∷ [])) (one (carrier_of 0 2 2 0)) 3 2 0 (barred_by 0)
    -- past at the last tick
    ∷ asking (hall5 []) (there 0 0) 4 4 0 may_go
    -- a tick before the clock let through, and one above the limit
    ∷ asking (hall5 []) (book 5 0 []) 4 0 4 may_go
    ∷ asking (hall5 []) (there 5 5) 4 4 0 (barred_by 0)
    ∷ asking (hall5 []) (book 0 0 []) 4000000001 0 4 may_go
    -- 14 for a tick that is not the clock of the book
    ∷ asking (hall5 []) (there 0 0) 5 4 0 (refused 14 0)
    -- 15 for a full book, whether the move is barred or may go
    ∷ asking (hall4 []) train_book 3 3 0 (refused 15 0)
    ∷ asking (hall4 []) early_train 9 0 3 (refused 15 0)
    -- the dwell left out of the pair rule, at the upper end and at the lower; and out of the last tick
    ∷ asking (hall5 []) (book 0 2 (carrier_of 0 4 4 0 ∷ [])) 6 4 0 may_go
    ∷ asking (hall5 []) (book 0 2 (carrier_of 0 4 4 0 ∷ [])) 1 3 4 may_go
    ∷ asking (hall5 (2 ∷ [])) (book 0 2 (carrier_of 0 4 4 0 ∷ [])) 6 3 4 may_go
    -- the exception of the pair rule left out, and kept with a dwell
    ∷ asking all_joined (one (carrier_of 0 1 1 0)) 0 2 3 (barred_by 0)
    ∷ asking all_joined (book 0 1 (carrier_of 0 1 1 0 ∷ [])) 0 2 3 may_go
    -- the difference of start ticks turned round
    ∷ asking (hall5 []) two 1 2 1 may_go
    ∷ asking (hall5 []) two 3 2 1 (barred_by 1)
    ∷ asking (hall5 []) two 7 2 1 may_go
    -- every tick up to a carrier's last one taken for forbidden, those before its stretch too
    ∷ asking (hall5 []) two 6 2 1 (barred_by 1)
    ∷ asking (hall5 []) (one (carrier_of 0 4 4 1000)) 995 4 0 (barred_by 0)
    -- a carrier that starts later than the tick left out
    ∷ asking (hall5 []) (one (carrier_of 0 4 4 1000)) 996 4 0 may_go
    -- a free slot forbids, as if a carrier stood on node 0 at tick 0; and with dwell 2
    ∷ asking (hall5 []) (book 0 0 []) 0 0 4 (barred_by 0)
    ∷ asking (hall5 []) (book 0 2 []) 2 0 4 (barred_by 0)
    ∷ asking (hall5 []) (book 0 0 (free ∷ carrier_of 0 4 4 0 ∷ [])) 0 0 4 (barred_by 0)
    -- 16 not asked, of a dwell
    ∷ asking (hall5 []) (book 0 256 []) 0 0 4 may_go
    -- 14 before 16, 2 before 14, 17 before 13 and 8
    ∷ asking (hall5 []) (book 5 256 []) 4 0 4 (refused 14 0)
    ∷ asking (network_of 0 [] []) (book 5 0 []) 4 0 4 (refused 2 0)
    ∷ asking (hall5 (2 ∷ [])) (there 0 0) 0 2 4 (refused 17 0)
    ∷ asking (hall5 (2 ∷ [])) (there 0 0) 0 1 3 (refused 17 0)
    ∷ []

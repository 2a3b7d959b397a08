-- The outcomes that errors which come easily with a trolley would give (rule 11.21), as one table. None is
-- what the definitions give of its call: `no_wrong_trolley_case` (proofs/Trolleys.antt).
--     wrong_trolley_cases   a call with an outcome that a trolley with that error may give
use Rattle.std.specs.Prelude.{List, [], ◌∷◌, ◌++◌, replicate}
use Rattle.admission.specs.Admission.{carrier_of}
use Rattle.admission.specs.Trolley.{all, stopped, refused_whole}
use Rattle.book_cases.specs.Case.{hall5, book}
use Rattle.book_cases.specs.Trolleys.{TrolleyCase, nines, ticks_of, repeated}
use Rattle.book_cases.specs.Trolleys.{outcome_of, trolley_with, trolley, damaged, there, half_way}

unfoldable pub wrong_trolley_cases : List TrolleyCase
wrong_trolley_cases =
    -- a refusal in the middle: the ticks zeroed, the book set back, and both
    trolley (hall5 []) (book 0 0 []) 7 half_way (stopped 1 5 0) [] (there 7 7)
    ∷ trolley (hall5 []) (book 0 0 []) 7 half_way (stopped 1 5 0) (7 ∷ []) (book 0 0 [])
    ∷ trolley (hall5 []) (book 0 0 []) 7 half_way (stopped 1 5 0) [] (book 0 0 [])
    -- its number left out, and the trolley going on with the third move
    ∷ trolley (hall5 []) (book 0 0 []) 7 half_way (stopped 0 5 0) (7 ∷ []) (there 7 7)
    ∷ trolley (hall5 []) (book 0 0 []) 7 half_way (stopped 1 5 0) (7 ∷ 0 ∷ 12 ∷ [])
    (book 7 0 (carrier_of 0 4 4 7 ∷ carrier_of 4 0 4 12 ∷ []))
    -- the second move judged against the book as it was lent: its tick, and its slot
    ∷ trolley (hall5 []) (book 0 0 []) 0 (0 ∷ 4 ∷ 4 ∷ 0 ∷ []) all (0 ∷ 0 ∷ [])
    (book 0 0 (carrier_of 0 4 4 0 ∷ carrier_of 4 0 4 0 ∷ []))
    ∷ trolley (hall5 []) (book 0 0 []) 0 (0 ∷ 4 ∷ 4 ∷ 0 ∷ []) all (0 ∷ 5 ∷ [])
    (book 0 0 (carrier_of 4 0 4 5 ∷ []))
    -- 2 after 16, 9 after 2, and 16 of no moves
    ∷ trolley (hall5 []) damaged 0 (repeated 65 0 4) (stopped 0 16 0) [] damaged
    ∷ trolley_with (hall5 []) damaged 0 (repeated 65 0 4) (nines 63)
    (outcome_of (refused_whole 2 2) (replicate 63 0) damaged)
    ∷ trolley (hall5 []) damaged 0 [] (stopped 0 16 0) [] damaged
    ∷ trolley (hall5 []) damaged 0 [] (refused_whole 16 0) [] damaged
    -- the clock moved by no moves
    ∷ trolley (hall5 []) (there 3 0) 9 [] all [] (there 9 0)
    -- the places behind the ticks not zeroed, and those beyond 64 zeroed
    ∷ trolley_with (hall5 []) (book 0 0 []) 0 (0 ∷ 4 ∷ []) (nines 64)
    (outcome_of all (0 ∷ nines 63) (there 0 0))
    ∷ trolley_with (hall5 []) (book 0 0 []) 0 (0 ∷ 4 ∷ []) (nines 66)
    (outcome_of all (ticks_of (0 ∷ []) ++ (0 ∷ 0 ∷ [])) (there 0 0))
    ∷ []

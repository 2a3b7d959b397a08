-- Where several faults hold of a job, the order of the checks decides (rules 8.22 and 11.12, and the last of
-- 11.15 and of 11.16), as one table: `refusals_in_order` (proofs/Cases.antt).
--     refusal_cases   jobs at a limit, and jobs with several faults and the first of them
use Rattle.std.specs.Prelude.{List, [], ◌∷◌, replicate}
use Rattle.hall.specs.Said.{refused}
use Rattle.cases.specs.Case.{planned, Case, case, case_closed, case_dwell, line2, line4}

unfoldable pub refusal_cases : List Case
refusal_cases =
    -- 1,024 nodes pass, 1,025 and 0 give 2
    case 1024 [] [] [] (planned [] 0)
    ∷ case 1025 [] [] [] (refused 2 0)
    ∷ case 0 [] [] [] (refused 2 0)
    -- no node, a lane list of odd length and an order too long: the nodes come first, then the lanes, then
    -- the order, and all before a lane
    ∷ case 0 (0 ∷ []) [] (0 ∷ []) (refused 2 0)
    ∷ case 2 (1 ∷ 0 ∷ 0 ∷ []) [] (0 ∷ []) (refused 2 1)
    ∷ case 2 (1 ∷ 0 ∷ []) [] (0 ∷ []) (refused 2 3)
    -- a dwell of 256 gives 2 at place 5: behind the order's count, before a lane; 255 is none too long
    ∷ case_dwell 2 line2 [] [] 256 (refused 2 5)
    ∷ case_dwell 2 line2 (0 ∷ 1 ∷ []) [] 256 (refused 2 3)
    ∷ case_dwell 2 (1 ∷ 0 ∷ []) [] [] 256 (refused 2 5)
    ∷ case_dwell 2 (1 ∷ 0 ∷ []) [] [] 255 (refused 3 0)
    -- 65 carriers give 2
    ∷ case 1 [] (replicate 130 0) (replicate 65 0) (refused 2 2)
    -- lane `1 0` gives 3, before a start that is no node; a lane that stands twice
    ∷ case 2 (1 ∷ 0 ∷ []) (0 ∷ 2 ∷ []) (0 ∷ []) (refused 3 0)
    ∷ case 2 (0 ∷ 1 ∷ 0 ∷ 1 ∷ []) (0 ∷ 1 ∷ []) (0 ∷ []) (refused 3 1)
    -- 1,025 closed nodes give 2 at place 4: behind a lane list of odd length, before 65 carriers
    ∷ case_closed 2 (0 ∷ []) (replicate 1025 0) [] [] (refused 2 1)
    ∷ case_closed 1 [] (replicate 1025 0) (replicate 130 0) [] (refused 2 4)
    -- a closed node that is none, or that stands twice, gives 12: behind 3, before 4
    ∷ case_closed 2 (1 ∷ 0 ∷ []) (2 ∷ []) [] [] (refused 3 0)
    ∷ case_closed 2 line2 (2 ∷ []) (2 ∷ 0 ∷ []) (0 ∷ []) (refused 12 0)
    ∷ case_closed 2 line2 (1 ∷ 1 ∷ []) [] [] (refused 12 1)
    -- a closed start or goal gives 13: behind 4 and 5 of its move, before a later move and the order
    ∷ case_closed 2 line2 (0 ∷ []) (0 ∷ 1 ∷ []) (0 ∷ []) (refused 13 0)
    ∷ case_closed 3 line2 (1 ∷ []) (0 ∷ 2 ∷ 0 ∷ 1 ∷ []) (0 ∷ 0 ∷ []) (refused 13 1)
    ∷ case_closed 2 line2 (0 ∷ []) (0 ∷ 2 ∷ []) (0 ∷ []) (refused 4 0)
    ∷ case_closed 2 line2 (0 ∷ []) (0 ∷ 0 ∷ []) (0 ∷ []) (refused 5 0)
    ∷ case_closed 2 line2 (0 ∷ []) (0 ∷ 1 ∷ 2 ∷ 2 ∷ []) (0 ∷ 1 ∷ []) (refused 13 0)
    -- of one move 4 comes before 5; of two moves the earlier one decides, whatever its number; that two moves
    -- have one start is no fault
    ∷ case 2 line2 (2 ∷ 2 ∷ []) (0 ∷ []) (refused 4 0)
    ∷ case 2 line2 (1 ∷ 1 ∷ 2 ∷ 0 ∷ []) (0 ∷ 1 ∷ []) (refused 5 0)
    ∷ case 4 line4 (0 ∷ 1 ∷ 0 ∷ 2 ∷ 3 ∷ 3 ∷ []) (0 ∷ 1 ∷ 2 ∷ []) (refused 5 2)
    -- a move comes before the order, and the order before a walk that is missing
    ∷ case 2 line2 (0 ∷ 1 ∷ 1 ∷ 1 ∷ []) (0 ∷ 0 ∷ []) (refused 5 1)
    ∷ case 3 line2 (0 ∷ 2 ∷ 1 ∷ 0 ∷ []) (0 ∷ 0 ∷ []) (refused 7 1)
    -- of two walks that are missing the lowest carrier number decides, whatever the order
    ∷ case 4 line2 (0 ∷ 1 ∷ 1 ∷ 2 ∷ 2 ∷ 3 ∷ []) (2 ∷ 1 ∷ 0 ∷ []) (refused 8 1)
    ∷ []

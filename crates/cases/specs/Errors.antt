-- The outcomes that errors which come easily would give (rules 11.13 and 11.17), as one table. None is what
-- the definitions give of its job: `no_wrong_case` (proofs/Cases.antt).
--     wrong_cases     a job with an outcome that a planner with that error may give: the one that the rule
--                     names, where it names one
use Rattle.std.specs.Prelude.{List, [], ◌∷◌}
use Rattle.hall.specs.Said.{refused}
use Rattle.cases.specs.Case.{planned, Case, case, case_closed, case_dwell}
use Rattle.cases.specs.Case.{line2, line4, line5, six_lanes, two_rows, square}

unfoldable pub wrong_cases : List Case
wrong_cases =
    -- P8 with the difference turned round: carrier 2 at tick 1
    case 5 line5 (0 ∷ 4 ∷ 4 ∷ 0 ∷ 2 ∷ 1 ∷ []) (0 ∷ 1 ∷ 2 ∷ []) (planned (0 ∷ 5 ∷ 1 ∷ []) 15)
    -- P8 with a start behind the last forbidden tick, past the free ones: carrier 2 at tick 8
    ∷ case 5 line5 (0 ∷ 4 ∷ 4 ∷ 0 ∷ 2 ∷ 1 ∷ []) (0 ∷ 1 ∷ 2 ∷ []) (planned (0 ∷ 5 ∷ 8 ∷ []) 22)
    -- P4 where only meetings are tested: carrier 1 at tick 0
    ∷ case 4 line4 (0 ∷ 3 ∷ 3 ∷ 0 ∷ []) (0 ∷ 1 ∷ []) (planned (0 ∷ 0 ∷ []) 6)
    -- P7 without the parity exception: carrier 1 at tick 1
    ∷ case 4 six_lanes (0 ∷ 1 ∷ 2 ∷ 3 ∷ []) (0 ∷ 1 ∷ []) (planned (0 ∷ 1 ∷ []) 3)
    -- P10 with the mark used as a distance: in sixteen bits it is −1, the gap −4, and the stretch −2
    -- to 2, so carrier 1 at tick 3
    ∷ case 4 (0 ∷ 1 ∷ 2 ∷ 3 ∷ []) (0 ∷ 1 ∷ 2 ∷ 3 ∷ []) (0 ∷ 1 ∷ []) (planned (0 ∷ 3 ∷ []) 5)
    -- P11, the same of a carrier's own distance: planned, with 65,535 as the goal tick
    ∷ case 3 line2 (0 ∷ 2 ∷ []) (0 ∷ []) (planned (0 ∷ []) 65535)
    -- one lift for two, which leave it at one tick
    ∷ case 4 line4 (1 ∷ 0 ∷ 1 ∷ 3 ∷ []) (0 ∷ 1 ∷ []) (planned (0 ∷ 0 ∷ []) 3)
    -- one chute for two, which come to it at one tick
    ∷ case 4 line4 (0 ∷ 1 ∷ 2 ∷ 1 ∷ []) (0 ∷ 1 ∷ []) (planned (0 ∷ 0 ∷ []) 2)
    -- and the refusal 6 that such a job had before moves could share an end
    ∷ case 4 line4 (0 ∷ 1 ∷ 0 ∷ 2 ∷ []) (0 ∷ 1 ∷ []) (refused 6 1)
    -- a walk over a closed node, and a start and a goal that are closed
    ∷ case_closed 6 two_rows (1 ∷ []) (0 ∷ 2 ∷ []) (0 ∷ []) (planned (0 ∷ []) 2)
    ∷ case_closed 2 line2 (0 ∷ []) (0 ∷ 1 ∷ []) (0 ∷ []) (planned (0 ∷ []) 1)
    ∷ case_closed 2 line2 (1 ∷ []) (0 ∷ 1 ∷ []) (0 ∷ []) (refused 8 0)
    -- a carrier that is gone after its goal tick: P8 with dwell 2 as without; and the wait in the cost
    ∷ case_dwell 5 line5 (0 ∷ 4 ∷ 4 ∷ 0 ∷ 2 ∷ 1 ∷ []) (0 ∷ 1 ∷ 2 ∷ []) 2 (planned (0 ∷ 5 ∷ 3 ∷ []) 17)
    ∷ case_dwell 5 line5 (0 ∷ 4 ∷ 4 ∷ 0 ∷ 2 ∷ 1 ∷ []) (0 ∷ 1 ∷ 2 ∷ []) 2 (planned (0 ∷ 7 ∷ 5 ∷ []) 27)
    -- only the upper end of the stretch moved: 2 to 4, and tick 0 free; only the lower: −6 to 4, and tick 5
    ∷ case_dwell 4 line4 (0 ∷ 3 ∷ 2 ∷ 3 ∷ []) (0 ∷ 1 ∷ []) 2 (planned (0 ∷ 0 ∷ []) 4)
    ∷ case_dwell 5 line5 (0 ∷ 4 ∷ 4 ∷ 0 ∷ []) (0 ∷ 1 ∷ []) 2 (planned (0 ∷ 5 ∷ []) 13)
    -- the exception kept with dwell, at the ends as they were or as they are moved
    ∷ case_dwell 4 six_lanes (0 ∷ 1 ∷ 2 ∷ 3 ∷ []) (0 ∷ 1 ∷ []) 1 (planned (0 ∷ 0 ∷ []) 2)
    ∷ case_dwell 4 six_lanes (0 ∷ 1 ∷ 2 ∷ 3 ∷ []) (0 ∷ 1 ∷ []) 2 (planned (0 ∷ 2 ∷ []) 4)
    -- a stretch taken for empty before it is widened
    ∷ case_dwell 4 square (0 ∷ 1 ∷ 2 ∷ 3 ∷ []) (0 ∷ 1 ∷ []) 1 (planned (0 ∷ 0 ∷ []) 2)
    -- a dwell of 256 let through
    ∷ case_dwell 2 line2 (0 ∷ 1 ∷ []) (0 ∷ []) 256 (planned (0 ∷ []) 1)
    ∷ []

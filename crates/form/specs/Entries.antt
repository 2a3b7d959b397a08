-- The checks of an entry (rules 7.9, 8.3 to 8.7, 8.12 and 8.13). They are the stages of the questions from
-- numbers, so that an entry of a text and one from numbers cannot be checked differently; what the sections
-- read say stands for the rest of the job: how many nodes there are, which are closed, how many carriers.
--     checks_of x read l     the checks of entries of the kind x, behind the sections read: entry k is asked
--                           at place k of the section's numbers l so far, its own the last of them
use Rattle.std.specs.Prelude.{List, [], ℕ}
use Rattle.hall.specs.Stages.{Stage}
use Rattle.hall.specs.Questions.{lane_checks, closed_checks, move_checks, order_checks}
use Rattle.form.specs.Sections.{Entry, none, lane, closed_node, move, place, Content, count_of, numbers_of}
use Rattle.form.specs.Words.{NODES, CLOSED, CARRIERS}

abbrev pub checks_of : Entry → (read : List Content) (numbers : List ℕ) → Stage
checks_of none read l = []
checks_of lane read l = lane_checks (count_of NODES read) l
checks_of closed_node read l = closed_checks (count_of NODES read) l
checks_of move read l = move_checks (count_of NODES read) (numbers_of CLOSED read) l
checks_of place read l = order_checks (count_of CARRIERS read) l

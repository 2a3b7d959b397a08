-- Every question of a job or a move from numbers as its list of stages, in the order in which its checks are
-- made (rules 8.22 to 8.30); those of a floor book are in the crates `slots` and `admission` (rules 8.31 and
-- 8.32). To
-- change an order, or to add a check, is to change a list. What a question adds of its own
-- comes in as a statement: `Short`, that a table lent to be filled lacks places; `Unfit`, that the list put
-- forward is none of the shortest paths.
--     nodes_count, lanes_count, closed_count, carriers_count, order_count, dwell_count    2, each count at its
--                        place: 0, 1, 4, 2, 3 and 5, in this order. The lanes' is how many numbers their list
--                        has; the dwell is a number of its own
--     lane_checks         3, of the lane at a place
--     each_lane           3, lane by lane
--     closed_checks       12, of the closed node at a place
--     each_closed         12, closed node by closed node
--     ends               4, 5 and 13, of the move at a place, by its start and its goal
--     move_checks         4, 5 and 13, of the move at a place of a list of moves: no other move is looked at
--     each_move           4, 5 and 13, for each move in turn
--     order_checks        7, of the order's entry at a place
--     each_order_place     7, place by place
--     walk_checks         8, of the move at a place
--     each_walk           8, for the lowest carrier number
--     short_table, lacking, unfit    9, 10 and 11
--     counts             2, of the five counts and the dwell
--     network_question    a network by itself: 2 (nodes, lanes, closed nodes), 3, 12
--     moves_question      the listed checks of a job up to its order's entries: 2, 3, 12, then 4, 5 and 13 of
--                        each move. Of the order its length is asked for, and nothing else
--     checks_question     the listed checks of a job: these, then 7
--     job_question        a job: the same, then 8
--     receiving          9, then the listed checks of the job: what planning asks before any walk
--     planning           9, then those of the job
--     writing            9, then the listed checks of the job; no walk is asked for
--     move_ends           2, 3, 12, 4, 5, 13: a network and one move, whose place is 0
--     move_question       the same with 8
--     house_of_move, list_of_move    house path, question about one list: of a network and a move
--     asked_question      a job and a carrier number: those of the job, then 10
--     house_of_job, list_of_job      house path, question about one list: of a job and one of its carriers, by
--                                number
use Rattle.std.specs.Prelude.{◌≡◌, ◌⊎◌, ◌≢◌, List, [], ◌∷◌, ◌++◌, ℕ, ◌/◌, ◌%◌, ◌≤◌, ◌<◌, length}
use Rattle.hall.specs.declared.Fault.TheVariants.{BadCount, BadLane, NoNode, SameEnds}
use Rattle.hall.specs.declared.Fault.TheVariants.{BadOrder, Unreachable, ShortTable, NoCarrier}
use Rattle.hall.specs.declared.Fault.TheVariants.{NotShortest, BadClosed, ClosedEnd}
use Rattle.hall.specs.Limits.{node_limit, lane_limit, carrier_limit, dwell_limit}
use Rattle.hall.specs.Floor.{NoWalk, Network, lanes_in, floor}
use Rattle.hall.specs.Job.{Numbers, carriers, move_count, start_in, goal_in}
use Rattle.hall.specs.Stages.{◌when◌, Stage, Question, asked, only_at, at_each}
use Rattle.hall.specs.Refusals.{LaneFault, ClosedFault, NoNode-at, ClosedEnd-at, BadOrder-at}

-- ---- the stages

abbrev pub nodes_count : ℕ → Stage
nodes_count nodes = asked BadCount 0 ((nodes < 1) ⊎ (node_limit < nodes))

abbrev pub lanes_count : ℕ → Stage
lanes_count numbers = asked BadCount 1 ((lane_limit < numbers / 2) ⊎ (numbers % 2 ≡ 1))

abbrev pub closed_count : ℕ → Stage
closed_count closed = asked BadCount 4 (node_limit < closed)

abbrev pub carriers_count : ℕ → Stage
carriers_count carriers = asked BadCount 2 (carrier_limit < carriers)

abbrev pub order_count : (order carriers : ℕ) → Stage
order_count order carriers = asked BadCount 3 (order ≢ carriers)

abbrev pub dwell_count : ℕ → Stage
dwell_count dwell = asked BadCount 5 (dwell_limit < dwell)

abbrev pub lane_checks : (nodes : ℕ) → List ℕ → Stage
lane_checks nodes lanes = BadLane when LaneFault nodes lanes ∷ []

abbrev pub each_lane : (nodes : ℕ) → List ℕ → Stage
each_lane nodes lanes = at_each (lanes_in lanes) (lane_checks nodes lanes)

abbrev pub closed_checks : (nodes : ℕ) → List ℕ → Stage
closed_checks nodes closed = BadClosed when ClosedFault nodes closed ∷ []

abbrev pub each_closed : (nodes : ℕ) → List ℕ → Stage
each_closed nodes closed = at_each (length closed) (closed_checks nodes closed)

abbrev pub ends : (nodes : ℕ) (closed : List ℕ) (start goal : ℕ → ℕ) → Stage
ends nodes closed start goal =
    NoNode when (λ i. NoNode-at nodes (start i) (goal i))
    ∷ SameEnds when (λ i. start i ≡ goal i)
    ∷ ClosedEnd when (λ i. ClosedEnd-at closed (start i) (goal i))
    ∷ []

abbrev pub move_checks : (nodes : ℕ) (closed moves : List ℕ) → Stage
move_checks nodes closed moves = ends nodes closed (start_in moves) (goal_in moves)

abbrev pub each_move : (nodes : ℕ) (closed moves : List ℕ) → Stage
each_move nodes closed moves = at_each (move_count moves) (move_checks nodes closed moves)

abbrev pub order_checks : (count : ℕ) → List ℕ → Stage
order_checks count order = BadOrder when BadOrder-at count order ∷ []

abbrev pub each_order_place : (count : ℕ) → List ℕ → Stage
each_order_place count order = at_each (length order) (order_checks count order)

abbrev pub walk_checks : Network → List ℕ → Stage
walk_checks N moves = Unreachable when (λ i. NoWalk (floor N) (start_in moves i) (goal_in moves i)) ∷ []

abbrev pub each_walk : Network → List ℕ → Stage
each_walk N moves = at_each (move_count moves) (walk_checks N moves)

abbrev pub short_table : Type 0 → Stage
short_table Short = asked ShortTable 0 Short

abbrev pub lacking : (count c : ℕ) → Stage
lacking count c = asked NoCarrier c (count ≤ c)

abbrev pub unfit : Type 0 → Stage
unfit Unfit = asked NotShortest 0 Unfit

-- ---- a network, a job

abbrev pub counts : (nodes numbers_of_lanes closed carriers order dwell : ℕ) → Question
counts nodes numbers_of_lanes closed carriers order dwell =
    nodes_count nodes
    ∷ lanes_count numbers_of_lanes
    ∷ closed_count closed
    ∷ carriers_count carriers
    ∷ order_count order carriers
    ∷ dwell_count dwell
    ∷ []

abbrev pub network_question : Network → Question
network_question N =
    nodes_count N.nodes
    ∷ lanes_count (length N.lanes)
    ∷ closed_count (length N.closed)
    ∷ each_lane N.nodes N.lanes
    ∷ each_closed N.nodes N.closed
    ∷ []

abbrev pub moves_question : Numbers → Question
moves_question j =
    counts j.network.nodes (length j.network.lanes) (length j.network.closed)
    (carriers j) (length j.order) j.dwell
    ++ (each_lane j.network.nodes j.network.lanes
    ∷ each_closed j.network.nodes j.network.closed
    ∷ each_move j.network.nodes j.network.closed j.moves
    ∷ [])

abbrev pub checks_question : Numbers → Question
checks_question j = moves_question j ++ (each_order_place (carriers j) j.order ∷ [])

abbrev pub job_question : Numbers → Question
job_question j = checks_question j ++ (each_walk j.network j.moves ∷ [])

abbrev pub receiving : (Short : Type 0) → Numbers → Question
receiving Short j = short_table Short ∷ checks_question j

abbrev pub planning : (Short : Type 0) → Numbers → Question
planning Short j = short_table Short ∷ job_question j

abbrev pub writing : (Short : Type 0) → Numbers → Question
writing Short j = short_table Short ∷ checks_question j

-- ---- one move

abbrev pub move_ends : Network → (s g : ℕ) → Question
move_ends N s g = network_question N ++ only_at 0 (ends N.nodes N.closed (λ i. s) (λ i. g))

abbrev pub move_question : Network → (s g : ℕ) → Question
move_question N s g = move_ends N s g ++ (asked Unreachable 0 (NoWalk (floor N) s g) ∷ [])

abbrev pub house_of_move : (Short : Type 0) → Network → (s g : ℕ) → Question
house_of_move Short N s g = short_table Short ∷ move_question N s g

abbrev pub list_of_move : Network → (s g : ℕ) (Unfit : Type 0) → Question
list_of_move N s g Unfit = move_question N s g ++ (unfit Unfit ∷ [])

-- ---- one carrier of a job

abbrev pub asked_question : Numbers → ℕ → Question
asked_question j c = job_question j ++ (lacking (carriers j) c ∷ [])

abbrev pub house_of_job : (Short : Type 0) → Numbers → ℕ → Question
house_of_job Short j c = short_table Short ∷ asked_question j c

abbrev pub list_of_job : Numbers → ℕ → (Unfit : Type 0) → Question
list_of_job j c Unfit = asked_question j c ++ (unfit Unfit ∷ [])

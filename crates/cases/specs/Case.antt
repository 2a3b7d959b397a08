-- The cases P1 to P11 (rules 11.1 to 11.11) as one table, those of carriers that share an end (rule 11.14) as
-- another, the first seven of halls with closed nodes (rule 11.15) as a third, and the first twelve of
-- carriers that wait (rule 11.16) as a fourth. A line is the whole outcome of its job: `outcome_unique`
-- (proofs/Outcomes.antt) says that a job has no second one.
--     Schedule    start ticks by carrier number, and the cost
--     Outcome     what is said of a job: a schedule, or a refusal with its number and place
--     planned     a schedule as an outcome
--     Case        a job with its outcome
--     Accepted    the job has no fault, there is one tick a carrier, and the ticks and the cost are its plan
--     Gives       the outcome is what the definitions give of the job: accepted, or refused for its first
--                 fault
--     Holds       the same of a case
--     line2, ..   the lanes of a line of so many nodes; six_lanes four nodes with all six lanes between them
--     two_rows    six nodes in two rows of three: 0 1 2 above 3 4 5
--     crossing    seven nodes: 1 is joined to 0, 2, 4 and 5, 3 to 0 and 2, and 6 to 4 and 5
--     square      four nodes in two rows of two: 0 1 above 2 3
--     case_of     a case from its numbers: nodes, lanes, closed nodes, moves, order, dwell, outcome
--     case_closed the same without dwell
--     case_dwell  the same without closed nodes
--     case        the same without either
--     cases       P1 to P11, line by line. Where the rules name no network (no carriers) it is line 5; where
--                 they name no cost it is the sum of the goal ticks
--     shared_cases    carriers from one lift, into one chute, or both
--     closed_cases    a floor plate is taken up: the way round it, no way, and a plate that is in no one's
--                     way
--     dwell_cases     carriers that wait over the chute
--     there, back     the shortest paths of the two carriers of P4, of which rule 11.4 remarks something
use Rattle.std.specs.Prelude.{◌≡◌, List, [], ◌∷◌, ℕ, length, get_or}
use Rattle.hall.specs.Floor.{network_of}
use Rattle.hall.specs.Job.{Numbers, job_of, carriers}
use Rattle.hall.specs.Stages.{First, None}
use Rattle.hall.specs.Said.{Said, accepted, refused}
use Rattle.hall.specs.Questions.{job_question}
use Rattle.hall.specs.Ticks.{Tables}
use Rattle.hall.specs.Plan.{Plan}

pub record Schedule : Type 0 where
  pub ticks : List ℕ
  pub cost : ℕ

abbrev pub Outcome : Type 0
Outcome = Said Schedule

abbrev pub planned : List ℕ → ℕ → Outcome
planned ticks cost = accepted (record { ticks = ticks; cost = cost })

pub record Case : Type 0 where
  pub job : Numbers
  pub outcome : Outcome

pub record Accepted (j : Numbers) (s : Schedule) : Type 0 where
  pub no_fault : None (job_question j)
  pub one_each : length s.ticks ≡ carriers j
  pub tables : Tables
  pub plan : Plan j tables (λ i. get_or s.ticks i 0) s.cost

abbrev pub Gives : Numbers → Outcome → Type 0
Gives j (accepted s) = Accepted j s
Gives j (refused n p) = First (job_question j) n p

abbrev pub Holds : Case → Type 0
Holds c = Gives c.job c.outcome

abbrev pub line2 : List ℕ
line2 = 0 ∷ 1 ∷ []

abbrev pub line4 : List ℕ
line4 = 0 ∷ 1 ∷ 1 ∷ 2 ∷ 2 ∷ 3 ∷ []

abbrev pub line5 : List ℕ
line5 = 0 ∷ 1 ∷ 1 ∷ 2 ∷ 2 ∷ 3 ∷ 3 ∷ 4 ∷ []

abbrev pub six_lanes : List ℕ
six_lanes = 0 ∷ 1 ∷ 0 ∷ 2 ∷ 0 ∷ 3 ∷ 1 ∷ 2 ∷ 1 ∷ 3 ∷ 2 ∷ 3 ∷ []

abbrev pub two_rows : List ℕ
two_rows = 0 ∷ 1 ∷ 0 ∷ 3 ∷ 1 ∷ 2 ∷ 1 ∷ 4 ∷ 2 ∷ 5 ∷ 3 ∷ 4 ∷ 4 ∷ 5 ∷ []

abbrev pub square : List ℕ
square = 0 ∷ 1 ∷ 0 ∷ 2 ∷ 1 ∷ 3 ∷ 2 ∷ 3 ∷ []

abbrev pub crossing : List ℕ
crossing = 0 ∷ 1 ∷ 0 ∷ 3 ∷ 1 ∷ 2 ∷ 1 ∷ 4 ∷ 1 ∷ 5 ∷ 2 ∷ 3 ∷ 4 ∷ 6 ∷ 5 ∷ 6 ∷ []

abbrev pub case_of : ℕ → (lanes closed moves order : List ℕ) → (dwell : ℕ) → Outcome → Case
case_of n lanes closed moves order dwell o =
    record { job = job_of (network_of n lanes closed) moves order dwell; outcome = o }

abbrev pub case_closed : ℕ → (lanes closed moves order : List ℕ) → Outcome → Case
case_closed n lanes closed moves order = case_of n lanes closed moves order 0

abbrev pub case_dwell : ℕ → (lanes moves order : List ℕ) → (dwell : ℕ) → Outcome → Case
case_dwell n lanes = case_of n lanes []

abbrev pub case : ℕ → (lanes moves order : List ℕ) → Outcome → Case
case n lanes = case_closed n lanes []

unfoldable pub cases : List Case
cases =
    -- P1
    case 5 line5 [] [] (planned [] 0)
    -- P2
    ∷ case 5 line5 (0 ∷ 4 ∷ 4 ∷ 0 ∷ []) (0 ∷ 1 ∷ []) (planned (0 ∷ 5 ∷ []) 13)
    -- P3
    ∷ case 2 line2 (0 ∷ 1 ∷ 1 ∷ 0 ∷ []) (0 ∷ 1 ∷ []) (planned (0 ∷ 2 ∷ []) 4)
    -- P4
    ∷ case 4 line4 (0 ∷ 3 ∷ 3 ∷ 0 ∷ []) (0 ∷ 1 ∷ []) (planned (0 ∷ 4 ∷ []) 10)
    -- P5
    ∷ case 5 line5 (0 ∷ 3 ∷ 1 ∷ 4 ∷ []) (0 ∷ 1 ∷ []) (planned (0 ∷ 0 ∷ []) 6)
    -- P6
    ∷ case 5 line5 (0 ∷ 1 ∷ 3 ∷ 4 ∷ []) (0 ∷ 1 ∷ []) (planned (0 ∷ 0 ∷ []) 2)
    -- P7
    ∷ case 4 six_lanes (0 ∷ 1 ∷ 2 ∷ 3 ∷ []) (0 ∷ 1 ∷ []) (planned (0 ∷ 0 ∷ []) 2)
    -- P8
    ∷ case 5 line5 (0 ∷ 4 ∷ 4 ∷ 0 ∷ 2 ∷ 1 ∷ []) (0 ∷ 1 ∷ 2 ∷ []) (planned (0 ∷ 5 ∷ 3 ∷ []) 17)
    -- P9
    ∷ case 5 line5 (0 ∷ 4 ∷ 4 ∷ 0 ∷ 2 ∷ 1 ∷ []) (2 ∷ 1 ∷ 0 ∷ []) (planned (5 ∷ 0 ∷ 0 ∷ []) 14)
    -- P10
    ∷ case 4 (0 ∷ 1 ∷ 2 ∷ 3 ∷ []) (0 ∷ 1 ∷ 2 ∷ 3 ∷ []) (0 ∷ 1 ∷ []) (planned (0 ∷ 0 ∷ []) 2)
    -- P11
    ∷ case 3 line2 (0 ∷ 2 ∷ []) (0 ∷ []) (refused 8 0)
    ∷ []

unfoldable pub shared_cases : List Case
shared_cases =
    -- a train
    case 4 line4 (0 ∷ 3 ∷ 0 ∷ 3 ∷ 0 ∷ 3 ∷ []) (0 ∷ 1 ∷ 2 ∷ []) (planned (0 ∷ 1 ∷ 2 ∷ []) 12)
    -- another order
    ∷ case 4 line4 (0 ∷ 3 ∷ 0 ∷ 3 ∷ 0 ∷ 3 ∷ []) (2 ∷ 0 ∷ 1 ∷ []) (planned (1 ∷ 2 ∷ 0 ∷ []) 12)
    -- one lift between two goals
    ∷ case 4 line4 (1 ∷ 0 ∷ 1 ∷ 3 ∷ []) (0 ∷ 1 ∷ []) (planned (0 ∷ 1 ∷ []) 4)
    -- one chute behind two starts
    ∷ case 4 line4 (0 ∷ 3 ∷ 2 ∷ 3 ∷ []) (0 ∷ 1 ∷ []) (planned (0 ∷ 0 ∷ []) 4)
    -- one chute between two starts
    ∷ case 4 line4 (0 ∷ 1 ∷ 2 ∷ 1 ∷ []) (0 ∷ 1 ∷ []) (planned (0 ∷ 1 ∷ []) 3)
    -- a train, and one against it
    ∷ case 5 line5 (0 ∷ 4 ∷ 0 ∷ 4 ∷ 4 ∷ 0 ∷ []) (0 ∷ 1 ∷ 2 ∷ []) (planned (0 ∷ 1 ∷ 6 ∷ []) 19)
    ∷ []

unfoldable pub closed_cases : List Case
closed_cases =
    -- two against each other, all plates down; one plate up, and both go round it; the whole column up
    case 6 two_rows (0 ∷ 2 ∷ 2 ∷ 0 ∷ []) (0 ∷ 1 ∷ []) (planned (0 ∷ 3 ∷ []) 7)
    ∷ case_closed 6 two_rows (1 ∷ []) (0 ∷ 2 ∷ 2 ∷ 0 ∷ []) (0 ∷ 1 ∷ []) (planned (0 ∷ 5 ∷ []) 13)
    ∷ case_closed 6 two_rows (1 ∷ 4 ∷ []) (0 ∷ 2 ∷ 2 ∷ 0 ∷ []) (0 ∷ 1 ∷ []) (refused 8 0)
    -- a plate up that is on no shortest path
    ∷ case_closed 6 two_rows (4 ∷ []) (0 ∷ 2 ∷ 2 ∷ 0 ∷ []) (0 ∷ 1 ∷ []) (planned (0 ∷ 3 ∷ []) 7)
    -- two who might meet on a node; that node closed, and no walk joins their starts any more
    ∷ case 7 crossing (0 ∷ 2 ∷ 4 ∷ 5 ∷ []) (0 ∷ 1 ∷ []) (planned (0 ∷ 1 ∷ []) 5)
    ∷ case_closed 7 crossing (1 ∷ []) (0 ∷ 2 ∷ 4 ∷ 5 ∷ []) (0 ∷ 1 ∷ []) (planned (0 ∷ 0 ∷ []) 4)
    -- every node closed, and no carrier
    ∷ case_closed 2 line2 (0 ∷ 1 ∷ []) [] [] (planned [] 0)
    ∷ []

unfoldable pub dwell_cases : List Case
dwell_cases =
    -- P8 with dwell 2, and the same without
    case_dwell 5 line5 (0 ∷ 4 ∷ 4 ∷ 0 ∷ 2 ∷ 1 ∷ []) (0 ∷ 1 ∷ 2 ∷ []) 2 (planned (0 ∷ 7 ∷ 5 ∷ []) 21)
    ∷ case_dwell 5 line5 (0 ∷ 4 ∷ 4 ∷ 0 ∷ 2 ∷ 1 ∷ []) (0 ∷ 1 ∷ 2 ∷ []) 0 (planned (0 ∷ 5 ∷ 3 ∷ []) 17)
    -- P7 with dwell: no exception
    ∷ case_dwell 4 six_lanes (0 ∷ 1 ∷ 2 ∷ 3 ∷ []) (0 ∷ 1 ∷ []) 1 (planned (0 ∷ 2 ∷ []) 4)
    ∷ case_dwell 4 six_lanes (0 ∷ 1 ∷ 2 ∷ 3 ∷ []) (0 ∷ 1 ∷ []) 2 (planned (0 ∷ 3 ∷ []) 5)
    -- side by side: a stretch that is empty until it is widened
    ∷ case_dwell 4 square (0 ∷ 1 ∷ 2 ∷ 3 ∷ []) (0 ∷ 1 ∷ []) 0 (planned (0 ∷ 0 ∷ []) 2)
    ∷ case_dwell 4 square (0 ∷ 1 ∷ 2 ∷ 3 ∷ []) (0 ∷ 1 ∷ []) 1 (planned (0 ∷ 1 ∷ []) 3)
    ∷ case_dwell 4 square (0 ∷ 1 ∷ 2 ∷ 3 ∷ []) (0 ∷ 1 ∷ []) 2 (planned (0 ∷ 2 ∷ []) 4)
    -- one chute behind two starts, and a train
    ∷ case_dwell 4 line4 (0 ∷ 3 ∷ 2 ∷ 3 ∷ []) (0 ∷ 1 ∷ []) 2 (planned (0 ∷ 5 ∷ []) 9)
    ∷ case_dwell 4 line4 (0 ∷ 3 ∷ 0 ∷ 3 ∷ 0 ∷ 3 ∷ []) (0 ∷ 1 ∷ 2 ∷ []) 1 (planned (0 ∷ 2 ∷ 4 ∷ []) 15)
    -- P6, P10 and P3 with the greatest dwell
    ∷ case_dwell 5 line5 (0 ∷ 1 ∷ 3 ∷ 4 ∷ []) (0 ∷ 1 ∷ []) 255 (planned (0 ∷ 0 ∷ []) 2)
    ∷ case_dwell 4 (0 ∷ 1 ∷ 2 ∷ 3 ∷ []) (0 ∷ 1 ∷ 2 ∷ 3 ∷ []) (0 ∷ 1 ∷ []) 255 (planned (0 ∷ 0 ∷ []) 2)
    ∷ case_dwell 2 line2 (0 ∷ 1 ∷ 1 ∷ 0 ∷ []) (0 ∷ 1 ∷ []) 255 (planned (0 ∷ 257 ∷ []) 259)
    ∷ []

abbrev pub there : List ℕ
there = 0 ∷ 1 ∷ 2 ∷ 3 ∷ []

abbrev pub back : List ℕ
back = 3 ∷ 2 ∷ 1 ∷ 0 ∷ []

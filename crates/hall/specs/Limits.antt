-- The limits of a job and the least lengths that follow from them, each with its one name (rules 1.2, 2.6,
-- 5.6 and 9.1). The constants of the type `Job` are the same numbers in code: the promise of `Job::largest`
-- ties the first four to these, and the promise of each function that goes by one of the others ties that.
--     node_limit       a hall has at most 1,024 nodes, and at most so many are closed; a list with a place for
--                     each node has this least length
--     lane_limit       at most 4,096 lanes
--     carrier_limit    at most 64 carriers
--     dwell_limit      a carrier stands on its goal at most 255 ticks longer (rule 1.9)
--     lane_numbers     two numbers for each lane that a hall can have
--     move_numbers     two numbers for each move that a job can have
--     block_length     a place for every two carriers
--     table_length     three such blocks: the distance table
--     goal_block       where the third of them begins
--     text_room        so many bytes hold the text of any job without faults of the listed checks (rule 7.6);
--                     the least length of the output of writing
--     distance_limit   no distance is greater: a shortest path goes over no node twice
--     start_limit w    with dwell w no start tick is greater: at most 63 carriers are before it, and each
--                     starts 1,024 + w ticks after the one before it at the latest
--     goal_limit w     no goal tick is greater: a start tick and a distance
--     last_limit w     no last tick is greater: a goal tick and the dwell
--     cost_limit w     no cost is greater: 64 goal ticks
--     no_walk_mark      the number that stands for "no walk" in the place of a distance
--     largest_job      the counts and the dwell at the limits. Refusal 2 is given past them (Questions.antt)
--     empty_job        the counts of a job without lanes, closed nodes, carriers and dwell; a hall has a node
--                     at least, so it has one
-- The limits of ticks and cost grow with the dwell: with 255 they are 80,577, 81,600, 81,855 and 5,222,400,
-- without dwell 64,512, 65,535, 65,535 and 4,194,240 (`limits_greatest`, `limits_without_dwell`,
-- proofs/DwellLimits.antt).
use Rattle.std.specs.Prelude.{ℕ, ◌+◌, ◌*◌}
use Rattle.hall.specs.declared.Job.{Job}

abbrev pub node_limit : ℕ
node_limit = 1024

abbrev pub lane_limit : ℕ
lane_limit = 4096

abbrev pub carrier_limit : ℕ
carrier_limit = 64

abbrev pub dwell_limit : ℕ
dwell_limit = 255

abbrev pub lane_numbers : ℕ
lane_numbers = 8192

abbrev pub move_numbers : ℕ
move_numbers = 128

abbrev pub block_length : ℕ
block_length = 4096

abbrev pub table_length : ℕ
table_length = 12288

abbrev pub goal_block : ℕ
goal_block = 8192

abbrev pub text_room : ℕ
text_room = 47142

abbrev pub distance_limit : ℕ
distance_limit = 1023

abbrev pub start_limit : (w : ℕ) → ℕ
start_limit w = (node_limit + w) * 63

abbrev pub goal_limit : (w : ℕ) → ℕ
goal_limit w = start_limit w + distance_limit

abbrev pub last_limit : (w : ℕ) → ℕ
last_limit w = goal_limit w + w

abbrev pub cost_limit : (w : ℕ) → ℕ
cost_limit w = carrier_limit * goal_limit w

abbrev pub no_walk_mark : ℕ
no_walk_mark = 65535

abbrev pub largest_job : Job
largest_job = record {
  nodes = node_limit;
  lanes = lane_limit;
  closed = node_limit;
  carriers = carrier_limit;
  dwell = dwell_limit;
}

abbrev pub empty_job : Job
empty_job = record { nodes = 1; lanes = 0; closed = 0; carriers = 0; dwell = 0 }

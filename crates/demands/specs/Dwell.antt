-- When a job is refused for its dwell, said of its numbers (rule 8.2).
--     before_dwell   what is asked before the dwell: the five counts
--     DwellOver      2 at place 5: nothing holds that is asked before, and the dwell is over 255
use Rattle.std.specs.Prelude.{[], ◌∷◌, ◌<◌, length}
use Rattle.hall.specs.Limits.{dwell_limit}
use Rattle.hall.specs.Job.{Numbers, carriers}
use Rattle.hall.specs.Stages.{Question, None}
use Rattle.hall.specs.Questions.{nodes_count, lanes_count, closed_count, carriers_count, order_count}

abbrev pub before_dwell : Numbers → Question
before_dwell j =
    nodes_count j.network.nodes
    ∷ lanes_count (length j.network.lanes)
    ∷ closed_count (length j.network.closed)
    ∷ carriers_count (carriers j)
    ∷ order_count (length j.order) (carriers j)
    ∷ []

pub record DwellOver (j : Numbers) : Type 0 where
  pub none_before : None (before_dwell j)
  pub over : dwell_limit < j.dwell

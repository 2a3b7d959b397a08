-- A job without a fault of its listed checks is served with a table, and what is served with start ticks has
-- them. Assumes nothing.
use mathlib.Core.Path.{refl}
use mathlib.Core.List.{List}
use Prim.Native.Nat.{ℕ, ◌≤◌}
use lib.ListN.{length}
use Rattle.std.specs.Prelude.{Option, Some, None as Nothing, IsSome}
use Rattle.hall.specs.Limits.{table_length}
use Rattle.hall.specs.Job.{Numbers}
use Rattle.hall.specs.Stages.{None}
use Rattle.hall.specs.Questions.{checks_question}
use Rattle.hall.proofs.Sound.{moves_of_none}
use Rattle.tables.specs.Filling.{TableServed}
use Rattle.tables.proofs.Measuring.{moves_served}
use Rattle.ticks.specs.Timing.{TicksServed, said_timed, Timing}
use Rattle.ticks.proofs.Outcome.{never_untimed}

pub filling_served : (j : Numbers) → None (checks_question j) → {room : ℕ} → table_length ≤ room →
    TableServed j.network j.moves room
filling_served j sound = moves_served j (moves_of_none j sound)

pub served_timed : (table order : List ℕ) (dwell : ℕ) (ticks ticks' : List ℕ) (r : Option ℕ) →
    TicksServed table order dwell (length ticks) → Timing table order dwell ticks ticks' (said_timed r) → IsSome r
served_timed table order dwell ticks ticks' (Some cost) served a = refl
served_timed table order dwell ticks ticks' Nothing served a =
    absurd (never_untimed table order dwell ticks ticks' served refl a)

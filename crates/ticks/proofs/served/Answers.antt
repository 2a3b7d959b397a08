-- Where the lengths and the dwell are those that are served, the check of the order decides: passed, it is the last
-- part of `TicksServed`, and a refusal denies that part.
use Rattle.std.proofs.Common.{[], ◌∷◌, List, ℕ, ◌≤◌, length, Result, Ok, Err, arith}
use Rattle.std.specs.Result.{is_ok}
use Rattle.hall.specs.declared.Refusal.{Refusal}
use Rattle.hall.specs.Limits.{carrier_limit, dwell_limit, table_length}
use Rattle.hall.specs.Rule.{Answers}
use Rattle.hall.specs.Said.{Judged}
use Rattle.hall.specs.Questions.{each_order_place}
use Rattle.hall.proofs.Stages.{none_excludes}
use Rattle.ticks.specs.Timing.{TicksServed}
use Rattle.ticks.proofs.served.Goals as goal

by_order : (table order : List ℕ) (dwell room : ℕ) (r : Result Unit Refusal)
    → table_length ≤ length table → length order ≤ carrier_limit → carrier_limit ≤ room → dwell ≤ dwell_limit
    → Judged (each_order_place (length order) order ∷ []) r → Answers (is_ok r) (TicksServed table order dwell room)
by_order table order dwell room (Ok u) whole few enough short judged =
    record {
      listed = record { whole_table = whole; few_places = few; sound_order = judged; enough_room = enough };
      dwell_few = short;
    }
by_order table order dwell room (Err e) whole few enough short judged = λ s. none_excludes judged s.listed.sound_order

pub returns : goal.returns
returns c =
    rw c.is_ok.ensures.value
    (by_order c.args.table.now c.args.order.now c.args.dwell c.args.room c.check_each.result
    (omega arith) (omega arith) (omega arith) (omega arith) c.check_each.ensures)

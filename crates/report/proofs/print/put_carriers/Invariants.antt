-- The invariant of `put_carriers`: the lines of the carriers passed are put.
use Rattle.std.proofs.Common.{get_or}
use Rattle.put.specs.Putting.{Puts}
use Rattle.report.specs.Printed.{carrier_lines}
use Rattle.report.proofs.print.put_carriers.Given as goal

abbrev pub invariant-loop-carrier : goal.invariant-loop-carrier
invariant-loop-carrier l =
    Puts l.initial.text (carrier_lines l.carrier (λ i. get_or l.ticks i 0) (λ i. get_or l.distances i 0)) l.text

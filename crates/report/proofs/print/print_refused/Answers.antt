-- The word and two fields, one behind the other, at the front of the bytes, and zeros behind them; the
-- text fits into 2,048 bytes.
use Rattle.std.proofs.Common.{rules, refl}
use Rattle.put.proofs.Putting.{puts_then}
use Rattle.report.specs.Printing.{RefusedPrinting}
use Rattle.report.proofs.Lines.{refused_parts, refused_fits}
use Rattle.report.proofs.Printing.{put_prints}
use Rattle.report.proofs.print.print_refused.Goals as goal

pub returns : goal.returns
returns c =
    let room = c.if-out-lt-ROOM.false in
    let puts = puts_then c.word.ensures (puts_then c.field.ensures c.field-2.ensures) in
    let text = rw (← refused_parts _ _) at puts in
    let fits = refused_fits c.args.number c.args.line c.ranges.number.fits c.ranges.line.fits in
    RefusedPrinting.whole room (put_prints refl fits room text c.zero_rest.ensures (search rules))

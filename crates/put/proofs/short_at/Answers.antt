-- One to four digits, one behind the other: each of the first three is put where the number has it.
use Rattle.std.proofs.Common.{arith}
use Rattle.put.specs.Putting.{Put}
use Rattle.put.proofs.Digits.{leading, leads, leads_not, leading_digits}
use Rattle.put.proofs.Putting.{put_none, put_then}
use Rattle.put.proofs.short_at.Goals as goal
use Rattle.put.proofs.short_at.Goals.{then-n-ge1000, else-n-ge1000, then-n-ge100, else-n-ge100, then-n-ge10, else-n-ge10}

pub returns : goal.returns
returns c =
    let n = c.args.n in
    let first : Put c.args.out.now c.args.at (leading 1000 n) c.if-n-ge1000.out c.if-n-ge1000.next =
    elim c.if-n-ge1000.branch [
      | then-n-ge1000 w ↦ rw (w.out-is, w.next-is, leads 1000 n (omega arith)) w.digit_at-next.ensures
      | else-n-ge1000 w ↦ rw (w.out-is, w.next-is, leads_not 1000 n (omega arith)) (put_none _ _)
    ] in
    let second : Put c.if-n-ge1000.out c.if-n-ge1000.next (leading 100 n) c.if-n-ge100.out c.if-n-ge100.next =
    elim c.if-n-ge100.branch [
      | then-n-ge100 w ↦ rw (w.out-is, w.next-is, leads 100 n (omega arith)) w.digit_at-next-then-n-ge100.ensures
      | else-n-ge100 w ↦ rw (w.out-is, w.next-is, leads_not 100 n (omega arith)) (put_none _ _)
    ] in
    let third : Put c.if-n-ge100.out c.if-n-ge100.next (leading 10 n) c.if-n-ge10.out c.if-n-ge10.next =
    elim c.if-n-ge10.branch [
      | then-n-ge10 w ↦ rw (w.out-is, w.next-is, leads 10 n (omega arith)) w.digit_at-next-then-n-ge10.ensures
      | else-n-ge10 w ↦ rw (w.out-is, w.next-is, leads_not 10 n (omega arith)) (put_none _ _)
    ] in
    rw (leading_digits n c.requires) (put_then first (put_then second (put_then third c.digit_at.ensures)))

-- The kind that was found says where the byte lies, so that its value is below ten.
use Rattle.std.proofs.Common.{arith}
use Rattle.cursor.specs.declared.bytes.Kind.TheVariants.{Digit}
use Rattle.cursor.proofs.ByteKinds.{lies}
use Rattle.cursor.proofs.Parts.{digit_got}
use Rattle.cursor.proofs.Cursor.digit.Goals as goal

pub overflow_sub-b : goal.overflow_sub-b
overflow_sub-b c = omega (arith, lies _ Digit c.in_ok-b.ensures.of_kind)

pub returns : goal.returns
returns c = rw c.from.ensures (digit_got c.in_ok-b.ensures)

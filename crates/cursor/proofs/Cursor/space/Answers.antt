-- The kind that was found says which byte it is.
use Rattle.std.proofs.Common.{refl}
use Rattle.cursor.specs.declared.bytes.Kind.TheVariants.{Space}
use Rattle.cursor.proofs.ByteKinds.{kind_space, lies}
use Rattle.cursor.proofs.Parts.{byte_on}
use Rattle.cursor.proofs.Cursor.space.Goals as goal

pub returns-in_err-next : goal.returns-in_err-next
returns-in_err-next c =
    rw c.from_residual.ensures (λ rest. c.in_err-next.ensures 32 rest (kind_space 32 refl))

pub returns : goal.returns
returns c = (
  byte_on 32 c.in_ok-next.ensures (lies _ Space c.in_ok-next.ensures.of_kind),
  c.in_ok-next.ensures.same_line,
)

-- The kind that was found says which byte it is.
use Rattle.std.proofs.Common.{refl}
use Rattle.cursor.specs.declared.bytes.Kind.TheVariants.{LineFeed}
use Rattle.cursor.proofs.ByteKinds.{kind_line_feed, lies}
use Rattle.cursor.proofs.Parts.{byte_on}
use Rattle.cursor.proofs.Cursor.line_feed.Goals as goal

pub returns-in_err-next : goal.returns-in_err-next
returns-in_err-next c =
    rw c.from_residual.ensures (λ rest. c.in_err-next.ensures 10 rest (kind_line_feed 10 refl))

pub returns : goal.returns
returns c = (
  byte_on 10 c.in_ok-next.ensures (lies _ LineFeed c.in_ok-next.ensures.of_kind),
  record { within = c.in_ok-next.ensures.within; is_rest = refl; next_line = c.next_line-line.ensures },
)

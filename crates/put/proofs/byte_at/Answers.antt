-- One byte is a store, and beyond the end nothing is put.
use Rattle.std.proofs.Common.{sym, arith}
use Rattle.put.proofs.Putting.{put_store, put_beyond}
use Rattle.put.proofs.byte_at.Goals as goal

pub returns-then-at-out : goal.returns-then-at-out
returns-then-at-out c = record { stand = put_store _ _ _; past_them = omega arith }

pub returns : goal.returns
returns c = record { stand = sym (put_beyond _ _ _ (omega arith)); past_them = omega arith }

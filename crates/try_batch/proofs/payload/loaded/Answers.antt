-- The front of the room holds the numbers.
use Rattle.std.proofs.Common.{take, ap, ◌∙◌}
use Rattle.try_batch.proofs.Payloads.{shorts_front}
use Rattle.try_batch.proofs.payload.loaded.Goals as goal

pub returns : goal.returns
returns c =
    let s = c.args.s.now in
    let count = c.args.count in
    let room = c.args.room.now in
    c.front.ensures ∙ ap (take count) c.load.ensures ∙ shorts_front s room count

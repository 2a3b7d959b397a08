-- When the loop ends all that have room are loaded (`Lists.antt`'s `load_all`).
use Rattle.std.proofs.Common.{ℕ, ◌≡◌, ◌/◌, ◌∙◌, ap, min, length, arith}
use Rattle.records.proofs.Lists.{load_to, load_all}
use Rattle.records.proofs.load_moves.Goals as goal

pub returns : goal.returns
returns c =
    let rs = c.args.records.now in
    let ms = c.args.moves.now in
    let all : c.loop-i.i ≡ min (length rs) (length ms / 2) = omega arith in
    c.loop-i.invariant ∙ ap (λ (k : ℕ). load_to k rs ms) all ∙ load_all rs ms

-- One place more has the value after each turn, and behind the part that is filled the list is as it came.
use Rattle.std.proofs.Common.{◌≡◌, ◌≤◌, ◌<◌, length, take, sym, arith}
use Rattle.std.proofs.lemmas.List.{length-take}
use Rattle.hall.proofs.Left.{front_none, front_more, front_short, front_split, front_least}
use Rattle.hall.proofs.zero.fill_first.Goals as goal

pub loop-place-init : goal.loop-place-init
loop-place-init g c = sym (front_none _ _)

pub loop-place-preserved : goal.loop-place-preserved
loop-place-preserved g c =
    let part = take c.min-end.result c.args.list.now in
    let below : c.loop-place.place-index < length part = omega arith in
    rw c.loop-place.invariant (front_more _ _ part below)

pub returns : goal.returns
returns g c =
    let end = c.min-end.result in
    let list = c.args.list.now in
    let part = take end list in
    let done : c.loop-place.place-index ≡ length part = omega arith in
    let short : length part ≤ end = omega (arith, length-take end list) in
    rw (c.loop-place.invariant, done, front_short c.args.value end part short, front_split c.args.value end list)
    (front_least _ c.args.least end list (λ h. omega arith) (λ h. omega arith))

-- The lane that the sweep comes to is in the list, so a look at it leaves the sweep one lane further.
use Rattle.std.proofs.Common.{◌≡◌, ◌<◌, inl, inr, arith}
use Rattle.hall.specs.Floor.{lanes_in}
use Rattle.walk.specs.Sweep.{lanes_left}
use Rattle.walk.proofs.WalkSweep.{lanes_left_at, sweeping_look}
use Rattle.walk.proofs.sweep.Goals as goal
use Rattle.walk.proofs.sweep.Goals.{Joined-back, then-back, else-back}

-- the lane that the sweep comes to is in the list
here : (c : Joined-back)
    → (c.if-back.k < lanes_in c.args.lanes.now.list.now)
    × (lanes_left (lanes_in c.args.lanes.now.list.now) c.args.back c.if-back.k ≡ c.loop-rest.rest)
here c =
    lanes_left_at (lanes_in c.args.lanes.now.list.now) c.args.back c.loop-rest.rest c.if-back.k (omega arith) (omega (arith, c.loop-rest.invariant.few))
    (elim c.if-back.branch [
      | then-back w ↦ inl (w.if-back.true, w.k-is)
      | else-back w ↦ inr (w.if-back.false, omega (arith, w.k-is))
    ])

pub loop-rest-preserved-then-look : goal.loop-rest-preserved-then-look
loop-rest-preserved-then-look c =
    let lane = here (goal.at.loop-rest-preserved-then-look c).Joined-back in
    sweeping_look c.loop-rest.invariant (omega arith) c.if-back.k lane.0 lane.1 c.requires.wide (rw c.loop-rest.auto.row at c.look.ensures) (rw c.if-look.true (omega arith))

pub loop-rest-preserved : goal.loop-rest-preserved
loop-rest-preserved c =
    let lane = here (goal.at.loop-rest-preserved c).Joined-back in
    sweeping_look c.loop-rest.invariant (omega arith) c.if-back.k lane.0 lane.1 c.requires.wide (rw c.loop-rest.auto.row at c.look.ensures) (rw c.if-look.false)

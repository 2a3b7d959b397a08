-- One carrier of a job without faults: its number is below the carriers' count, and its move by itself has no
-- fault either. Counts, lanes and closed nodes are the job's, stage by stage; the move's ends are open nodes
-- that differ and that a walk joins, since they are so for every carrier of the job. Assumes nothing.
use mathlib.Core.List.{[], ◌∷◌}
use Prim.Native.Nat.{ℕ, suc, ◌<◌}
use native.Mathlib.Omega.{arith}
use Rattle.hall.specs.Job.{Numbers, carriers, start, goal}
use Rattle.hall.specs.Stages.{None}
use Rattle.hall.specs.Questions.{ends, lacking, network_question, checks_question, job_question, move_question}
use Rattle.hall.specs.Questions.{asked_question}
use Rattle.hall.proofs.Compose.{none_at_all, none_append, none_split}
use Rattle.hall.proofs.Places.{asked_clear, none_asked, place_none}
use Rattle.hall.proofs.Sound.{not_above, denied_checks, checks_of_none, walks_of_none}

-- the network of a job without faults has none by itself
network_sound : (j : Numbers) → None (checks_question j) → None (network_question j.network)
network_sound j none =
    let nodes = none.in_turn in
    let lanes = nodes.1 in
    let closed = lanes.1 in
    let Each-lane = closed.1.1.1.1 in
    let each_closed_lem = Each-lane.1 in
    record { in_turn = (nodes.0, (lanes.0, (closed.0, (Each-lane.0, (each_closed_lem.0, tt))))) }

module _ (j : Numbers) (c : ℕ) (none : None (asked_question j c)) where
  job_sound : None (job_question j)
  job_sound = (none_split (job_question j) (lacking (carriers j) c ∷ []) none).0

  pub carrier_there : c < carriers j
  carrier_there =
      let there = (none_asked (none_split (job_question j) (lacking (carriers j) c ∷ []) none).1).0 in
      not_above (carriers j) (suc c) (λ h. there (omega arith))

  pub move_sound : None (move_question j.network (start j c) (goal j c))
  move_sound =
      let checked = checks_of_none j job_sound in
      let facts = denied_checks j checked in
      none_append
      (none_append (network_sound j checked)
      (place_none (ends j.network.nodes j.network.closed (λ i. start j c) (λ i. goal j c)) 0 (
        facts.moves.no_node c carrier_there,
        (facts.moves.same_ends c carrier_there, (facts.moves.closed_end c carrier_there, tt)),
      )))
      (asked_clear (walks_of_none j job_sound c carrier_there) none_at_all)

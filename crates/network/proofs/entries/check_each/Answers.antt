-- How many entries there are goes by the kind of list, and the loop over them answers for their stage.
use Rattle.std.proofs.Common.{◌≡◌, ◌∙◌, rules}
use Rattle.network.specs.Entries.{places_in, checks_in}
use Rattle.network.proofs.EntryKinds.{by_pairs, one_by_one}
use Rattle.network.proofs.EachEntry.{each_judged}
use Rattle.network.proofs.entries.check_each.Goals as goal
use Rattle.network.proofs.entries.check_each.Goals.{in-Lanes, in-Closed}

counted : (c : goal.After-first_refusal) → c.match-which.count ≡ places_in c.args.which c.args.list.now
counted c = elim c.match-which.branch [
  | in-Lanes w ↦ w.count-is ∙ by_pairs c.args.which c.args.list.now w.in-Lanes.is
  | in-Closed w ↦ w.count-is ∙ one_by_one c.args.which c.args.list.now w.in-Closed.is
]

pub returns : goal.returns
returns c =
    let a = c.args in
    let checks = checks_in a.which a.nodes a.carriers a.closed.now a.list.now in
    each_judged checks (places_in a.which a.list.now) (rw (counted c) at c.first_refusal.ensures) (λ k r h. search rules)

-- The first and the last number are tested, and then each step, so that all of the terms of `Walks` are.
use Rattle.std.proofs.Common.{rules, ◌≡◌, ◌∙◌, ◌-◌, sym, length, Some}
use Rattle.std.specs.List.{slice_get}
use borrow.Author.Tests.{tests}
use Rattle.std.proofs.lemmas.Iterator.{cases_from_all}
use Rattle.hall.specs.Floor.{Lane}
use Rattle.hall.proofs.Answers.{true_not_false}
use Rattle.path.proofs.Listed.{walks_told}
use Rattle.path.proofs.StepPairs.{yields_steps, told}
use Rattle.path.proofs.walks.Goals as goal
use Rattle.path.proofs.walks.Goals.{then-eq, else-eq}

pub returns-then-eq-2 : goal.returns-then-eq-2
returns-then-eq-2 c =
    let lanes = c.args.lanes.now in
    let list = c.args.list.now in
    let all =
    cases_from_all _ _ c.all.result (λ p. Lane lanes p.0 p.1) (λ p. ¬ Lane lanes p.0 p.1)
    c.all.ensures.ran (yields_steps list c.windows.ensures.size c.windows.ensures.rest)
    (λ x q k. search (rules, tests)) (λ x q k. search (rules, tests)) in
    let each = told (Lane lanes) list c.all.result all in
    elim c.if-eq.branch [
      | then-eq w ↦
          let first : slice_get list 0 ≡ Some c.args.ends.start = search (rules, tests) in
          let last : slice_get list (length list - 1) ≡ Some c.args.ends.goal = search (rules, tests) in
          walks_told lanes list first last c.all.result each
      | else-eq w ↦ absurd (true_not_false (sym (c.if-eq-2.true) ∙ w.value-is ∙ w.if-eq.false))
    ]

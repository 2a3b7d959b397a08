-- A carrier's number that stands among the entries before it stands earlier, and one that does not has no fault.
use Rattle.std.proofs.Common.{◌≡◌, sym, ◌∙◌, Bool, true, false, refl, List, ℕ, ◌<◌, length, get_or, take, arith}
use Rattle.std.specs.Bool.{Decides}
use Rattle.std.specs.List.{HoldsAt}
use Rattle.std.proofs.lemmas.Bool.Decides.{Decides-eqb}
use Rattle.std.proofs.lemmas.List.{get_or_default, get_or-take, length-take-le}
use Rattle.std.proofs.lemmas.List.Elements.{contains_decides}
use Rattle.std.proofs.Math.Dec.{eqb}
use Rattle.hall.specs.Rule.{Answers}
use Rattle.hall.proofs.Answers.{true_not_false}
use Rattle.hall.specs.Refusals.{BadOrder-at, no_carrier, stands_earlier}
use Rattle.network.proofs.checks.order_fault.Goals as goal

-- the entry at place p among those before it
abbrev Among : (order : List ℕ) (p : ℕ) → Type 0
Among order p = (q : ℕ) × (q < length (take p order)) × HoldsAt (λ y. y ≡ get_or order p 0) (take p order) q

module _ (count : ℕ) (order : List ℕ) (p : ℕ) (inside : p < length order) (carrier : get_or order p 0 < count) where
  earlier_bad : Among order p → BadOrder-at count order p
  earlier_bad a =
      let before : a.0 < p = omega (arith, a.1, length-take-le p order) in
      stands_earlier before (sym (get_or-take p order a.0 0 before) ∙ a.2 0)

  entry_sound : ¬ Among order p → ¬ BadOrder-at count order p
  entry_sound none (no_carrier h) = omega arith
  entry_sound none (stands_earlier {q = q} h same) =
      let among : q < length (take p order) = omega (arith, length-take-le p order) in
      none (q, among, λ d. get_or_default (take p order) q d 0 among ∙ get_or-take p order q 0 h ∙ same)

  told : (b : Bool) → Decides b (Among order p) → Answers b ((p < length order) × BadOrder-at count order p)
  told true d = (inside, earlier_bad (d.0 refl))
  told false d = λ f. entry_sound (λ a. true_not_false (sym (d.1 a))) f.1

pub returns-else-carrier-carriers : goal.returns-else-carrier-carriers
returns-else-carrier-carriers c =
    let a = c.args in
    told a.carriers a.order.now a.p c.if-p-order.false c.if-carrier-carriers.false c.contains.result
    (contains_decides eqb Decides-eqb (take a.p a.order.now) (get_or a.order.now a.p 0) c.contains.result c.contains.ensures.cases)

-- A job has one outcome: two that the definitions give of it are equal. Two plans agree on the ticks of every
-- carrier and on the cost (`plan_unique`), and a tick list has one tick a carrier, so the lists are equal; of
-- two first faults both number and place agree (`first_unique`); and a job without faults has no first one.
-- With `all_cases` (Cases.antt) each line of the table is therefore the only outcome of its job. Assumes
-- nothing.
use mathlib.Core.Path.{◌≡◌, sym, ◌∙◌}
use lib.ListN.{get_or}
use lib.Seq.{ext_get_or}
use Rattle.hall.specs.Job.{Numbers, carriers}
use Rattle.hall.specs.Said.{accepted, refused}
use Rattle.cases.specs.Case.{Schedule, Outcome, Accepted, Gives}
use Rattle.hall.proofs.Stages.{first_unique, none_excludes}
use Rattle.hall.proofs.Sound.{checks_of_none}
use Rattle.hall.proofs.PlanLaws.{SamePlan, plan_unique}

module _ (j : Numbers) where
  accepted_unique : (s s' : Schedule) → Accepted j s → Accepted j s' → (s.ticks ≡ s'.ticks) × (s.cost ≡ s'.cost)
  accepted_unique s s' a b = (
    ext_get_or 0 s.ticks s'.ticks (a.one_each ∙ sym b.one_each) (λ i h. same.ticks i (rw a.one_each at h)),
    same.costs,
  )
    where
      same : SamePlan (carriers j)
          a.tables (λ i. get_or s.ticks i 0) s.cost b.tables (λ i. get_or s'.ticks i 0) s'.cost
      same =
          plan_unique j (checks_of_none j a.no_fault) a.tables b.tables
          (λ i. get_or s.ticks i 0) (λ i. get_or s'.ticks i 0) s.cost s'.cost a.plan b.plan

  pub outcome_unique : (o o' : Outcome) → Gives j o → Gives j o' → o ≡ o'
  outcome_unique (accepted s) (accepted s') a b =
      let e = accepted_unique s s' a b in
      λ i. accepted (record { ticks = e.0 i; cost = e.1 i })
  outcome_unique (accepted s) (refused n p) a b = absurd (none_excludes b a.no_fault)
  outcome_unique (refused n p) (accepted s) a b = absurd (none_excludes a b.no_fault)
  outcome_unique (refused n p) (refused m q) a b = let e = first_unique a b in λ i. refused (e.0 i) (e.1 i)

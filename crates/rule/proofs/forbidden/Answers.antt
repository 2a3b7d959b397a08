-- The signed rule is the rule with additions only (`forbidden_iff`), and the first four tests are its parts: one that
-- fails excludes it. Where they all pass, the rule forbids but for the exception, which there is without dwell only.
use Rattle.std.proofs.Common.{arith, rules, pos, ◌-ℤ◌, ◌≡◌, Bool, true, false, not}
use Rattle.hall.specs.Rule.{Forbidden, Excepted⁺, Answers}
use Rattle.hall.proofs.Rules.{forbidden_iff}
use Rattle.rule.specs.Held.{pair_in}
use Rattle.rule.proofs.forbidden.Goals as goal
use Rattle.rule.proofs.forbidden.Goals.{then-pair-via-then-pair, then-pair-via-else-pair+then-starts_goals-owns, then-pair-via-else-pair+else-starts_goals-owns+then-low-low_end, then-pair-via-else-pair+else-starts_goals-owns+else-low-low_end+then-high-high_end, Else-high-high_end}

pub returns-then-pair : goal.returns-then-pair
returns-then-pair c = λ f.
    let g = (forbidden_iff c.args.dwell (pair_in c.args.pair) c.args.ti c.args.tj).0 f in
    elim c.then-pair.branch [
      | then-pair-via-then-pair w ↦ omega arith
      | then-pair-via-else-pair+then-starts_goals-owns w ↦ omega arith
      | then-pair-via-else-pair+else-starts_goals-owns+then-low-low_end w ↦ omega arith
      | then-pair-via-else-pair+else-starts_goals-owns+else-low-low_end+then-high-high_end w ↦ omega arith
    ]

-- past the four tests, the rule forbids where the exception does not hold
but_excepted : (c : Else-high-high_end) → (c.args.dwell ≡ 0 → ¬ Excepted⁺ (pair_in c.args.pair) c.args.ti c.args.tj)
    → Forbidden c.args.dwell (pair_in c.args.pair) (pos c.args.tj -ℤ pos c.args.ti)
but_excepted c none = (forbidden_iff c.args.dwell (pair_in c.args.pair) c.args.ti c.args.tj).1
    (record {
      joined = omega arith;
      gap_not_above = omega arith;
      low = omega arith;
      high = omega arith;
      not_excepted = none;
    })

-- an answer turned round
turned : (r : Bool) {A B : Type 0} → Answers r A → (¬ A → B) → (A → ¬ B) → Answers (not r) B
turned true a f g = g a
turned false a f g = f a

pub returns-then-dwell-gt0 : goal.returns-then-dwell-gt0
returns-then-dwell-gt0 c =
    let f = but_excepted (goal.at.returns-then-dwell-gt0 c).Else-high-high_end (λ z. omega arith) in search rules

pub returns-else-dwell-gt0 : goal.returns-else-dwell-gt0
returns-else-dwell-gt0 c =
    turned c.excepted.result c.excepted.ensures
    (λ n. but_excepted (goal.at.returns-else-dwell-gt0 c).Else-high-high_end (λ z. n))
    (λ e f. let g = (forbidden_iff c.args.dwell (pair_in c.args.pair) c.args.ti c.args.tj).0 f in
    g.not_excepted (omega arith) e)

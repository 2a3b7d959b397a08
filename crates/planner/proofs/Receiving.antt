-- What comes before the table. A list that is short is the first fault, and nothing is touched. Otherwise the
-- lists are cleared, and the first of the listed checks is the first fault: it is not 9, so that it leaves
-- the lists as they are then. A refusal here is one of planning, which asks for 8 behind it. Assumes nothing.
--     same_lent           lent lists are the same if each is
--     short_received      9 is answered
--     checked_received    past 9, what the checks answer is answered
--     received_refuses    what a refusal tells: the plan is refused
use mathlib.Core.Path.{◌≡◌, refl, sym, ◌∙◌, ap}
use mathlib.Core.List.{[], ◌∷◌}
use Prim.Native.Nat.{ℕ}
use native.Mathlib.Omega.{arith}
use Rattle.hall.specs.declared.Refusal.{Refusal}
use Rattle.std.specs.Prelude.{Result, Ok, Err}
use Rattle.hall.specs.Limits.{carrier_limit, table_length}
use Rattle.hall.specs.Numbers.{number_of}
use Rattle.hall.specs.Job.{Numbers}
use Rattle.hall.specs.Said.{said_checked, Judged}
use Rattle.hall.specs.Questions.{each_walk, checks_question}
use Rattle.hall.proofs.Compose.{first_before}
use Rattle.hall.proofs.Places.{asked_here, asked_later, asked_clear}
use Rattle.hall.proofs.Left.{NotNine, left_by_other, first_among}
use Rattle.planner.specs.Planning.{Lent, ShortOf, NumbersRefused}
use Rattle.planner.specs.Receiving.{cleared_of, left_of, ReceivedRefused, Receiving}

pub same_lent : {u v : Lent} → u.table ≡ v.table → u.distances ≡ v.distances → u.ticks ≡ v.ticks → u ≡ v
same_lent t d k = λ i. record { table = t i; distances = d i; ticks = k i }

-- what is not refused with 9 is cleared
left_cleared : (n : ℕ) (l : Lent) → NotNine n → left_of n l ≡ cleared_of l
left_cleared n l other =
    same_lent (left_by_other n table_length l.table other)
    (left_by_other n carrier_limit l.distances other)
    (left_by_other n carrier_limit l.ticks other)

module _ (j : Numbers) (l : Lent) where
  pub short_received : ShortOf l → ReceivedRefused j l l 9 0
  short_received short = record { first = asked_here short; lists_left = refl }

  pub checked_received : ¬ ShortOf l → {m : Lent} → m ≡ cleared_of l →
      (c : Result Unit Refusal) → Judged (checks_question j) c → Receiving j l m (said_checked c)
  checked_received roomy e (Ok u) none = record { no_fault = asked_clear roomy none; lists_left = e }
  checked_received roomy e (Err r) first = record {
    first = asked_later roomy first;
    lists_left =
        e ∙ sym (left_cleared (number_of r.fault) l (first_among NotNine {q = checks_question j} (omega arith) first));
  }

module _ {j : Numbers} {before after : Lent} {c : Result Unit Refusal} where
  pub received_refuses : {r : Refusal} → c ≡ Err r → Receiving j before after (said_checked c) →
      NumbersRefused j before after (number_of r.fault) r.place
  received_refuses {r} e a =
      let refused : ReceivedRefused j before after (number_of r.fault) r.place = rw e at a in
      record {
        first = first_before (each_walk j.network j.moves ∷ []) refused.first;
        table_left = ap (λ (l : Lent). l.table) refused.lists_left;
        distances_left = ap (λ (l : Lent). l.distances) refused.lists_left;
        ticks_left = ap (λ (l : Lent). l.ticks) refused.lists_left;
      }

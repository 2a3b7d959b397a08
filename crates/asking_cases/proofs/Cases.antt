-- The cases of the question whether a move may go at a tick hold (rule 11.24), and what easy errors would
-- answer (rule 11.25) does not: each is one table, by one test of a call with what is said. A line of a
-- table costs no proof of its own. A call has one answer (`asking_unique` of admission), so each line is the
-- only one of its call. Assumes nothing.
--     right?, wrong?   the guessed labels are true, and what is said is what the definitions give, or is not
--     line k           line k of the cases, from 0
use mathlib.Core.Path.{◌≡◌}
use mathlib.Core.List.{[]}
use Prim.Native.Nat.{ℕ, ◌<◌}
use lib.ListN.{length, get_or}
use Rattle.hall.specs.Said.{Said}
use Rattle.admission.specs.Asking.{Verdict}
use Rattle.admission.proofs.Asking.{asking_unique}
use Rattle.book_cases.specs.Case.{book, hall5}
use Rattle.asking_cases.specs.Case.{AskingCase, GivesAsking, HoldsAsking, asking, may_go, asking_cases}
use Rattle.asking_cases.specs.Errors.{wrong_askings}
use Rattle.hall.proofs.Test.{Test, not?, ◌then?◌, all?}
use Rattle.book_cases.proofs.AdmissionTests.{Known}
use Rattle.asking_cases.proofs.AskingTests.{call_of, sure?, asking?}

abbrev pub no_asking : AskingCase
no_asking = asking (hall5 []) (book 0 0 []) 0 0 4 may_go

abbrev pub right? : (c : AskingCase) → Test (Known (call_of c) × HoldsAsking c)
right? c = sure? c then? λ k. asking? c k c.said

abbrev pub wrong? : (c : AskingCase) → Test (Known (call_of c) × (¬ HoldsAsking c))
wrong? c = sure? c then? λ k. not? (asking? c k c.said)

abbrev pub line : ℕ → AskingCase
line k = get_or asking_cases k no_asking

-- ---- the cases (rule 11.24)

pub all_asking_cases : (k : ℕ) → k < length asking_cases → HoldsAsking (line k)
unfolding asking_cases
all_asking_cases k h = ((all? (λ k. right? (line k)) (length asking_cases)).sound tt k h).1

pub only_asking : (k : ℕ) → k < length asking_cases → (o : Said Verdict) → GivesAsking (line k) o
    → o ≡ (line k).said
only_asking k h o a = asking_unique (line k).network o (line k).said a (all_asking_cases k h)

-- ---- errors that come easily (rule 11.25)

pub no_wrong_asking : (k : ℕ) → k < length wrong_askings → ¬ HoldsAsking (get_or wrong_askings k no_asking)
unfolding wrong_askings
no_wrong_asking k h =
    ((all? (λ k. wrong? (get_or wrong_askings k no_asking)) (length wrong_askings)).sound tt k h).1

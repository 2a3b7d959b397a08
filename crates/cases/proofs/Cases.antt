-- The cases P1 to P11, of shared ends, of closed nodes and of carriers that wait hold, the outcomes that easy
-- errors would give do not (rules 11.13 and 11.17), and where several faults hold of a job the order of the
-- checks decides (rule 8.22): each is one table, by one test of a job with an outcome. A line of a table
-- costs no proof of its own. Assumes nothing.
--     cases           P1 to P11; shared_cases carriers that share an end; closed_cases halls with closed
--                     nodes; dwell_cases carriers that wait (specs/Case.antt)
--     wrong_cases     what easy errors would give (specs/Errors.antt); refusal_cases the order of the checks
--                     (specs/Refusals.antt)
use mathlib.Core.List.{[]}
use Prim.Native.Nat.{ℕ, ◌<◌}
use lib.ListN.{length, get_or}
use Rattle.hall.specs.Ticks.{total}
use Rattle.hall.proofs.Test.{Test, not?, ◌then?◌, all?}
use Rattle.cases.specs.Case.{planned, Case, Holds, case, cases, shared_cases, closed_cases, dwell_cases}
use Rattle.cases.specs.Errors.{wrong_cases}
use Rattle.cases.specs.Refusals.{refusal_cases}
use Rattle.cases.proofs.JobTests.{Labelled, labelled?, gives?}

abbrev pub no_case : Case
no_case = case 0 [] [] [] (planned [] 0)

-- the guessed distances of the job are true, and the outcome is what the definitions give
abbrev pub right? : (c : Case) → Test (Labelled c.job × Holds c)
right? c = labelled? c.job then? λ l. gives? c.job l c.outcome

-- the guessed distances of the job are true, and the outcome is not what the definitions give
abbrev pub wrong? : (c : Case) → Test (Labelled c.job × (¬ Holds c))
wrong? c = labelled? c.job then? λ l. not? (gives? c.job l c.outcome)

-- ---- P1 to P11

pub all_cases : (k : ℕ) → k < length cases → Holds (get_or cases k no_case)
unfolding cases total
all_cases k h = ((all? (λ k. right? (get_or cases k no_case)) (length cases)).sound tt k h).1

-- ---- shared lifts and chutes (rule 11.14)

pub all_shared_cases : (k : ℕ) → k < length shared_cases → Holds (get_or shared_cases k no_case)
unfolding shared_cases total
all_shared_cases k h = ((all? (λ k. right? (get_or shared_cases k no_case)) (length shared_cases)).sound tt k h).1

-- ---- closed nodes (rule 11.15)

pub all_closed_cases : (k : ℕ) → k < length closed_cases → Holds (get_or closed_cases k no_case)
unfolding closed_cases total
all_closed_cases k h = ((all? (λ k. right? (get_or closed_cases k no_case)) (length closed_cases)).sound tt k h).1

-- ---- carriers that wait (rule 11.16)

pub all_dwell_cases : (k : ℕ) → k < length dwell_cases → Holds (get_or dwell_cases k no_case)
unfolding dwell_cases total
all_dwell_cases k h = ((all? (λ k. right? (get_or dwell_cases k no_case)) (length dwell_cases)).sound tt k h).1

-- ---- errors that come easily (rules 11.13 and 11.17)

pub no_wrong_case : (k : ℕ) → k < length wrong_cases → ¬ Holds (get_or wrong_cases k no_case)
unfolding wrong_cases total
no_wrong_case k h = ((all? (λ k. wrong? (get_or wrong_cases k no_case)) (length wrong_cases)).sound tt k h).1

-- ---- the order of the checks of a job (rule 8.22)

pub refusals_in_order : (k : ℕ) → k < length refusal_cases → Holds (get_or refusal_cases k no_case)
unfolding refusal_cases total
refusals_in_order k h = ((all? (λ k. right? (get_or refusal_cases k no_case)) (length refusal_cases)).sound tt k h).1

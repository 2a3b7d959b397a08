-- The cases of the floor book hold (rule 11.18), those at a limit and those with several faults too (rule
-- 8.31), and the outcomes that easy errors would give do not (rule 11.19): each is one table, by one test of
-- a call with an outcome. A line of a table costs no proof of its own. That each line of the day has the book
-- that the line before left is computed too. Assumes nothing.
--     right?, wrong?   the guessed labels are true, and the outcome is what the definitions give, or is not
--     line k           line k of the cases, from 0
--     GoesOn k         it leaves the book of the line behind it
use mathlib.Core.Path.{◌≡◌}
use mathlib.Core.List.{[]}
use Prim.Native.Nat.{ℕ, suc, ◌<◌}
use lib.ListN.{length, get_or}
use Rattle.slots.specs.Record.{forgotten, forgetting}
use Rattle.book_cases.specs.Case.{Case, Holds, case, book, entry, starts, hall5, book_cases}
use Rattle.book_cases.specs.Refusals.{refused_book_cases}
use Rattle.book_cases.specs.Errors.{wrong_book_cases}
use Rattle.hall.proofs.Test.{Test, not?, ◌then?◌, all?}
use Rattle.book_cases.proofs.AdmissionTests.{Known, known?, gives?, leaves}

abbrev pub no_case : Case
no_case = case (hall5 []) (book 0 0 []) 0 0 4 (starts 0 0)

abbrev pub right? : (c : Case) → Test (Known c × Holds c)
right? c = known? c then? λ k. gives? c k c.outcome

abbrev pub wrong? : (c : Case) → Test (Known c × (¬ Holds c))
wrong? c = known? c then? λ k. not? (gives? c k c.outcome)

-- ---- the cases (rule 11.18)

pub all_book_cases : (k : ℕ) → k < length book_cases → Holds (get_or book_cases k no_case)
unfolding book_cases forgetting forgotten
all_book_cases k h = ((all? (λ k. right? (get_or book_cases k no_case)) (length book_cases)).sound tt k h).1

-- ---- at the limits, and the order of the checks (rule 8.31)

pub book_checks_in_order : (k : ℕ) → k < length refused_book_cases → Holds (get_or refused_book_cases k no_case)
unfolding refused_book_cases forgetting forgotten
book_checks_in_order k h =
    ((all? (λ k. right? (get_or refused_book_cases k no_case)) (length refused_book_cases)).sound tt k h).1

-- ---- errors that come easily (rule 11.19)

pub no_wrong_book_case : (k : ℕ) → k < length wrong_book_cases → ¬ Holds (get_or wrong_book_cases k no_case)
unfolding wrong_book_cases forgetting forgotten
no_wrong_book_case k h =
    ((all? (λ k. wrong? (get_or wrong_book_cases k no_case)) (length wrong_book_cases)).sound tt k h).1

-- ---- the day, line by line

abbrev pub line : ℕ → Case
line k = get_or book_cases k no_case

abbrev pub GoesOn : ℕ → Type 0
GoesOn k = (h : Holds (line k)) → h.left ≡ (line (suc k)).book

pub day_goes_on : (GoesOn 0 × GoesOn 1) × (GoesOn 3 × GoesOn 4)
unfolding book_cases forgetting forgotten
day_goes_on = (
  (leaves (line 0) ((known? (line 0)).sound tt) (entry 0 0), leaves (line 1) ((known? (line 1)).sound tt) (entry 5 1)),
  (leaves (line 3) ((known? (line 3)).sound tt) (entry 0 0), leaves (line 4) ((known? (line 4)).sound tt) (entry 7 1)),
)

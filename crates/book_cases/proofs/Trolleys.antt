-- The cases of a trolley hold (rule 11.20), and the outcomes that easy errors would give (rule 11.21) do not:
-- each is one table, by one test of a call with an outcome. A line of a table costs no proof of its own.
-- Assumes nothing.
--     answersTo       the answers guessed to the calls of a trolley
--     right-by?, wrong-by?   the answers of a list are given, and the outcome is what the definitions give,
--                     or is not
--     right-trolley?, wrong-trolley?   the same by the answers guessed
use mathlib.Core.List.{List, []}
use Prim.Native.Nat.{ℕ, ◌<◌}
use lib.ListN.{length, get_or}
use Rattle.hall.specs.Job.{move_count}
use Rattle.hall.specs.Left.{with_front, filled}
use Rattle.hall.specs.Said.{Said}
use Rattle.slots.specs.Record.{forgotten, forgetting}
use Rattle.admission.specs.declared.Entry.{Entry}
use Rattle.admission.specs.Trolley.{all}
use Rattle.book_cases.specs.Case.{book, hall5}
use Rattle.book_cases.specs.Trolleys.{TrolleyCase, HoldsTrolley, trolley, trolley_cases}
use Rattle.book_cases.specs.TrolleyErrors.{wrong_trolley_cases}
use Rattle.hall.proofs.Test.{Test, not?, ◌then?◌, all?}
use Rattle.book_cases.proofs.TrolleyTests.{guesses, Sure, sure?, gives-trolley?}

module _ (c : TrolleyCase) where
  abbrev pub answersTo : List (Said Entry)
  answersTo = guesses c (move_count c.moves) 0 c.book

  abbrev pub right-by? : (l : List (Said Entry)) → Test (Sure c l × HoldsTrolley c)
  right-by? l = sure? c l then? λ s. gives-trolley? c l s c.outcome

  abbrev pub wrong-by? : (l : List (Said Entry)) → Test (Sure c l × (¬ HoldsTrolley c))
  wrong-by? l = sure? c l then? λ s. not? (gives-trolley? c l s c.outcome)

  abbrev pub right-trolley? : Test (Sure c answersTo × HoldsTrolley c)
  right-trolley? = right-by? answersTo

  abbrev pub wrong-trolley? : Test (Sure c answersTo × (¬ HoldsTrolley c))
  wrong-trolley? = wrong-by? answersTo

abbrev pub no_trolley : TrolleyCase
no_trolley = trolley (hall5 []) (book 0 0 []) 0 [] all [] (book 0 0 [])

-- ---- the cases

pub all_trolley_cases : (k : ℕ) → k < length trolley_cases → HoldsTrolley (get_or trolley_cases k no_trolley)
unfolding trolley_cases forgetting forgotten filled with_front
all_trolley_cases k h =
    ((all? (λ k. right-trolley? (get_or trolley_cases k no_trolley)) (length trolley_cases)).sound tt k h).1

-- ---- errors that come easily

pub no_wrong_trolley_case : (k : ℕ) → k < length wrong_trolley_cases
    → ¬ HoldsTrolley (get_or wrong_trolley_cases k no_trolley)
unfolding wrong_trolley_cases forgetting forgotten filled with_front
no_wrong_trolley_case k h =
    ((all? (λ k. wrong-trolley? (get_or wrong_trolley_cases k no_trolley)) (length wrong_trolley_cases)).sound tt k h).1

-- What writing a job is refused with (rule 8.30): 9, or one of the listed checks of a job, and never 8. So a
-- job is written exactly if the output is long enough and the job is well formed, and one that planning
-- refuses with 8 is written. Assumes nothing.
--     writing_decided     of every job, writing has no fault or one first fault
--     writing_numbers     it is one of 2 to 5, 7, 9, 12 and 13
--     eight_not_asked     no job is refused with 8
--     written_iff         there is no fault exactly if the output is long enough and the job is well formed
--     odd_lanes_refused   a lane list of odd length is refused with 2 at place 1
--     unreached_written   there is none of a job that planning refuses with 8, if the output is long enough
use mathlib.Core.Path.{◌≡◌, refl}
use mathlib.Core.Logic.{◌⊎◌, inl, inr, ◌↔◌, ◌≢◌}
use mathlib.Core.List.{[], ◌∷◌}
use Prim.Native.Nat.{ℕ, ◌%◌, ◌≤◌, ◌<◌}
use native.Mathlib.Omega.{arith}
use lib.ListN.{length}
use Rattle.hall.specs.Limits.{node_limit}
use Rattle.hall.specs.Job.{Numbers}
use Rattle.hall.specs.Stages.{FirstOf, here, later, First, None}
use Rattle.hall.specs.Questions.{each_walk, checks_question, job_question, writing}
use Rattle.hall.specs.WellFormed.{WellFormed}
use Rattle.hall.proofs.Stages.{Decided, decided_more}
use Rattle.hall.proofs.Compose.{first_split}
use Rattle.hall.proofs.Places.{asked_settled, asked_here, asked_later, asked_clear, none_asked}
use Rattle.hall.proofs.Left.{first_among}
use Rattle.hall.proofs.Complete.{checks_decided}
use Rattle.hall.proofs.WellFormed.{well_formed_iff}

module _ {Short : Type 0} (j : Numbers) where
  pub writing_decided : Dec Short → Decided (writing Short j)
  writing_decided short? = decided_more (asked_settled short?) (checks_decided j)

  pub writing_numbers : {n p : ℕ} → First (writing Short j) n p →
      (2 ≤ n) × (n ≤ 13) × (n ≢ 6) × (n ≢ 8) × (n ≢ 10) × (n ≢ 11)
  writing_numbers h = (
    first_among (λ n. 2 ≤ n) (omega arith) h,
    first_among (λ n. n ≤ 13) (omega arith) h,
    first_among (λ n. n ≢ 6) (omega arith) h,
    first_among (λ n. n ≢ 8) (omega arith) h,
    first_among (λ n. n ≢ 10) (omega arith) h,
    first_among (λ n. n ≢ 11) (omega arith) h,
  )

  pub eight_not_asked : {p : ℕ} → ¬ First (writing Short j) 8 p
  eight_not_asked h = first_among (λ n. n ≢ 8) (omega arith) h refl

  pub written_iff : None (writing Short j) ↔ ((¬ Short) × WellFormed j)
  written_iff = (
    λ n. ((none_asked n).0, (well_formed_iff j).0 (none_asked n).1),
    λ w. asked_clear w.0 ((well_formed_iff j).1 w.1),
  )

  pub odd_lanes_refused : ¬ Short → (1 ≤ j.network.nodes) × (j.network.nodes ≤ node_limit) →
      length j.network.lanes % 2 ≡ 1 → First (writing Short j) 2 1
  odd_lanes_refused long nodes odd = asked_later long (asked_later (few nodes) (asked_here (inr odd)))
    where
      few : {n : ℕ} → (1 ≤ n) × (n ≤ node_limit) → ¬ ((n < 1) ⊎ (node_limit < n))
      few h (inl x) = omega arith
      few h (inr x) = omega arith

  pub unreached_written : {p : ℕ} → ¬ Short → First (job_question j) 8 p → None (writing Short j)
  unreached_written {p} long h = cases (first_split (checks_question j) (each_walk j.network j.moves ∷ []) h)
    where
      cases : FirstOf (First (checks_question j) 8 p) (None (checks_question j)) (First (each_walk j.network j.moves ∷ []) 8 p)
          → None (writing Short j)
      cases (here x) = absurd (first_among (λ n. n ≢ 8) (omega arith) x refl)
      cases (later none x) = asked_clear long none

-- Jobs on one network, with one dwell and more than 64 carriers, are refused alike, whatever moves they have
-- (hall's `crowded_job_alike`), so each question of this crate has one answer for all of them. A caller that
-- lends a longer list of records may therefore put the first 65 of them only. Assumes nothing.
--     crowded_house, crowded_list    what is answered of one such job may be answered of another
use mathlib.Core.List.{List, [], ◌∷◌}
use Prim.Native.Nat.{ℕ, ◌<◌}
use lib.ListN.{length}
use Rattle.std.specs.Prelude.{Result}
use Rattle.hall.specs.declared.Refusal.{Refusal}
use Rattle.hall.specs.Limits.{node_limit, carrier_limit}
use Rattle.hall.specs.Floor.{Network}
use Rattle.hall.specs.Job.{job_of, move_count, start_in, goal_in}
use Rattle.hall.specs.Stages.{None}
use Rattle.hall.specs.Said.{Said, accepted, refused, Judged}
use Rattle.hall.specs.Questions.{each_walk, short_table, lacking, unfit, asked_question, house_of_job, list_of_job}
use Rattle.hall.proofs.Compose.{◌⇒◌, ⇒-judged}
use Rattle.hall.proofs.Places.{none_asked}
use Rattle.hall.proofs.Crowded.{⇒-behind, crowded_job, crowded_job_alike}
use Rattle.path.specs.Paths.{Unfit, HouseLeft}

module _ (N : Network) (order : List ℕ) (dwell : ℕ) (moves moves' : List ℕ)
    (many : carrier_limit < move_count moves) (many' : carrier_limit < move_count moves') (c : ℕ) where
  asked_alike : asked_question (job_of N moves order dwell) c ⇒ asked_question (job_of N moves' order dwell) c
  asked_alike =
      crowded_job_alike N
      moves order dwell (each_walk N moves ∷ lacking (move_count moves) c ∷ []) many
      moves' order (each_walk N moves' ∷ lacking (move_count moves') c ∷ []) many'

  not_housed : {Short : Type 0} → ¬ None (house_of_job Short (job_of N moves order dwell) c)
  not_housed none =
      crowded_job N moves order dwell (each_walk N moves ∷ lacking (move_count moves) c ∷ []) many
      (none_asked none).1

  pub crowded_house : (path path' : List ℕ) (a : Said ℕ)
      → HouseLeft (house_of_job (length path < node_limit) (job_of N moves order dwell) c)
      N (start_in moves c) (goal_in moves c) path path' a
      → HouseLeft (house_of_job (length path < node_limit) (job_of N moves' order dwell) c)
      N (start_in moves' c) (goal_in moves' c) path path' a
  crowded_house path path' (accepted count) h = absurd (not_housed h.0)
  crowded_house path path' (refused n p) h =
      ((⇒-behind (short_table (length path < node_limit)) asked_alike).firsts n p h.0, h.1)

  pub crowded_list : (list : List ℕ) (r : Result Unit Refusal)
      → Judged (list_of_job (job_of N moves order dwell) c
      (Unfit N (start_in moves c) (goal_in moves c) list)) r
      → Judged (list_of_job (job_of N moves' order dwell) c
      (Unfit N (start_in moves' c) (goal_in moves' c) list)) r
  crowded_list list =
      ⇒-judged
      (crowded_job_alike N
      moves order dwell (each_walk N moves ∷ lacking (move_count moves) c ∷ unfit (misfit moves) ∷ []) many
      moves' order (each_walk N moves' ∷ lacking (move_count moves') c ∷ unfit (misfit moves') ∷ []) many')
    where
      misfit : List ℕ → Type 0
      misfit moves = Unfit N (start_in moves c) (goal_in moves c) list

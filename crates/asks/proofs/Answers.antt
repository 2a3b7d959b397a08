-- The answers put together. A job without faults leaves the question with the carrier's move, which has no
-- fault of its own. So the question with the move never refuses the house path, and it refuses a list for one
-- reason alone, that it is no shortest path: that is 11, the last stage of the whole. The house path is a
-- shortest path, so the question about one list finds it sound. Assumes nothing.
--     judged_rest    where a is sound, what a ++ b answers is what b answers
use mathlib.Core.Path.{◌≡◌}
use mathlib.Core.List.{List, [], ◌∷◌, ◌++◌}
use Prim.Native.Nat.{ℕ, ◌≤◌, ◌<◌}
use native.Mathlib.Omega.{arith}
use lib.ListN.{length, take}
use Rattle.std.specs.Prelude.{Result, Ok, Err}
use Rattle.hall.specs.declared.Refusal.{Refusal}
use Rattle.hall.specs.Limits.{node_limit}
use Rattle.hall.specs.Job.{Numbers, start, goal}
use Rattle.hall.specs.Stages.{Question, here, later, None}
use Rattle.hall.specs.Said.{Said, accepted, refused, Judged}
use Rattle.hall.specs.Questions.{unfit, move_question, house_of_move, list_of_move}
use Rattle.hall.specs.Questions.{asked_question, house_of_job, list_of_job}
use Rattle.hall.proofs.Stages.{none_excludes, judged_unique}
use Rattle.hall.proofs.Compose.{none_at_all, none_append, none_split, first_split, judged_after}
use Rattle.hall.proofs.Places.{asked_clear, none_asked}
use Rattle.path.specs.Paths.{Unfit, HouseLeft, Passes}
use Rattle.path.proofs.Housing.{left_accepted}
use Rattle.path.proofs.Agree.{house_passes}
use Rattle.asks.specs.Asked.{HouseAsked, ListAsked}
use Rattle.asks.proofs.OneOfJob.{move_sound}

-- ---- the house path

module _ (j : Numbers) (c : ℕ) (path path' : List ℕ) (room : node_limit ≤ length path)
    (none : None (asked_question j c)) where
  -- the question with the carrier's move answers for the job
  pub house_of_move_lem : (a : Said ℕ)
      → HouseLeft (house_of_move (length path < node_limit) j.network (start j c) (goal j c))
      j.network (start j c) (goal j c) path path' a
      → HouseLeft (house_of_job (length path < node_limit) j c)
      j.network (start j c) (goal j c) path path' a
  house_of_move_lem (accepted count) h =
      left_accepted (asked_question j c) j.network (start j c) (goal j c) path room none h.1
  house_of_move_lem (refused n p) h =
      absurd (none_excludes h.0 (asked_clear (λ short. omega (arith, room)) (move_sound j c none)))

-- ---- a list

judged_rest : (a b : Question) → None a → (d : Result Unit Refusal) → Judged (a ++ b) d → Judged b d
judged_rest a b none (Ok u) h = (none_split a b h).1
judged_rest a b none (Err r) h =
    elim (first_split a b h) [ here k ↦ absurd (none_excludes k none) | later m k ↦ k ]

pub list_of_move_lem : (j : Numbers) (c : ℕ) → None (asked_question j c) → (U : Type 0) (d : Result Unit Refusal)
    → Judged (list_of_move j.network (start j c) (goal j c) U) d → Judged (list_of_job j c U) d
list_of_move_lem j c none U d h =
    judged_after (asked_question j c) (unfit U ∷ []) none d
    (judged_rest (move_question j.network (start j c) (goal j c)) (unfit U ∷ []) (move_sound j c none) d h)

-- ---- the questions agree

pub house_found_sound : {j j' j'' : Numbers} {c : ℕ} {path path' list' : List ℕ} {count : ℕ} {r : Result Unit Refusal} →
    HouseAsked j j' c path path' (Ok count) → ListAsked j j'' c (take count path') list' r → r ≡ Ok tt
house_found_sound {j = j} {c = c} {path' = path'} {count = count} {r = r} house asked =
    judged_unique (list_of_job j c (Unfit j.network (start j c) (goal j c) (take count path'))) r (Ok tt)
    asked.judged (none_append none (asked_clear (λ u. u passes.shortest) none_at_all))
  where
    none : None (asked_question j c)
    none = (none_asked house.given.0).1

    passes : Passes j.network (start j c) (goal j c) (take count path')
    passes = house_passes (move_sound j c none) house.given.1

-- What each answer tells, exactly, from the promises as they stand: a question about one carrier is refused
-- with a number at a place exactly if that is the first fault of its stages (hall's `refused_exactly`), and
-- accepted exactly if there is none. A list is found sound exactly if neither the job nor the number is at
-- fault and the list is a shortest path of the carrier's move. Assumes nothing.
use mathlib.Core.Path.{◌≡◌}
use mathlib.Core.Logic.{◌↔◌}
use mathlib.Core.List.{List, [], ◌∷◌}
use Prim.Native.Nat.{ℕ, ◌<◌}
use lib.ListN.{length}
use Rattle.std.specs.Prelude.{Result, Ok}
use Rattle.hall.specs.declared.Refusal.{Refusal}
use Rattle.hall.specs.Limits.{node_limit}
use Rattle.hall.specs.Floor.{floor}
use Rattle.hall.specs.Job.{Numbers, start, goal}
use Rattle.hall.specs.Path.{ShortestPath}
use Rattle.hall.specs.Stages.{First, None}
use Rattle.hall.specs.Said.{accepted, refused, said_checked}
use Rattle.hall.specs.Questions.{unfit, asked_question, house_of_job, list_of_job}
use Rattle.hall.proofs.Stages.{judged_unique, refused_exactly}
use Rattle.hall.proofs.Compose.{none_at_all, none_append, none_split, sound_none}
use Rattle.hall.proofs.Places.{asked_clear}
use Rattle.path.specs.Paths.{Unfit, said_housed}
use Rattle.path.proofs.Listed.{none_passes}
use Rattle.path.proofs.Exactly.{left_refused_exactly, left_accepted_exactly}
use Rattle.asks.specs.Asked.{HouseAsked, ListAsked}
use Rattle.asks.proofs.OneOfJob.{move_sound}

-- ---- the house path

module _ {j j' : Numbers} {c : ℕ} {path path' : List ℕ} (r : Result ℕ Refusal)
    (a : HouseAsked j j' c path path' r) where
  pub house_for_refused_exactly : (n p : ℕ)
      → (said_housed r ≡ refused n p) ↔ First (house_of_job (length path < node_limit) j c) n p
  house_for_refused_exactly =
      left_refused_exactly (house_of_job (length path < node_limit) j c)
      j.network (start j c) (goal j c) path path' (said_housed r) a.given

  pub house_for_accepted_exactly :
      ((count : ℕ) × (said_housed r ≡ accepted count)) ↔ None (house_of_job (length path < node_limit) j c)
  house_for_accepted_exactly =
      left_accepted_exactly (house_of_job (length path < node_limit) j c)
      j.network (start j c) (goal j c) path path' (said_housed r) a.given

-- ---- a list

module _ {j j' : Numbers} {c : ℕ} {list list' : List ℕ} (r : Result Unit Refusal)
    (a : ListAsked j j' c list list' r) where
  abbrev Shortest : Type 0
  Shortest = ShortestPath (floor j.network) (start j c) (goal j c) list

  abbrev Misfit : Type 0
  Misfit = Unfit j.network (start j c) (goal j c) list

  pub judge_for_refused_exactly : (n p : ℕ) → (said_checked r ≡ refused n p) ↔ First (list_of_job j c Misfit) n p
  judge_for_refused_exactly = refused_exactly (said_checked r) a.judged

  pub judge_for_sound_exactly : (r ≡ Ok tt) ↔ (None (asked_question j c) × Shortest)
  judge_for_sound_exactly = (forth, back)
    where
      forth : r ≡ Ok tt → None (asked_question j c) × Shortest
      forth e =
          let none = sound_none (list_of_job j c Misfit) e a.judged in
          let parts = none_split (asked_question j c) (unfit Misfit ∷ []) none in (
            parts.0,
            (none_passes j.network (start j c) (goal j c) list
                (none_append (move_sound j c parts.0) parts.1)).shortest,
          )

      back : None (asked_question j c) × Shortest → r ≡ Ok tt
      back h =
          judged_unique (list_of_job j c Misfit) r (Ok tt) a.judged
          (none_append h.0 (asked_clear (λ u. u h.1) none_at_all))

-- The questions agree. The question about one list finds a list sound exactly if it passes. The house path
-- passes: it is a shortest path by its definition. Of all shortest paths of the move it is the first when
-- compared node by node: where two agree up to a node, the house path takes the lowest next one, and the
-- other's next node would do too. Assumes nothing.
use mathlib.Core.Path.{◌≡◌, refl, sym, ◌∙◌, subst}
use mathlib.Core.List.{List}
use Prim.Native.Nat.{ℕ, zero, suc, ◌≤◌}
use native.Mathlib.Numerals.{add-one}
use native.Mathlib.Omega.{arith}
use lib.ListN.{get_or, take}
use Rattle.std.specs.Prelude.{Result, Ok, Err, is_ok}
use Rattle.hall.specs.declared.Refusal.{Refusal}
use Rattle.hall.specs.Floor.{Floor, Network}
use Rattle.hall.specs.Rule.{Answers}
use Rattle.hall.specs.Path.{PathOf, ShortestPath, HousePath}
use Rattle.hall.specs.Stages.{None}
use Rattle.hall.specs.Questions.{move_question, list_of_move}
use Rattle.hall.proofs.Walks.{dist_unique}
use Rattle.hall.proofs.House.{next_le}
use Rattle.hall.proofs.Stages.{judged_unique}
use Rattle.hall.proofs.Compose.{sound_none}
use Rattle.hall.proofs.Places.{none_asked}
use Rattle.path.specs.Paths.{Unfit, House, HouseAnswer, ListAnswer, Passes, NodeByNode}
use Rattle.path.proofs.Listed.{passes_none, none_passes, refused_fails}

-- ---- a list is found sound exactly if it passes

module _ {N N' : Network} {s g : ℕ} {list list' : List ℕ} {r : Result Unit Refusal} where
  pub passes_sound : Passes N s g list → ListAnswer N N' s g list list' r → r ≡ Ok tt
  passes_sound p a =
      judged_unique (list_of_move N s g (Unfit N s g list)) r (Ok tt) a.judged (passes_none N s g list p)

  pub sound_passes : r ≡ Ok tt → ListAnswer N N' s g list list' r → Passes N s g list
  sound_passes e a =
      none_passes N s g list (sound_none (list_of_move N s g (Unfit N s g list)) e a.judged)

  -- so whether its answer is sound tells whether the list passes
  pub answers_passes : ListAnswer N N' s g list list' r → Answers (is_ok r) (Passes N s g list)
  answers_passes a = by_answer r refl
    where
      by_answer : (t : Result Unit Refusal) → r ≡ t → Answers (is_ok t) (Passes N s g list)
      by_answer (Ok u) e = sound_passes e a
      by_answer (Err t) e = refused_fails N s g list e a.judged

-- ---- the house path

module _ {N : Network} {s g : ℕ} {path path' : List ℕ} {count : ℕ} where
  pub house_passes : None (move_question N s g) → House N s g path path' count
      → Passes N s g (take count path')
  house_passes none h = record {
    no_fault = none;
    shortest = record { d = h.d; short = h.is_house_path.short; is_path = h.is_house_path.is_path };
  }

  -- so the question about one list finds it sound
  pub house_judged : {N' N'' : Network} {list' : List ℕ} {r : Result Unit Refusal} →
      HouseAnswer N N' s g path path' (Ok count) → ListAnswer N N'' s g (take count path') list' r
      → r ≡ Ok tt
  house_judged a = passes_sound (house_passes (none_asked a.given.0).1 a.given.1)

module _ {F : Floor} {s g d : ℕ} {l l' : List ℕ} (h : HousePath F s g d l) (p : ShortestPath F s g l') where
  other_path : PathOf F s g d l'
  other_path = subst (λ (n : ℕ). PathOf F s g n l') (dist_unique p.short h.short) p.is_path

  pub house_first : NodeByNode l l'
  house_first zero k same differ = absurd (differ (h.is_path.begins ∙ sym other_path.begins))
  house_first (suc k) below same differ =
      let next = next_le h other_path k (omega (arith, h.is_path.size)) (same k (omega arith)) in
      let le : get_or l (suc k) 0 ≤ get_or l' (suc k) 0 = rw add-one at next in
      omega arith

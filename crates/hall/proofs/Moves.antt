-- What the checks of a move look at (rules 3.2, 7.9 and 8.22): its own two numbers, the node count and the
-- closed nodes, and no other move. In a list of moves it is refused, with 4, 5 or 13, exactly as it is by
-- itself, so whatever starts and goals the others have changes nothing. Assumes nothing.
--     numbers_asked       the numbers of a stage's checks, in their order
--     four_five_thirteen those of a move, and there is no fourth
--     alone              the checks of the move at a place by itself, as a question with one move has them
--     clear_alone, refused_alone    it passes, and is refused, in the list as it does alone
use mathlib.Core.Path.{◌≡◌, refl}
use mathlib.Core.Logic.{◌↔◌}
use mathlib.Core.List.{List, [], ◌∷◌}
use Prim.Native.Nat.{ℕ}
use Rattle.hall.specs.Job.{start_in, goal_in}
use Rattle.hall.specs.Stages.{Stage, ClearAt, FirstAt}
use Rattle.hall.specs.Questions.{ends, move_checks}

abbrev pub numbers_asked : Stage → List ℕ
numbers_asked [] = []
numbers_asked (c ∷ s) = c.number ∷ numbers_asked s

module _ (nodes : ℕ) (closed moves : List ℕ) where
  pub four_five_thirteen : numbers_asked (move_checks nodes closed moves) ≡ 4 ∷ 5 ∷ 13 ∷ []
  four_five_thirteen = refl

  module _ (i : ℕ) where
    abbrev pub alone : Stage
    alone = ends nodes closed (λ p. start_in moves i) (λ p. goal_in moves i)

    pub clear_alone : ClearAt (move_checks nodes closed moves) i ↔ ClearAt alone 0
    clear_alone = (λ h. h, λ h. h)

    pub refused_alone : (n : ℕ) → FirstAt (move_checks nodes closed moves) n i ↔ FirstAt alone n 0
    refused_alone n = (λ h. h, λ h. h)

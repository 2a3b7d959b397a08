-- Whether the words of sections are plain and differ, as a test that computes: a form's list of sections
-- passes it by `tt`.
--     told_test         the words are plain and differ, as a test
--     told_by_test     what it says when it passes
use mathlib.Core.List.{List, [], ◌∷◌}
use mathlib.Core.Bool.{Bool, true, false, not, cond}
use Prim.Native.Nat.{ℕ}
use lib.Dec.{T, leb, leb→le, T_not, eqb, eqb_refl}
use Rattle.form.specs.Sections.{Form, same_words}
use Rattle.form.proofs.Cuts.{Plain}
use Rattle.form.proofs.Steps.{Told, Differs}

abbrev pub all : Bool → Bool → Bool
all true b = b
all false b = false

all_left : (a b : Bool) → T (all a b) → T a
all_left true b h = tt
all_left false b h = h

all_right : (a b : Bool) → T (all a b) → T b
all_right true b h = h
all_right false b h = absurd h

unfoldable pub plain_test : List ℕ → Bool
plain_test [] = true
plain_test (b ∷ w) = all (leb 48 b) (plain_test w)

unfoldable pub differs_test : List ℕ → Form → Bool
differs_test w [] = true
differs_test w (s ∷ left) = all (not (same_words w s.word)) (differs_test w left)

unfoldable pub told_test : Form → Bool
told_test [] = true
told_test (s ∷ left) = all (plain_test s.word) (all (differs_test s.word left) (told_test left))

plain_by_test : (w : List ℕ) → T (plain_test w) → Plain w
unfolding plain_test
plain_by_test [] h = tt
plain_by_test (b ∷ w) h = (
  leb→le 48 b (all_left (leb 48 b) (plain_test w) h),
  plain_by_test w
      (all_right (leb 48 b) (plain_test w) h),
)

same_word : (w : List ℕ) → T (same_words w w)
unfolding same_words
same_word [] = tt
same_word (a ∷ w) = cases (eqb a a) (eqb_refl a) (same_word w)
  where
    cases : (x : Bool) → T x → T (same_words w w) → T (cond x (same_words w w) false)
    cases true h on = on
    cases false h on = h

differs_by_test : (w : List ℕ) (left : Form) → T (differs_test w left) → Differs w left
unfolding differs_test
differs_by_test w [] h = tt
differs_by_test w (s ∷ left) h = (
  λ e. T_not (same_words w s.word) (all_left (not (same_words w s.word)) (differs_test w left) h)
      (rw (← e) (same_word w)),
  differs_by_test w left (all_right (not (same_words w s.word)) (differs_test w left) h),
)

pub told_by_test : (left : Form) → T (told_test left) → Told left
unfolding told_test
told_by_test [] h = tt
told_by_test (s ∷ left) h =
    let rest = all_right (plain_test s.word) (all (differs_test s.word left) (told_test left)) h in (
      plain_by_test s.word
          (all_left (plain_test s.word) (all (differs_test s.word left) (told_test left)) h),
      differs_by_test s.word left (all_left (differs_test s.word left) (told_test left) rest),
      told_by_test left (all_right (differs_test s.word left) (told_test left) rest),
    )

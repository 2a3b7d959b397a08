-- The steps of a list as `windows(2)` shows them: each number with the next. What an `all` over them answers is
-- said of each pair. Assumes nothing.
--     steps            these pairs in a row
--     yields_steps     `windows(2)` gives them
--     length_steps     a list has a step fewer than numbers
--     step_numbers     the step at place k is the number there and the next
--     told             what an `all` over the steps answers tells of each number and the next
use mathlib.Core.Path.{◌≡◌, refl, ◌∙◌, ap, subst}
use mathlib.Core.Bool.{Bool, true, false}
use mathlib.Core.List.{List, [], ◌∷◌}
use Prim.Native.Nat.{ℕ, zero, suc, ◌+◌, ◌-◌, ◌<◌}
use native.Mathlib.Omega.{arith}
use lib.ListN.{length, get_or}
use denote.Ref.{Bor}
use Rattle.std.specs.Iterator.{AlwaysYields}
use Rattle.std.specs.declared.slice.Windows.{Windows}
use Rattle.std.specs.Slice.Iter.{windows_rest, windows_size, windows_steps}
use Rattle.std.proofs.lemmas.Iterator.{YieldsList}
use Rattle.std.specs.Bool.{MatchBool}
use Rattle.std.specs.List.{AllWithin, HoldsAt}
use Rattle.hall.specs.Rule.{Answers}

pub steps : List ℕ → List (ℕ × ℕ)
steps [] = []
steps (x ∷ []) = []
steps (x ∷ y ∷ l) = (x, y) ∷ steps (y ∷ l)

abbrev pub step_in : Bor (List ℕ) → ℕ × ℕ
step_in w = (get_or w.now 0 0, get_or w.now 1 0)

yields : (l : List ℕ) (s : Windows ℕ) → windows_size s ≡ 2 → windows_rest s ≡ l
    → AlwaysYields windows_steps step_in s (steps l)
unfolding steps
yields [] s two rest = λ x j h. let k : ⊥ = omega (arith, h.1.0, ap length rest) in k
yields (x ∷ []) s two rest = λ w j h. let k : ⊥ = omega (arith, h.1.0, ap length rest) in k
yields (x ∷ y ∷ l) s two rest = (
  λ j h. let k : ⊥ = omega (arith, h.1.0, ap length rest) in k,
  λ w j h.
      let e : w.now ≡ x ∷ y ∷ [] = rw (two, rest) at h.1.1 in
      (ap (λ (t : List ℕ). (get_or t 0 0, get_or t 1 0)) e, yields (y ∷ l) j (h.0 ∙ two) (rw rest at h.1.2)),
)

pub yields_steps : (l : List ℕ) {s : Windows ℕ} → windows_size s ≡ 2 → windows_rest s ≡ l
    → YieldsList windows_steps step_in s (steps l)
yields_steps l {s} two rest = record { runs = yields l s two rest }

pub length_steps : (l : List ℕ) → length (steps l) ≡ length l - 1
unfolding steps
length_steps [] = refl
length_steps (x ∷ []) = refl
length_steps (x ∷ y ∷ l) = omega (arith, length_steps (y ∷ l))

pub step_numbers : (l : List ℕ) (k : ℕ) → k < length l - 1
    → get_or (steps l) k (0, 0) ≡ (get_or l k 0, get_or l (k + 1) 0)
unfolding steps
step_numbers [] k h = absurd (let x : ⊥ = omega arith in x)
step_numbers (x ∷ []) k h = absurd (let x : ⊥ = omega arith in x)
step_numbers (x ∷ y ∷ l) zero h = refl
step_numbers (x ∷ y ∷ l) (suc k) h =
    let next : suc (k + 1) ≡ suc k + 1 = omega arith in
    step_numbers (y ∷ l) k (omega arith) ∙ ap (λ (n : ℕ). (get_or (y ∷ l) k 0, get_or (x ∷ y ∷ l) n 0)) next

-- what is told of every step is told of each number with the next, and what fails of a step fails there
module _ (P : ℕ → ℕ → Type 0) (l : List ℕ) where
  abbrev Each : Type 0
  Each = (k : ℕ) → k + 1 < length l → P (get_or l k 0) (get_or l (k + 1) 0)

  pub told : (r : Bool)
      → MatchBool r (AllWithin (λ (p : ℕ × ℕ). P p.0 p.1) (steps l) 0 (length (steps l)))
      ((k : ℕ) × (k < length (steps l)) × HoldsAt (λ (p : ℕ × ℕ). ¬ P p.0 p.1) (steps l) k)
      → Answers r Each
  told true all = λ k h.
      let at = step_numbers l k (omega arith) in
      subst (λ (p : ℕ × ℕ). P p.0 p.1) at (all k (0, 0) (omega arith) (omega (arith, length_steps l)))
  told false some = λ each.
      let at = step_numbers l some.0 (omega (arith, some.1, length_steps l)) in
      subst (λ (p : ℕ × ℕ). ¬ P p.0 p.1) at (some.2 (0, 0)) (each some.0 (omega (arith, some.1, length_steps l)))

-- The section at the front of contents without a fault: one that must stand does, and one that may be missing
-- stands, or the contents go on without it. Assumes nothing.
--     StandsFirst     the first section stands at the front of the contents
--     must, may       a section that must stand does; one that may be missing stands, or is passed over
--     passed_over     a section that may be missing is
--     none_left       where no sections are left, nothing is said
use mathlib.Core.Path.{◌≡◌, refl, sym, ◌∙◌}
use mathlib.Core.Logic.{◌⊎◌, inl, inr}
use mathlib.Core.List.{List, [], ◌∷◌, ◌++◌}
use mathlib.Core.Bool.{true, false}
use Prim.Native.Nat.{ℕ}
use native.Mathlib.Omega.{arith}
use Rattle.form.specs.Sections.{Section, Form, Content, content}
use Rattle.form.specs.Contents.{Picks, first, past, SoundSection, Sound, over, stands}

pub record StandsFirst (read : List Content) (s : Section) (left : Form) (cs : List Content) : Type 0 where
  pub n : ℕ
  pub es : List (List ℕ)
  pub rest : List Content
  pub is : cs ≡ content s.word n es ∷ rest
  pub section : SoundSection read s n es
  pub on : Sound (read ++ (content s.word n es ∷ [])) left rest

picked : {read : List Content} {s o : Section} {more left : Form} {n : ℕ} {es : List (List ℕ)}
    {cs : List Content} → Picks (o ∷ more) s left
    → SoundSection read s n es → Sound (read ++ (content s.word n es ∷ [])) left cs
    → StandsFirst read o more (content s.word n es ∷ cs)
    ⊎ ((o.optional ≡ true) × Sound read more (content s.word n es ∷ cs))
picked {n = n} {es = es} {cs = cs} (first s left) x h =
    inl (record { n = n; es = es; rest = cs; is = refl; section = x; on = h })
picked {read = read} {n = n} {es = es} {cs = cs} (past o s more left e p) x h =
    inr (e, stands read more left s n es cs p x h)

pub may : {read cs : List Content} {s : Section} {left : Form} → Sound read (s ∷ left) cs
    → StandsFirst read s left cs ⊎ ((s.optional ≡ true) × Sound read left cs)
may (over read (s ∷ left) m) = inr (m.0, over read left m.1)
may (stands read more left s n es cs p x h) = picked p x h

pub must : {read cs : List Content} {s : Section} {left : Form} → s.optional ≡ false
    → Sound read (s ∷ left) cs → StandsFirst read s left cs
must e h = elim (may h) [
  | inl x ↦ x
  | inr x ↦
      (let z : ◌≡◌ {A = ℕ} 0 1 = let q : true ≡ false = sym x.0 ∙ e in cc in
      absurd (let y : ⊥ = omega arith in y))
]

pub none_left : {read cs : List Content} {left : Form} → left ≡ [] → Sound read left cs → cs ≡ []
none_left e (over read left m) = refl
none_left e (stands read more left s n es cs (first _ _) x h) = let z : ◌≡◌ {A = ℕ} 0 1 = cc in
    absurd (let y : ⊥ = omega arith in y)
none_left e (stands read more left s n es cs (past o _ more' _ _ p) x h) = let z : ◌≡◌ {A = ℕ} 0 1 = cc in
    absurd (let y : ⊥ = omega arith in y)

pub passed_over : (s : Section) {read cs : List Content} {left : Form} → s.optional ≡ true
    → Sound read left cs → Sound read (s ∷ left) cs
passed_over s e (over read left m) = over read (s ∷ left) (e, m)
passed_over s e (stands read more left k n es cs p x rest) =
    stands read (s ∷ more) left k n es cs (past s k more left e p) x rest

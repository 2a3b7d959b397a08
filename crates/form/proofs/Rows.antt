-- Lists of numbers as entries and back: two numbers a row, or one. Nothing is lost, and a row's numbers have
-- a written form if the list's have. Assumes nothing.
--     ByTwos                        the numbers of a list go by twos
--     pairs_back, singles_back      the numbers of the entries are the list's again; .._count how many
--                                   entries; ..-rows each has its numbers
--     rows_pairs, rows_singles      entries with two numbers each, or one, are those of their numbers
--     pairs_next, singles_next      the entries of the first numbers, and one entry more
--     pairs_whole                   an odd last number is in no entry, so that the list without it has the
--                                   same
--     small_by                      a list's numbers are small, by their places
--     whole_section, section_whole  a section without a fault, by the checks of its whole list
use mathlib.Core.Path.{◌≡◌, refl, ap}
use mathlib.Core.List.{List, [], ◌∷◌, ◌++◌}
use Prim.Native.Nat.{ℕ, zero, suc, ◌*◌, ◌/◌, ◌%◌, ◌<◌}
use native.Mathlib.Omega.{arith}
use lib.ListN.{length, get_or, take}
use Rattle.hall.specs.Stages.{ClearAt}
use Rattle.form.specs.Lines.{Small}
use Rattle.form.specs.Sections.{Section, Content, CountFits, due, numbers_in}
use Rattle.form.specs.Entries.{checks_of}
use Rattle.form.specs.Contents.{SoundSection}
use Rattle.form.specs.Jobs.{pairs, singles}
use Rattle.form.proofs.WholeChecks.{Steady, Rows, whole_each, each_whole}

abbrev pub ByTwos : List ℕ → Type 0
ByTwos l = length l ≡ 2 * (length l / 2)

pub small_by : (l : List ℕ) → ((i : ℕ) → i < length l → get_or l i 0 < 10000) → Small l
small_by [] h = tt
small_by (a ∷ l) h = (h 0 (omega arith), small_by l (λ i b. h (suc i) (omega arith)))

-- ---- two numbers a row

-- a list has as many pairs as half its length, whether an odd number is left over or not
pub pairs_count : (l : List ℕ) → length (pairs l) ≡ length l / 2
unfolding pairs
pairs_count [] = omega arith
pairs_count (a ∷ []) = omega arith
pairs_count (a ∷ b ∷ l) = omega (arith, pairs_count l)

pub pairs_back : (l : List ℕ) → ByTwos l → numbers_in (pairs l) ≡ l
unfolding pairs numbers_in
pairs_back [] e = refl
pairs_back (a ∷ []) e = absurd (let x : ⊥ = omega arith in x)
pairs_back (a ∷ b ∷ l) e = let h = pairs_back l (omega arith) in λ i. a ∷ b ∷ h i

pub pairs_rows : (l : List ℕ) → Small l → Rows 2 (pairs l)
unfolding pairs
pairs_rows [] h = tt
pairs_rows (a ∷ []) h = tt
pairs_rows (a ∷ b ∷ l) h = (refl, (h.0, (h.1.0, tt)), pairs_rows l h.1.1)

pub rows_pairs : (es : List (List ℕ)) → Rows 2 es → pairs (numbers_in es) ≡ es
unfolding pairs numbers_in
rows_pairs [] h = refl
rows_pairs ([] ∷ es) h = absurd (let l = h.0 in let x : ⊥ = omega arith in x)
rows_pairs ((a ∷ []) ∷ es) h = absurd (let l = h.0 in let x : ⊥ = omega arith in x)
rows_pairs ((a ∷ b ∷ []) ∷ es) h = let q = rows_pairs es h.2 in λ i. (a ∷ b ∷ []) ∷ q i
rows_pairs ((a ∷ b ∷ c ∷ e) ∷ es) h = absurd (let l = h.0 in let x : ⊥ = omega arith in x)

pub pairs_next : (n : ℕ) (l : List ℕ) → n % 2 ≡ 0 → suc n < length l →
    pairs (take (suc (suc n)) l) ≡ pairs (take n l) ++ ((get_or l n 0 ∷ get_or l (suc n) 0 ∷ []) ∷ [])
unfolding pairs
pairs_next n [] e h = absurd (let x : ⊥ = omega arith in x)
pairs_next n (a ∷ []) e h = absurd (let x : ⊥ = omega arith in x)
pairs_next zero (a ∷ b ∷ l) e h = refl
pairs_next (suc zero) (a ∷ b ∷ l) e h = absurd (let x : ⊥ = omega arith in x)
pairs_next (suc (suc n)) (a ∷ b ∷ l) e h =
    let more = pairs_next n l (omega arith) (omega arith) in λ i. (a ∷ b ∷ []) ∷ more i

pub pairs_whole : (n : ℕ) (l : List ℕ) → n ≡ 2 * (length l / 2) → pairs (take n l) ≡ pairs l
unfolding pairs
pairs_whole zero [] e = refl
pairs_whole zero (a ∷ []) e = refl
pairs_whole zero (a ∷ b ∷ l) e = absurd (let x : ⊥ = omega arith in x)
pairs_whole (suc n) [] e = refl
pairs_whole (suc n) (a ∷ []) e = absurd (let x : ⊥ = omega arith in x)
pairs_whole (suc zero) (a ∷ b ∷ l) e = absurd (let x : ⊥ = omega arith in x)
pairs_whole (suc (suc n)) (a ∷ b ∷ l) e =
    let rest = pairs_whole n l (omega arith) in λ i. (a ∷ b ∷ []) ∷ rest i

-- ---- one number a row

pub singles_back : (l : List ℕ) → numbers_in (singles l) ≡ l
unfolding singles numbers_in
singles_back [] = refl
singles_back (a ∷ l) = let h = singles_back l in λ i. a ∷ h i

pub singles_count : (l : List ℕ) → length (singles l) ≡ length l
unfolding singles
singles_count [] = refl
singles_count (a ∷ l) = ap suc (singles_count l)

pub singles_rows : (l : List ℕ) → Small l → Rows 1 (singles l)
unfolding singles
singles_rows [] h = tt
singles_rows (a ∷ l) h = (refl, (h.0, tt), singles_rows l h.1)

pub rows_singles : (es : List (List ℕ)) → Rows 1 es → singles (numbers_in es) ≡ es
unfolding singles numbers_in
rows_singles [] h = refl
rows_singles ([] ∷ es) h = absurd (let l = h.0 in let x : ⊥ = omega arith in x)
rows_singles ((a ∷ []) ∷ es) h = let q = rows_singles es h.2 in λ i. (a ∷ []) ∷ q i
rows_singles ((a ∷ b ∷ e) ∷ es) h = absurd (let l = h.0 in let x : ⊥ = omega arith in x)

pub singles_next : (n : ℕ) (l : List ℕ) → n < length l →
    singles (take (suc n) l) ≡ singles (take n l) ++ ((get_or l n 0 ∷ []) ∷ [])
unfolding singles
singles_next n [] h = absurd (let x : ⊥ = omega arith in x)
singles_next zero (a ∷ l) h = refl
singles_next (suc n) (a ∷ l) h = let more = singles_next n l (omega arith) in λ i. (a ∷ []) ∷ more i

-- ---- a section by its whole list

module _ (read : List Content) (s : Section) (n : ℕ) (es : List (List ℕ)) (steady : Steady s) where
  pub whole_section : (l : List ℕ) → numbers_in es ≡ l → Rows s.size es → n < 10000
      → CountFits s.limits read n → length es ≡ due s n
      → ((k : ℕ) → k < length es → ClearAt (checks_of s.entry read l) k) → SoundSection read s n es
  whole_section l e rows small fits counted none =
      record {
        small = small;
        fits = fits;
        counted = counted;
        passes = whole_each read s n steady [] es tt rows (λ k a b. rw e (none k (omega arith)));
      }

  pub section_whole : SoundSection read s n es
      → Rows s.size es ×
      ((k : ℕ) → k < length es → ClearAt (checks_of s.entry read (numbers_in es)) k)
  section_whole x =
      let w = each_whole read s n steady [] es tt x.passes in
      (w.0, λ k h. w.1 k (omega arith) (omega arith))

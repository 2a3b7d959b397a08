-- What a read puts behind what was filled before: the front of the buffer is then all that was taken from the
-- input.
use Rattle.std.proofs.Common.{◌≡◌, ℕ, ◌+◌, ◌-◌, ◌≤◌, List, ◌++◌, Option, arith, length, take, slice_range, sym, ap, ◌∙◌, subst, le_refl, drop_at, length-take-le}
use Rattle.std.proofs.lemmas.Slice.{take-put_mid_below}
use Rattle.std.specs.Io.KnownBytes.{Consumes}
use Rattle.std.proofs.KnownBytes.{Consumes-trans}
use borrow.Rule.Slice.PartMut.{put_mid, post_of}
use lib.Seq.{take-add, take-append-le}

take_split : (a b : ℕ) (old new : List ℕ) → a ≤ b → take a new ≡ take a old
    → take a old ++ slice_range new a b ≡ take b new
take_split a b old new h front =
    let same : a + (b - a) ≡ b = omega arith in
    ap (λ l. l ++ slice_range new a b) (sym front) ∙ sym (take-add a (b - a) new) ∙ ap (λ n. take n new) same

slice_range-put_mid : (a k n : ℕ) (xs ys : List ℕ) → a ≤ length xs → n ≤ length ys
    → slice_range (put_mid a k xs ys) a (a + n) ≡ take n ys
slice_range-put_mid a k n xs ys within fits =
    let same : (a + n) - a ≡ n = omega arith in
    let after = post_of a k xs in
    ap (take ((a + n) - a)) (drop_at (take a xs) (ys ++ after) a (length-take-le a xs within))
    ∙ ap (λ m. take m (ys ++ after)) same
    ∙ take-append-le n ys after fits

pub filled_more : (a b c : Option (List ℕ)) (at k n : ℕ) (xs ys : List ℕ) → at ≤ length xs → n ≤ length ys
    → Consumes a b (take at xs) → Consumes b c (take n ys) → Consumes a c (take (at + n) (put_mid at k xs ys))
filled_more a b c at k n xs ys within fits first second =
    let part = slice_range-put_mid at k n xs ys within fits in
    let front : take at (put_mid at k xs ys) ≡ take at xs = take-put_mid_below _ _ _ _ _ (le_refl _) within in
    let joined = take_split at (at + n) xs (put_mid at k xs ys) (omega arith) front in
    subst
    (Consumes a c)
    (ap (λ l. take at xs ++ l) (sym part) ∙ joined)
    (Consumes-trans a b c (take at xs) (take n ys) first second)

-- the same where a read gave nothing
pub filled_none : (a b c : Option (List ℕ)) (at k n : ℕ) (xs ys : List ℕ) → n ≡ 0 → at ≤ length xs → n ≤ length ys
    → Consumes a b (take at xs) → Consumes b c (take n ys) → Consumes a c (take at (put_mid at k xs ys))
filled_none a b c at k n xs ys none within fits first second =
    let same : at + n ≡ at = omega arith in
    subst
    (λ m. Consumes a c (take m (put_mid at k xs ys)))
    same
    (filled_more a b c at k n xs ys within fits first second)

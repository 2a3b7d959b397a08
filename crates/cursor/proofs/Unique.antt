-- One answer to each question: two that fit the promise of a cursor's method are equal. A line has one
-- reading (crate form, proofs/LineForms.antt), and the rest behind it tells where the next cursor stands,
-- which is in the text or at its end. Assumes nothing.
--     behind_unique        one cursor stands behind a line
--     entering_unique      one answer of `one`; entering_two_unique of `pair`, counting_unique of `count`
use mathlib.Core.Path.{◌≡◌, refl, sym, ◌∙◌, ap}
use mathlib.Core.List.{List, [], ◌∷◌, append_assoc}
use Prim.Native.Nat.{ℕ}
use native.Mathlib.Omega.{arith}
use lib.ListN.{length, drop, length-drop}
use Rattle.form.specs.Lines.{further, count_line, Counted}
use Rattle.form.proofs.Cuts.{head_same, tail_same}
use Rattle.form.proofs.LineForms.{further_unique, entry_unique}
use Rattle.form.proofs.LineTests.{front_unique}
use Rattle.cursor.specs.declared.Cursor.{Cursor}
use Rattle.std.specs.Prelude.{Option, None, Some}
use Rattle.cursor.specs.Steps.{Behind, EntryTaken, Counting, Entering, EnteringTwo}

pub behind_unique : (text : List ℕ) (c a b : Cursor) (r s : List ℕ) → r ≡ s
    → Behind text c a r → Behind text c b s → a ≡ b
behind_unique text c a b r s e x y =
    let rests = ap length (sym x.is_rest ∙ e ∙ y.is_rest) in
    let place : a.at ≡ b.at =
    omega (arith, rests, length-drop a.at text, length-drop b.at text, x.within, y.within) in
    let line = x.next_line ∙ sym y.next_line in
    λ i. record { at = place i; line = line i }

-- ---- a line of numbers

taken_unique : (text : List ℕ) (c a b : Cursor) (e f : List ℕ) → length e ≡ length f
    → EntryTaken text c e a → EntryTaken text c f b → (e ≡ f) × (a ≡ b)
taken_unique text c a b e f l x y =
    let same = x.taken.sized ∙ l ∙ sym y.taken.sized in
    let u = entry_unique x.taken.e y.taken.e x.taken.rest y.taken.rest same
    (sym x.taken.begins ∙ y.taken.begins) in
    (sym x.is_entry ∙ u.0 ∙ y.is_entry, behind_unique text c a b _ _ u.1 x.behind y.behind)

pub entering_unique : (text : List ℕ) (c : Cursor) (r s : Option (ℕ × Cursor)) → Entering text c r
    → Entering text c s
    → r ≡ s
entering_unique text c (Some (n, a)) (Some (m, b)) x y =
    let u = taken_unique text c a b _ _ refl x y in
    let number = head_same u.0 in
    let next = u.1 in
    λ i. Some (number i, next i)
entering_unique text c (Some (n, a)) None x y = absurd (y x.taken)
entering_unique text c None (Some (m, b)) x y = absurd (x y.taken)
entering_unique text c None None x y = refl

pub entering_two_unique : (text : List ℕ) (c : Cursor) (r s : Option (ℕ × ℕ × Cursor))
    → EnteringTwo text c r → EnteringTwo text c s → r ≡ s
entering_two_unique text c (Some (n, k, a)) (Some (m, l, b)) x y =
    let u = taken_unique text c a b _ _ refl x y in
    let first = head_same u.0 in
    let second = head_same (tail_same u.0) in
    let next = u.1 in
    λ i. Some (first i, second i, next i)
entering_two_unique text c (Some (n, k, a)) None x y = absurd (y x.taken)
entering_two_unique text c None (Some (m, l, b)) x y = absurd (x y.taken)
entering_two_unique text c None None x y = refl

-- ---- a line of a word and a count

counted_unique : (word t : List ℕ) (x y : Counted word t) → (x.n ≡ y.n) × (x.rest ≡ y.rest)
unfolding count_line
counted_unique word t x y =
    let own = x.begins ∙ append_assoc word (further (x.n ∷ [])) x.rest in
    let other = y.begins ∙ append_assoc word (further (y.n ∷ [])) y.rest in
    let u = further_unique (x.n ∷ []) (y.n ∷ []) x.rest y.rest
    (front_unique word _ _ (sym own ∙ other)) in
    (head_same u.0, u.1)

pub counting_unique : (text word : List ℕ) (c : Cursor) (r s : Option (ℕ × Cursor))
    → Counting text word c r → Counting text word c s → r ≡ s
counting_unique text word c (Some (n, a)) (Some (m, b)) x y =
    let u = counted_unique word (drop c.at text) x.taken y.taken in
    let number = sym x.is_count ∙ u.0 ∙ y.is_count in
    let next = behind_unique text c a b _ _ u.1 x.behind y.behind in
    λ i. Some (number i, next i)
counting_unique text word c (Some (n, a)) None x y = absurd (y x.capitals x.taken)
counting_unique text word c None (Some (m, b)) x y = absurd (x y.capitals y.taken)
counting_unique text word c None None x y = refl

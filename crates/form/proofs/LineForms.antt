-- A line has one reading: the text in front of which it stands tells its word, its numbers and the rest.
-- Behind each word or number stands a space or a line feed, which breaks it off (Cuts.antt). Assumes nothing
-- but that words are plain.
--     further_unique, entry_unique, count_unique    of the further numbers of a line, of a line of numbers,
--                                                   of a line of a word and a count
--     ..-length                                     how many bytes they have at most
use mathlib.Core.Path.{◌≡◌, refl, sym, ◌∙◌}
use mathlib.Core.List.{List, [], ◌∷◌, ◌++◌, append_assoc}
use Prim.Native.Nat.{ℕ, ◌+◌, ◌*◌, ◌≤◌, ◌<◌}
use native.Mathlib.Omega.{arith}
use lib.ListN.{length, length-append}
use Rattle.put.specs.Digits.{digits}
use Rattle.put.proofs.Digits.{digits_length}
use Rattle.form.specs.Lines.{Small, further, entry_line, count_line}
use Rattle.form.proofs.Cuts.{Plain, Breaks, head_same, tail_same, cut_unique, numbers_unique}

pub further_breaks : (e r : List ℕ) → Breaks (further e ++ r)
unfolding further
further_breaks [] r = omega arith
further_breaks (b ∷ e) r = omega arith

other_bytes : {A : Type 0} {a b : ℕ} {x y : List ℕ} → a < b → a ∷ x ≡ b ∷ y → A
other_bytes h e = let k = head_same e in absurd (let x : ⊥ = omega arith in x)

pub further_unique : (e f r s : List ℕ) → further e ++ r ≡ further f ++ s → (e ≡ f) × (r ≡ s)
unfolding further
further_unique [] [] r s q = (refl, tail_same q)
further_unique [] (b ∷ f) r s q = other_bytes (omega arith) q
further_unique (a ∷ e) [] r s q = other_bytes (omega arith) (sym q)
further_unique (a ∷ e) (b ∷ f) r s q =
    let here = sym (append_assoc (digits a) (further e) r) ∙ tail_same q
    ∙ append_assoc (digits b) (further f) s in
    let first = numbers_unique a b (further e ++ r) (further f ++ s) (further_breaks e r) (further_breaks f s)
    here in
    let rest = further_unique e f r s first.1 in
    let x = first.0 in
    let y = rest.0 in
    ((λ i. x i ∷ y i), rest.1)

pub entry_unique : (e f r s : List ℕ) → length e ≡ length f → entry_line e ++ r ≡ entry_line f ++ s
    → (e ≡ f) × (r ≡ s)
unfolding entry_line
entry_unique [] [] r s l q = further_unique [] [] r s q
entry_unique [] (b ∷ f) r s l q = absurd (let x : ⊥ = omega arith in x)
entry_unique (a ∷ e) [] r s l q = absurd (let x : ⊥ = omega arith in x)
entry_unique (a ∷ e) (b ∷ f) r s l q =
    let here = sym (append_assoc (digits a) (further e) r) ∙ q ∙ append_assoc (digits b) (further f) s in
    let first = numbers_unique a b (further e ++ r) (further f ++ s) (further_breaks e r) (further_breaks f s)
    here in
    let rest = further_unique e f r s first.1 in
    let x = first.0 in
    let y = rest.0 in
    ((λ i. x i ∷ y i), rest.1)

pub count_unique : (w v : List ℕ) (m n : ℕ) (r s : List ℕ) → Plain w → Plain v
    → count_line w m ++ r ≡ count_line v n ++ s → (w ≡ v) × (m ≡ n) × (r ≡ s)
unfolding count_line
count_unique w v m n r s p q e =
    let here = sym (append_assoc w (further (m ∷ [])) r) ∙ e ∙ append_assoc v (further (n ∷ [])) s in
    let word = cut_unique w v (further (m ∷ []) ++ r) (further (n ∷ []) ++ s) p q (further_breaks (m ∷ []) r)
    (further_breaks (n ∷ []) s) here in
    let number = further_unique (m ∷ []) (n ∷ []) r s word.1 in
    (word.0, head_same number.0, number.1)

-- ---- how long a line is

pub further_length : (e : List ℕ) → Small e → length (further e) ≤ 1 + 5 * length e
unfolding further
further_length [] h = omega arith
further_length (b ∷ e) h =
    omega (arith, length-append (digits b) (further e), digits_length 3 b h.0, further_length e h.1)

pub entry_length : (a : ℕ) (e : List ℕ) → Small (a ∷ e) → length (entry_line (a ∷ e)) ≤ 5 * length (a ∷ e)
unfolding entry_line
entry_length a e h =
    omega (arith, length-append (digits a) (further e), digits_length 3 a h.0, further_length e h.1)

pub count_length : (w : List ℕ) (n : ℕ) → n < 10000 → length (count_line w n) ≤ length w + 6
unfolding count_line
count_length w n h = omega (arith, length-append w (further (n ∷ [])), further_length (n ∷ []) (h, tt))

-- ---- a line is not empty

pub entry_some : (e : List ℕ) → 1 ≤ length (entry_line e)
unfolding entry_line further
entry_some [] = omega arith
entry_some (a ∷ []) = omega (arith, length-append (digits a) (further []))
entry_some (a ∷ b ∷ e) = omega (arith, length-append (digits a) (further (b ∷ e)))

pub count_some : (w : List ℕ) (n : ℕ) → 1 ≤ length (count_line w n)
unfolding count_line further
count_some w n = omega (arith, length-append w (further (n ∷ [])))

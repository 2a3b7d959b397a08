-- What a refusal leaves: 9 leaves a table as it came, any other zeroes its least length. One test of the
-- number decides it, so that a new fault changes nothing here; a question whose stages lack 9 gives another
-- number. A zeroed table keeps its length, is zero below n and as it was from n on, and a loop that sets one
-- place after the other to zero makes it, by induction over its length. Assumes nothing.
--     drop_zeroed      a zeroed table behind its first places: zeros, and what stood beyond
--     zeroed_same      tables that agree from n on are the same when zeroed
--     row_unique       two rows that are left of one row, and agree for the carriers, are the same
--     row_over         what is left of a row that was zeroed first is left of the row that came
--     filled_none      a table that is filled with no numbers is a zeroed one
--     filled_front     the numbers stand in front of a filled table
--     NotNine n        the number n is not 9
--     Among P q        every number that the question q can give has the property P
use mathlib.Core.Path.{◌≡◌, refl, sym, ◌∙◌, ap, subst}
use mathlib.Core.List.{List, [], ◌∷◌, ◌++◌}
use Prim.Native.Nat.{ℕ, zero, suc, ◌+◌, ◌-◌, ◌≤◌, ◌<◌}
use native.Mathlib.Nat.{not-suc-le-zero, le_of_suc-le-suc}
use native.Mathlib.Numerals.{add-one}
use native.Mathlib.Decide.{dec_lt}
use native.Mathlib.Omega.{arith}
use lib.ListN.{length, get_or, set, take, drop, replicate}
use lib.Seq.{take_at, ext_get_or}
use borrow.Author.Tests.{ne_eqb}
use Rattle.hall.specs.Stages.{Stage, Question, here, later, FirstAt, FirstStage, First}
use Rattle.hall.specs.Limits.{carrier_limit}
use Rattle.hall.specs.Left.{with_front, zeroed, filled, left, RowLeft}

pub zeroed_length : (n : ℕ) (t : List ℕ) → length (zeroed n t) ≡ length t
unfolding with_front
zeroed_length zero t = refl
zeroed_length (suc n) [] = refl
zeroed_length (suc n) (x ∷ t) = ap suc (zeroed_length n t)

-- a list with a value in front: in no places, in one place more, in all of a shorter list, in a part of it
pub front_none : {A : Type 0} (v : A) (t : List A) → with_front v 0 t ≡ t
unfolding with_front
front_none v t = refl

pub front_more : {A : Type 0} (v : A) (n : ℕ) (t : List A) → n < length t → set (with_front v n t) n v ≡ with_front v (n + 1) t
unfolding with_front
front_more v n t h = rw add-one (set_next n t h)
  where
    set_next : (n : ℕ) (t : List _) → n < length t → set (with_front v n t) n v ≡ with_front v (suc n) t
    set_next zero [] h = absurd (not-suc-le-zero h)
    set_next zero (x ∷ t) h = refl
    set_next (suc n) [] h = absurd (not-suc-le-zero h)
    set_next (suc n) (x ∷ t) h = ap (λ (l : List _). v ∷ l) (set_next n t (le_of_suc-le-suc h))

pub front_short : {A : Type 0} (v : A) (n : ℕ) (t : List A) → length t ≤ n → with_front v (length t) t ≡ with_front v n t
unfolding with_front
front_short v zero [] h = refl
front_short v zero (x ∷ t) h = absurd (not-suc-le-zero h)
front_short v (suc n) [] h = refl
front_short v (suc n) (x ∷ t) h = ap (λ (l : List _). v ∷ l) (front_short v n t (le_of_suc-le-suc h))

pub front_split : {A : Type 0} (v : A) (n : ℕ) (t : List A) → with_front v n (take n t) ++ drop n t ≡ with_front v n t
unfolding with_front
front_split v zero t = refl
front_split v (suc n) [] = refl
front_split v (suc n) (x ∷ t) = ap (λ (l : List _). v ∷ l) (front_split v n t)

-- the places up to the length, or up to n where that is less
pub front_least : {A : Type 0} (v : A) (n m : ℕ) (t : List A) → (n ≤ length t → m ≡ n) → (length t ≤ n → m ≡ length t)
    → with_front v m t ≡ with_front v n t
front_least v n m t short long = cases (dec_lt n (length t))
  where
    cases : Dec (n < length t) → with_front v m t ≡ with_front v n t
    cases (yes l) = let e : m ≡ n = short (omega arith) in rw e
    cases (no l) = let e : m ≡ length t = long (omega arith) in rw e (front_short v n t (omega arith))

pub zeroed_none : (t : List ℕ) → zeroed 0 t ≡ t
zeroed_none t = front_none 0 t

pub zeroed_below : (n : ℕ) (t : List ℕ) (i : ℕ) → i < n → get_or (zeroed n t) i 0 ≡ 0
unfolding with_front
zeroed_below zero t i h = absurd (not-suc-le-zero h)
zeroed_below (suc n) [] zero h = refl
zeroed_below (suc n) [] (suc i) h = refl
zeroed_below (suc n) (x ∷ t) zero h = refl
zeroed_below (suc n) (x ∷ t) (suc i) h = zeroed_below n t i (le_of_suc-le-suc h)

pub zeroed_beyond : (n : ℕ) (t : List ℕ) (i : ℕ) → n ≤ i → get_or (zeroed n t) i 0 ≡ get_or t i 0
unfolding with_front
zeroed_beyond zero t i h = refl
zeroed_beyond (suc n) [] i h = refl
zeroed_beyond (suc n) (x ∷ t) zero h = absurd (not-suc-le-zero h)
zeroed_beyond (suc n) (x ∷ t) (suc i) h = zeroed_beyond n t i (le_of_suc-le-suc h)

-- one place more
pub zeroed_more : (n : ℕ) (t : List ℕ) → n < length t → set (zeroed n t) n 0 ≡ zeroed (n + 1) t
zeroed_more n t h = front_more 0 n t h

-- a table that is shorter is zero throughout
pub zeroed_short : (n : ℕ) (t : List ℕ) → length t ≤ n → zeroed (length t) t ≡ zeroed n t
zeroed_short n t h = front_short 0 n t h

pub drop_zeroed : (k n : ℕ) (t : List ℕ) → k ≤ n → n ≤ length t
    → drop k (zeroed n t) ≡ replicate (n - k) 0 ++ drop n t
unfolding with_front
drop_zeroed zero zero t h l = refl
drop_zeroed (suc k) zero t h l = absurd (not-suc-le-zero h)
drop_zeroed k (suc n) [] h l = absurd (not-suc-le-zero l)
drop_zeroed zero (suc n) (x ∷ t) h l =
    let more : suc n - 0 ≡ suc (n - 0) = omega arith in
    rw more (ap (λ (u : List ℕ). 0 ∷ u) (drop_zeroed zero n t (omega arith) (le_of_suc-le-suc l)))
drop_zeroed (suc k) (suc n) (x ∷ t) h l =
    let less : suc n - suc k ≡ n - k = omega arith in
    rw less (drop_zeroed k n t (le_of_suc-le-suc h) (le_of_suc-le-suc l))

pub zeroed_same : (n : ℕ) (t u : List ℕ) → length u ≡ length t → ((x : ℕ) → n ≤ x → get_or u x 0 ≡ get_or t x 0)
    → zeroed n u ≡ zeroed n t
zeroed_same n t u size beyond =
    ext_get_or 0 (zeroed n u) (zeroed n t) (zeroed_length n u ∙ size ∙ sym (zeroed_length n t)) (λ x h. cases x (dec_lt x n))
  where
    cases : (x : ℕ) → Dec (x < n) → get_or (zeroed n u) x 0 ≡ get_or (zeroed n t) x 0
    cases x (yes l) = zeroed_below n u x l ∙ sym (zeroed_below n t x l)
    cases x (no l) = zeroed_beyond n u x (omega arith) ∙ beyond x (omega arith) ∙ sym (zeroed_beyond n t x (omega arith))

pub zeroed_twice : (n : ℕ) (t : List ℕ) → zeroed n (zeroed n t) ≡ zeroed n t
zeroed_twice n t = zeroed_same n t (zeroed n t) (zeroed_length n t) (zeroed_beyond n t)

-- ---- a number for each carrier

pub row_unique : {k : ℕ} {row u v : List ℕ} → RowLeft k row u → RowLeft k row v
    → ((i : ℕ) → i < k → get_or u i 0 ≡ get_or v i 0) → u ≡ v
row_unique {k} {row} {u} {v} a b same = ext_get_or 0 u v (a.size ∙ sym b.size) (λ i h. cases i (dec_lt i k) (dec_lt i carrier_limit))
  where
    cases : (i : ℕ) → Dec (i < k) → Dec (i < carrier_limit) → get_or u i 0 ≡ get_or v i 0
    cases i (yes h) d = same i h
    cases i (no h) (yes l) = a.unused i (omega arith) l ∙ sym (b.unused i (omega arith) l)
    cases i (no h) (no l) = a.beyond i (omega arith) ∙ sym (b.beyond i (omega arith))

pub row_over : {k : ℕ} {u : List ℕ} (row : List ℕ) → RowLeft k (zeroed carrier_limit row) u → RowLeft k row u
row_over row a = record {
  size = a.size ∙ zeroed_length carrier_limit row;
  unused = a.unused;
  beyond = λ x h. a.beyond x h ∙ zeroed_beyond carrier_limit row x h;
}

-- of a zeroed row only the places of the carriers changed
pub row_changed : {k : ℕ} (row : List ℕ) {u : List ℕ} → k ≤ carrier_limit → length u ≡ length row
    → ((i : ℕ) → k ≤ i → get_or u i 0 ≡ get_or (zeroed carrier_limit row) i 0) → RowLeft k row u
row_changed row few size others = record {
  size = size;
  unused = λ i h l. others i h ∙ zeroed_below carrier_limit row i l;
  beyond = λ i h. others i (omega arith) ∙ zeroed_beyond carrier_limit row i h;
}

-- ---- numbers in front

pub filled_none : (n : ℕ) (t : List ℕ) → n ≤ length t → filled [] n t ≡ zeroed n t
unfolding filled
filled_none n t h = sym (drop_zeroed 0 n t (omega arith) h)

pub filled_front : (numbers : List ℕ) (least : ℕ) (t : List ℕ) (n : ℕ) → length numbers ≡ n
    → take n (filled numbers least t) ≡ numbers
unfolding filled
filled_front numbers least t n sized = take_at numbers _ n sized

-- ---- what a refusal leaves

abbrev pub NotNine : ℕ → Type 0
NotNine n = ¬ (n ≡ 9)

pub left_by_other : (k n : ℕ) (t : List ℕ) → NotNine k → left k n t ≡ zeroed n t
left_by_other k n t other = rw (ne_eqb k 9 other)

abbrev pub AmongStage : (ℕ → Type 0) → Stage → Type 0
AmongStage P [] = Unit
AmongStage P (c ∷ s) = P c.number × AmongStage P s

abbrev pub Among : (ℕ → Type 0) → Question → Type 0
Among P [] = Unit
Among P (s ∷ q) = AmongStage P s × Among P q

pub first_among : (P : ℕ → Type 0) {q : Question} {f p : ℕ} → Among P q → First q f p → P f
first_among P {q} {f} {p} among h = go q among h.in_turn
  where
    in_stage : (s : Stage) → AmongStage P s → FirstAt s f p → P f
    in_stage [] a h = absurd h
    in_stage (c ∷ s) a (here h) = subst P (sym h.0) a.0
    in_stage (c ∷ s) a (later k h) = in_stage s a.1 h

    go : (q : Question) → Among P q → FirstStage q f p → P f
    go [] a h = absurd h
    go (s ∷ q) a (here h) = in_stage s a.0 h.holds
    go (s ∷ q) a (later n h) = go q a.1 h

-- a question without 9 zeroes
pub left_zeroed : {q : Question} {f p : ℕ} → Among NotNine q → First q f p → (n : ℕ) (t : List ℕ) → left f n t ≡ zeroed n t
left_zeroed {f = f} among h n t = left_by_other f n t (first_among NotNine among h)

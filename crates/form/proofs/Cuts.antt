-- Where a word or a number ends: its bytes are 48 or more, and the space and the line feed behind it are
-- less. So a text that begins with such bytes is cut there in one way, and a number is read off its digits
-- again (`value_of` of crate put). Assumes nothing.
--     Plain           each byte of a word is 48 or more
--     Breaks          a text is at its end, or its first byte is below 48
--     cut_unique      there is one cut of a text into plain bytes and a break
--     digits_plain    the digits of a number are plain; zero_alone none follows a first 0
--     NumberFirst     a text begins with the digits of a number, which end there; `number?` decides it,
--                     `numbers_unique` says that it is one number
use mathlib.Core.Path.{◌≡◌, refl, sym, ◌∙◌, ap}
use mathlib.Core.List.{List, [], ◌∷◌, ◌++◌}
use Prim.Native.Nat.{ℕ, ◌≤◌, ◌<◌}
use native.Mathlib.Decide.{dec_lt, ℕ_discrete}
use native.Mathlib.Omega.{arith}
use lib.ListN.{get_or}
use Rattle.put.specs.Digits.{digits, value_of}
use Rattle.put.proofs.Digits.{below_ten, digits_value, digits_unique, digits_leading, AllDigits, digits_each}

abbrev pub Plain : List ℕ → Type 0
Plain [] = Unit
Plain (b ∷ w) = (48 ≤ b) × Plain w

abbrev pub Breaks : List ℕ → Type 0
Breaks [] = Unit
Breaks (b ∷ t) = b < 48

-- ---- lists

pub head_same : {a b : ℕ} {x y : List ℕ} → a ∷ x ≡ b ∷ y → a ≡ b
head_same e = cc

pub tail_same : {a b : ℕ} {x y : List ℕ} → a ∷ x ≡ b ∷ y → x ≡ y
tail_same e = cc

pub never_empty : {A : Type 0} {a : ℕ} {x : List ℕ} → a ∷ x ≡ [] → A
never_empty e = let z : ◌≡◌ {A = ℕ} 0 1 = cc in absurd (let x : ⊥ = omega arith in x)

pub same? : (w v : List ℕ) → Dec (w ≡ v)
same? [] [] = yes refl
same? [] (b ∷ v) = no (λ e. never_empty (sym e))
same? (a ∷ w) [] = no (λ e. never_empty e)
same? (a ∷ w) (b ∷ v) = cases (ℕ_discrete a b) (same? w v)
  where
    cases : Dec (a ≡ b) → Dec (w ≡ v) → Dec (a ∷ w ≡ b ∷ v)
    cases (yes h) (yes k) = yes (cc)
    cases (yes h) (no k) = no (λ e. k (tail_same e))
    cases (no h) k = no (λ e. h (head_same e))

-- ---- a cut

pub cut_unique : (w v x y : List ℕ) → Plain w → Plain v → Breaks x → Breaks y → w ++ x ≡ v ++ y
    → (w ≡ v) × (x ≡ y)
cut_unique [] [] x y p q b d e = (refl, e)
cut_unique [] (c ∷ v) [] y p q b d e = never_empty (sym e)
cut_unique [] (c ∷ v) (a ∷ x) y p q b d e = let h = head_same e in
    absurd (let x : ⊥ = omega (arith, q.0) in x)
cut_unique (a ∷ w) [] x [] p q b d e = never_empty e
cut_unique (a ∷ w) [] x (c ∷ y) p q b d e = let h = head_same e in
    absurd (let x : ⊥ = omega (arith, p.0) in x)
cut_unique (a ∷ w) (c ∷ v) x y p q b d e =
    let h = head_same e in
    let r = cut_unique w v x y p.1 q.1 b d (tail_same e) in
    let k = r.0 in
    ((λ i. h i ∷ k i), r.1)

pub record Cut (t : List ℕ) : Type 0 where
  pub front : List ℕ
  pub rest : List ℕ
  pub joins : t ≡ front ++ rest
  pub plain : Plain front
  pub breaks : Breaks rest

pub cut : (t : List ℕ) → Cut t
cut [] = record { front = []; rest = []; joins = refl; plain = tt; breaks = tt }
cut (b ∷ t) = cases (dec_lt b 48) (cut t)
  where
    cases : Dec (b < 48) → Cut t → Cut (b ∷ t)
    cases (yes h) c = record { front = []; rest = b ∷ t; joins = refl; plain = tt; breaks = h }
    cases (no h) c =
        let j = c.joins in
        record {
          front = b ∷ c.front;
          rest = c.rest;
          joins = (λ i. b ∷ j i);
          plain = (omega arith, c.plain);
          breaks = c.breaks;
        }

-- ---- the digits of a number

all_plain : (l : List ℕ) → AllDigits l → Plain l
all_plain [] all = tt
all_plain (b ∷ l) all = (all.0, all_plain l all.2)

pub digits_plain : (n : ℕ) → Plain (digits n)
digits_plain n = all_plain (digits n) (digits_each n)

-- a number whose first digit is 0 has no other
pub zero_alone : (n : ℕ) (w : List ℕ) → digits n ≡ 48 ∷ w → w ≡ []
zero_alone n w e =
    let none = digits_leading n (ap (λ (l : List ℕ). get_or l 0 0) e) in
    tail_same (sym e ∙ ap digits none ∙ below_ten 0 (omega arith))

-- ---- a number at the front of a text

pub record NumberFirst (t : List ℕ) : Type 0 where
  pub n : ℕ
  pub rest : List ℕ
  pub small : n < 10000
  pub begins : t ≡ digits n ++ rest
  pub breaks : Breaks rest

pub numbers_unique : (m n : ℕ) (x y : List ℕ) → Breaks x → Breaks y → digits m ++ x ≡ digits n ++ y
    → (m ≡ n) × (x ≡ y)
numbers_unique m n x y b d e =
    let r = cut_unique (digits m) (digits n) x y (digits_plain m) (digits_plain n) b d e in
    (digits_unique m n r.0, r.1)

pub number? : (t : List ℕ) → Dec (NumberFirst t)
number? t = cases (dec_lt v 10000) (same? (digits v) c.front)
  where
    c : Cut t
    c = cut t

    v : ℕ
    v = value_of 0 c.front

    spelt : (x : NumberFirst t) → c.front ≡ digits x.n
    spelt x =
        (cut_unique c.front (digits x.n) c.rest x.rest c.plain (digits_plain x.n)
        c.breaks x.breaks
        (sym c.joins ∙ x.begins)).0

    its_value : (x : NumberFirst t) → v ≡ x.n
    its_value x = ap (value_of 0) (spelt x) ∙ digits_value x.n

    cases : Dec (v < 10000) → Dec (digits v ≡ c.front) → Dec (NumberFirst t)
    cases (yes h) (yes e) =
        yes (record {
          n = v;
          rest = c.rest;
          small = h;
          begins = c.joins ∙ ap (λ (l : List ℕ). l ++ c.rest) (sym e);
          breaks = c.breaks;
        })
    cases (yes h) (no e) = no (λ x. e (ap digits (its_value x) ∙ sym (spelt x)))
    cases (no h) e = no (λ x. let q = its_value x in let z = x.small in let y : ⊥ = omega arith in y)

-- The parts of a line at a place of the text: the rest from there on is the byte that stands there and the
-- rest behind it, so that the byte's kind decides. Assumes nothing.
--     byte_on        the byte that was taken, by its number
--     digit_got      a digit was taken, by the byte of its kind
--     WordSoFar      so many letters of a word are capital letters and stand in front of this place
--     DigitsSoFar    the digits of the value so far were taken. The value leaves room for the digits that may
--                    still come (`digit_room`), so that no number passes 9,999, and has all those that came
use mathlib.Core.Path.{◌≡◌, refl, sym, ◌∙◌, ap}
use mathlib.Core.Logic.{inl}
use mathlib.Core.List.{List, [], ◌∷◌, ◌++◌, append_assoc}
use Prim.Native.Nat.{ℕ, zero, suc, ◌+◌, ◌*◌, ◌-◌, ◌≤◌, ◌<◌}
use native.Mathlib.Numerals.{add-one}
use native.Mathlib.Omega.{arith}
use lib.ListN.{length, get_or, drop}
use lib.Seq.{drop-cons}
use Rattle.put.specs.Digits.{digit, digits}
use Rattle.put.proofs.Digits.{below_ten, digit_behind}
use Rattle.form.proofs.Cuts.{tail_same}
use Rattle.cursor.specs.declared.bytes.Kind.{Kind}
use Rattle.cursor.specs.declared.bytes.Kind.TheVariants.{Digit, Capital}
use Rattle.cursor.specs.declared.Cursor.{Cursor}
use Rattle.std.specs.Prelude.{Option, None}
use Rattle.cursor.specs.Bytes.{Capitals}
use Rattle.cursor.specs.Parts.{ByteTaken, Taking, DigitTaken, NumberTaken, Numbering}
use Rattle.cursor.proofs.ByteKinds.{kind_capital, lies}

-- ---- one byte

pub front : (text : List ℕ) (at : ℕ) → at < length text → drop at text ≡ get_or text at 0 ∷ drop (at + 1) text
front text at h = rw add-one (drop-cons text at 0 h)

module _ {text : List ℕ} {c : Cursor} {b : ℕ} {next : Cursor} where
  pub byte_on : {kind : Kind} (n : ℕ) → ByteTaken text c kind b next → b ≡ n
      → drop c.at text ≡ n ∷ drop next.at text
  byte_on n x e = x.begins ∙ (λ i. e i ∷ drop next.at text)

  pub digit_got : ByteTaken text c Digit b next → DigitTaken text c (b - 48) next
  digit_got x =
      let r = lies b Digit x.of_kind in
      record {
        below = omega (arith, r.1);
        begins = byte_on (digit (b - 48)) x (omega (arith, r.0));
        same_line = x.same_line;
      }

-- ---- the letters of a word

-- the letters from place i on are asked at place `at`
pub record WordSoFar (text word : List ℕ) (start i at : ℕ) : Type 0 where
  pub here : (rest : List ℕ) → drop at text ≡ drop i word ++ rest → drop start text ≡ word ++ rest
  pub back : (rest : List ℕ) → drop start text ≡ word ++ rest → drop at text ≡ drop i word ++ rest
  pub ours : Capitals (drop i word) → Capitals word
  pub theirs : Capitals word → Capitals (drop i word)

module _ (text word : List ℕ) (start : ℕ) where
  module _ (i : ℕ) (here : Cursor) (inside : i < length word) (w : WordSoFar text word start i here.at) where
    letter : drop i word ≡ get_or word i 0 ∷ drop (i + 1) word
    letter = front word i inside

    -- with the word the letter stands here
    stands : (rest : List ℕ) → drop start text ≡ word ++ rest
        → drop here.at text ≡ get_or word i 0 ∷ (drop (i + 1) word ++ rest)
    stands rest e = w.back rest e ∙ ap (λ (l : List ℕ). l ++ rest) letter

    pub word_ends : Taking text here Capital None → Capitals word → (rest : List ℕ)
        → ¬ (drop start text ≡ word ++ rest)
    word_ends none caps rest e =
        let own = rw letter at (w.theirs caps) in
        none (get_or word i 0) (drop (i + 1) word ++ rest) (kind_capital (get_or word i 0) own.0 own.1)
        (stands rest e)

    module _ (b : ℕ) (next : Cursor) (x : ByteTaken text here Capital b next) where
      pub word_goes_on : b ≡ get_or word i 0 → WordSoFar text word start (i + 1) next.at
      word_goes_on e = record {
        here = λ rest h.
            w.here rest (x.begins ∙ (λ j. e j ∷ h j) ∙ ap (λ (l : List ℕ). l ++ rest) (sym letter));
        back = λ rest h. tail_same (sym x.begins ∙ stands rest h);
        ours = λ y.
            let own = rw e at (lies b Capital x.of_kind) in
            w.ours (rw letter (own.0, own.1, y));
        theirs = λ y. (rw letter at (w.theirs y)).2;
      }

-- ---- the further digits of a number

-- the value so far is below this where so many digits may still come
abbrev pub digit_room : ℕ → ℕ
digit_room zero = 10000
digit_room (suc zero) = 1000
digit_room (suc (suc zero)) = 100
digit_room (suc (suc (suc n))) = 10

pub record DigitsSoFar (text t : List ℕ) (line value : ℕ) (here : Cursor) (left : ℕ) : Type 0 where
  pub begins : t ≡ digits value ++ drop here.at text
  pub fits : value < digit_room left
  pub full : digit_room left ≤ value * 10
  pub few : left ≤ 3
  pub same_line : here.line ≡ line

room_high : (l : ℕ) → 10 ≤ digit_room l
room_high zero = omega arith
room_high (suc zero) = omega arith
room_high (suc (suc zero)) = omega arith
room_high (suc (suc (suc l))) = omega arith

room_tenth : (l : ℕ) → l < 3 → digit_room l ≡ digit_room (suc l) * 10
room_tenth zero h = refl
room_tenth (suc zero) h = refl
room_tenth (suc (suc zero)) h = refl
room_tenth (suc (suc (suc l))) h = absurd (let x : ⊥ = omega arith in x)

module _ (text t : List ℕ) (line value : ℕ) (here : Cursor) where
  pub digits_next : (left d : ℕ) (next : Cursor) → 0 < left → DigitsSoFar text t line value here left
      → DigitTaken text here d next → DigitsSoFar text t line (value * 10 + d) next (left - 1)
  digits_next zero d next h i n = absurd (let x : ⊥ = omega arith in x)
  digits_next (suc l) d next h i n =
      let e : suc l - 1 ≡ l = omega arith in
      let tenth = room_tenth l (omega (arith, i.few)) in
      let some : 1 ≤ value = omega (arith, i.full, room_high (suc l)) in
      let more = digit_behind value d some n.below in
      rw e (record {
        begins = i.begins ∙ ap (λ (l : List ℕ). digits value ++ l) n.begins
            ∙ sym (append_assoc (digits value) (digit d ∷ []) (drop next.at text))
            ∙ ap (λ (l : List ℕ). l ++ drop next.at text) (sym more);
        fits = omega (arith, i.fits, tenth, n.below);
        full = omega (arith, i.full, tenth);
        few = omega (arith, i.few);
        same_line = n.same_line ∙ i.same_line;
      })

-- ---- a number from its first digit on

module _ (text : List ℕ) (c : Cursor) (d : ℕ) (next : Cursor) (taken : DigitTaken text c d next) where
  pub number_front : drop c.at text ≡ digits d ++ drop next.at text
  number_front =
      taken.begins
      ∙ ap (λ (w : List ℕ). w ++ drop next.at text) (sym (below_ten d taken.below))

  pub number_zero : d ≡ 0 → NumberTaken text (drop c.at text) c.line 0 next
  number_zero e = record {
    small = omega arith;
    begins = rw e at number_front;
    ends = inl refl;
    same_line = taken.same_line;
  }

  pub number_more : (r : Option (ℕ × Cursor))
      → Numbering text (digits d ++ drop next.at text) next.line r
      → Numbering text (drop c.at text) c.line r
  number_more r x = rw (number_front, ← taken.same_line) x

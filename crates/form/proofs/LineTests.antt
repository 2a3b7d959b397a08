-- Whether a text begins with a line of a form is decided: cut off the word or the number at the front, and go
-- on behind it. That there is no such line follows from the line's one reading (LineForms.antt). Assumes
-- nothing.
--     Furthered        a text begins with so many further numbers of a line; `further?` whether it does
--     Followed         it begins with a number and so many further ones; `follow?` whether it does
--     followed         so it does where a line of numbers stands
--     entry?, count?   whether it begins with a line of so many numbers, of a word and a count
use mathlib.Core.Path.{◌≡◌, refl, sym, ◌∙◌, ap}
use mathlib.Core.List.{List, [], ◌∷◌, ◌++◌, append_assoc}
use Prim.Native.Nat.{ℕ, zero, suc}
use native.Mathlib.Decide.{ℕ_discrete}
use native.Mathlib.Omega.{arith}
use lib.ListN.{length}
use Rattle.put.specs.Digits.{digits}
use Rattle.form.specs.Lines.{Small, further, entry_line, count_line, Counted, Entered}
use Rattle.form.proofs.Cuts.{head_same, tail_same, never_empty, NumberFirst, number?}
use Rattle.form.proofs.Cuts.{numbers_unique}
use Rattle.form.proofs.LineForms.{further_breaks}

pub record Furthered (k : ℕ) (t : List ℕ) : Type 0 where
  pub e : List ℕ
  pub rest : List ℕ
  pub sized : length e ≡ k
  pub small : Small e
  pub begins : t ≡ further e ++ rest

-- ---- a number, and then further ones

-- `k` further numbers stand behind the number at the front
pub record Followed (k : ℕ) (t : List ℕ) : Type 0 where
  pub a : ℕ
  pub e : List ℕ
  pub rest : List ℕ
  pub sized : length e ≡ k
  pub small : Small (a ∷ e)
  pub begins : t ≡ (digits a ++ further e) ++ rest

pub followed_front : {k : ℕ} {t : List ℕ} (x : Followed k t)
    → t ≡ digits x.a ++ (further x.e ++ x.rest)
followed_front x = x.begins ∙ append_assoc (digits x.a) (further x.e) x.rest

module _ (k : ℕ) (more? : (t : List ℕ) → Dec (Furthered k t)) where
  pub follow? : (t : List ℕ) → Dec (Followed k t)
  follow? t = first (number? t)
    where
      behind : (x : NumberFirst t) → Dec (Furthered k x.rest) → Dec (Followed k t)
      behind x (yes y) =
          let b = y.begins in
          let joins = x.begins ∙ ap (λ (l : List ℕ). digits x.n ++ l) b in
          yes (record {
            a = x.n;
            e = y.e;
            rest = y.rest;
            sized = y.sized;
            small = (x.small, y.small);
            begins = joins ∙ sym (append_assoc (digits x.n) (further y.e) y.rest);
          })
      behind x (no y) = no λ z.
          let same = numbers_unique x.n z.a x.rest (further z.e ++ z.rest) x.breaks
          (further_breaks z.e z.rest) (sym x.begins ∙ followed_front z) in
          y (record { e = z.e; rest = z.rest; sized = z.sized; small = z.small.1; begins = same.1 })

      first : Dec (NumberFirst t) → Dec (Followed k t)
      first (yes x) = behind x (more? x.rest)
      first (no x) = no λ z.
          x (record {
            n = z.a;
            rest = further z.e ++ z.rest;
            small = z.small.0;
            begins = followed_front z;
            breaks = further_breaks z.e z.rest;
          })

no_further : (e r : List ℕ) → [] ≡ further e ++ r → ⊥
unfolding further
no_further [] r q = never_empty (sym q)
no_further (b ∷ e) r q = never_empty (sym q)

pub further? : (k : ℕ) (t : List ℕ) → Dec (Furthered k t)
unfolding further
further? zero [] = no (λ x. no_further x.e x.rest x.begins)
further? zero (b ∷ t) = cases (ℕ_discrete b 10)
  where
    feed : (e r : List ℕ) → length e ≡ 0 → b ∷ t ≡ further e ++ r → b ≡ 10
    feed [] r l q = head_same q
    feed (a ∷ e) r l q = absurd (let x : ⊥ = omega arith in x)

    cases : Dec (b ≡ 10) → Dec (Furthered 0 (b ∷ t))
    cases (yes h) = yes (record { e = []; rest = t; sized = refl; small = tt; begins = (λ i. h i ∷ t) })
    cases (no h) = no (λ x. h (feed x.e x.rest x.sized x.begins))
further? (suc k) [] = no (λ x. no_further x.e x.rest x.begins)
further? (suc k) (b ∷ t) = cases (ℕ_discrete b 32) (follow? k (further? k) t)
  where
    space : (e r : List ℕ) → length e ≡ suc k → b ∷ t ≡ further e ++ r → b ≡ 32
    space [] r l q = absurd (let x : ⊥ = omega arith in x)
    space (a ∷ e) r l q = head_same q

    after : (e r : List ℕ) → length e ≡ suc k → Small e → b ∷ t ≡ further e ++ r → Followed k t
    after [] r l s q = absurd (let x : ⊥ = omega arith in x)
    after (a ∷ e) r l s q =
        record { a = a; e = e; rest = r; sized = omega arith; small = s; begins = tail_same q }

    cases : Dec (b ≡ 32) → Dec (Followed k t) → Dec (Furthered (suc k) (b ∷ t))
    cases (yes h) (yes x) =
        let q = x.begins in
        yes (record {
          e = x.a ∷ x.e;
          rest = x.rest;
          sized = omega (arith, x.sized);
          small = x.small;
          begins = (λ i. h i ∷ q i);
        })
    cases (yes h) (no x) = no (λ y. x (after y.e y.rest y.sized y.small y.begins))
    cases (no h) x = no (λ y. h (space y.e y.rest y.sized y.begins))

-- ---- a line

pub followed : (k : ℕ) (t : List ℕ) → Entered (suc k) t → Followed k t
unfolding entry_line
followed k t x = back x.e x.rest x.sized x.small x.begins
  where
    back : (e r : List ℕ) → length e ≡ suc k → Small e → t ≡ entry_line e ++ r → Followed k t
    back [] r l s q = absurd (let x : ⊥ = omega arith in x)
    back (a ∷ e) r l s q = record { a = a; e = e; rest = r; sized = omega arith; small = s; begins = q }

pub entry? : (k : ℕ) (t : List ℕ) → Dec (Entered (suc k) t)
unfolding entry_line
entry? k t = cases (follow? k (further? k) t)
  where
    cases : Dec (Followed k t) → Dec (Entered (suc k) t)
    cases (yes x) = yes (record {
      e = x.a ∷ x.e;
      rest = x.rest;
      sized = omega (arith, x.sized);
      small = x.small;
      begins = x.begins;
    })
    cases (no x) = no (λ y. x (followed k t y))

pub record Fronted (w t : List ℕ) : Type 0 where
  pub rest : List ℕ
  pub begins : t ≡ w ++ rest

pub front? : (w t : List ℕ) → Dec (Fronted w t)
front? [] t = yes (record { rest = t; begins = refl })
front? (a ∷ w) [] = no (λ x. never_empty (sym x.begins))
front? (a ∷ w) (b ∷ t) = cases (ℕ_discrete b a) (front? w t)
  where
    cases : Dec (b ≡ a) → Dec (Fronted w t) → Dec (Fronted (a ∷ w) (b ∷ t))
    cases (yes h) (yes x) = let q = x.begins in yes (record { rest = x.rest; begins = (λ i. h i ∷ q i) })
    cases (yes h) (no x) = no (λ y. x (record { rest = y.rest; begins = tail_same y.begins }))
    cases (no h) x = no (λ y. h (head_same y.begins))

pub front_unique : (w x y : List ℕ) → w ++ x ≡ w ++ y → x ≡ y
front_unique [] x y e = e
front_unique (a ∷ w) x y e = front_unique w x y (tail_same e)

pub count? : (word t : List ℕ) → Dec (Counted word t)
unfolding count_line
count? word t = cases (front? word t)
  where
    front : (x : Counted word t) → t ≡ word ++ (further (x.n ∷ []) ++ x.rest)
    front x = x.begins ∙ append_assoc word (further (x.n ∷ [])) x.rest

    one : (x : Fronted word t) (e r : List ℕ) → length e ≡ 1 → Small e → x.rest ≡ further e ++ r
        → Counted word t
    one x [] r l s q = absurd (let y : ⊥ = omega arith in y)
    one x (n ∷ []) r l s q =
        let joins = x.begins ∙ ap (λ (l : List ℕ). word ++ l) q in
        record {
          n = n;
          rest = r;
          small = s.0;
          begins = joins ∙ sym (append_assoc word (further (n ∷ [])) r);
        }
    one x (n ∷ m ∷ e) r l s q = absurd (let y : ⊥ = omega arith in y)

    behind : (x : Fronted word t) → Dec (Furthered 1 x.rest) → Dec (Counted word t)
    behind x (yes y) = yes (one x y.e y.rest y.sized y.small y.begins)
    behind x (no y) = no λ z.
        y (record {
          e = z.n ∷ [];
          rest = z.rest;
          sized = refl;
          small = (z.small, tt);
          begins = front_unique word x.rest (further (z.n ∷ []) ++ z.rest) (sym x.begins ∙ front z);
        })

    cases : Dec (Fronted word t) → Dec (Counted word t)
    cases (yes x) = behind x (further? 1 x.rest)
    cases (no x) = no (λ z. x (record { rest = further (z.n ∷ []) ++ z.rest; begins = front z }))

-- The lines of the form, put together from their parts: where a part is lacking there is no such line, since
-- the number at the front of a text is one (FrontNumbers.antt); otherwise the next part stands in what is
-- left. Assumes nothing.
--     no_entry         no line of numbers stands where no digit does
--     behind_number    behind the number that was taken stands what is behind the first one of the line
--     one-..           a line of one number stands, or lacks its line feed
--     pair-..          a line of two numbers stands, or lacks its space or its second number
--     count-..         a line of a word and a count stands, or lacks its word, its space or its count
use mathlib.Core.Path.{◌≡◌, refl, sym, ◌∙◌, ap, subst}
use mathlib.Core.List.{List, [], ◌∷◌, ◌++◌, append_assoc}
use Prim.Native.Nat.{ℕ, suc, min}
use native.Mathlib.Omega.{arith}
use lib.ListN.{length, drop}
use Rattle.put.specs.Digits.{digits}
use Rattle.form.specs.Lines.{Small, further, entry_line, count_line, Counted, Entered}
use Rattle.form.proofs.Cuts.{tail_same}
use Rattle.form.proofs.LineForms.{further_breaks}
use Rattle.form.proofs.LineTests.{front_unique, Followed, followed, followed_front}
use Rattle.cursor.specs.declared.Cursor.{Cursor}
use Rattle.std.specs.Prelude.{Option, None, Some}
use Rattle.cursor.specs.Steps.{line_limit, Behind, Counting, EntryTaken, Entering}
use Rattle.cursor.specs.Bytes.{Capitals}
use Rattle.cursor.specs.Parts.{NoDigit, NumberTaken}
use Rattle.cursor.proofs.FrontNumbers.{number_once, no_number}

-- ---- a line of numbers begins with its first one

pub no_entry : (k : ℕ) (t : List ℕ) → NoDigit t → ¬ Entered (suc k) t
no_entry k t none x =
    let f = followed k t x in
    no_number t none f.a (further f.e ++ f.rest) (followed_front f)

pub behind_number : (text t : List ℕ) (line n : ℕ) (next : Cursor) → NumberTaken text t line n next
    → (k : ℕ) (f : Followed k t) → drop next.at text ≡ further f.e ++ f.rest
behind_number text t line n next x k f =
    (number_once n f.a (drop next.at text) (further f.e ++ f.rest) f.small.0 x.ends
    (further_breaks f.e f.rest) (sym x.begins ∙ followed_front f)).1

no_numbers : (e : List ℕ) → length e ≡ 0 → e ≡ []
no_numbers [] l = refl
no_numbers (a ∷ e) l = absurd (let x : ⊥ = omega arith in x)

module _ (text : List ℕ) (c : Cursor) (n : ℕ) (behind : Cursor)
    (number : NumberTaken text (drop c.at text) c.line n behind) where
  -- ---- a line of one number

  module _ (next : Cursor) (feed : drop behind.at text ≡ 10 ∷ drop next.at text)
      (line : Behind text behind next (drop next.at text)) where
    pub one_line : EntryTaken text c (n ∷ []) next
    unfolding entry_line further
    one_line = record {
      taken = record {
        e = n ∷ [];
        rest = drop next.at text;
        sized = refl;
        small = (number.small, tt);
        begins = number.begins ∙ ap (λ (l : List ℕ). digits n ++ l) feed
            ∙ sym (append_assoc (digits n) (10 ∷ []) (drop next.at text));
      };
      is_entry = refl;
      behind = record {
        within = line.within;
        is_rest = refl;
        next_line = line.next_line ∙ ap (λ (l : ℕ). min (suc l) line_limit) number.same_line;
      };
    }

  pub one_open : ((rest : List ℕ) → ¬ (drop behind.at text ≡ 10 ∷ rest))
      → ¬ Entered 1 (drop c.at text)
  unfolding further
  one_open lacks x =
      let f = followed 0 (drop c.at text) x in
      let none = no_numbers f.e f.sized in
      lacks f.rest
      (behind_number text (drop c.at text) c.line n behind number 0 f
      ∙ ap (λ (e : List ℕ). further e ++ f.rest) none)

  -- ---- a line of two numbers

  -- where a line of two numbers stands, a line of one stands behind the first number and the space
  another : (e rest : List ℕ) → length e ≡ 1 → Small e → drop behind.at text ≡ further e ++ rest
      → (r : List ℕ) × Entered 1 r × (drop behind.at text ≡ 32 ∷ r)
  unfolding further entry_line
  another [] rest l s q = absurd (let x : ⊥ = omega arith in x)
  another (b ∷ e) rest l s q = (
    entry_line (b ∷ e) ++ rest,
    record { e = b ∷ e; rest = rest; sized = l; small = s; begins = refl },
    q,
  )

  second_line : Entered 2 (drop c.at text)
      → (r : List ℕ) × Entered 1 r × (drop behind.at text ≡ 32 ∷ r)
  second_line x =
      let f = followed 1 (drop c.at text) x in
      another f.e f.rest f.sized f.small.1
      (behind_number text (drop c.at text) c.line n behind number 1 f)

  pub pair_alone : ((rest : List ℕ) → ¬ (drop behind.at text ≡ 32 ∷ rest))
      → ¬ Entered 2 (drop c.at text)
  pair_alone lacks x = let s = second_line x in lacks s.0 s.2

  module _ (second : Cursor) (space : drop behind.at text ≡ 32 ∷ drop second.at text) where
    pub pair_open : ¬ Entered 1 (drop second.at text) → ¬ Entered 2 (drop c.at text)
    pair_open lacks x =
        let s = second_line x in
        let same = tail_same (sym s.2 ∙ space) in
        lacks (subst (Entered 1) same s.1)

    pub pair_line : second.line ≡ behind.line → (b : ℕ) (next : Cursor)
        → EntryTaken text second (b ∷ []) next → EntryTaken text c (n ∷ b ∷ []) next
    unfolding entry_line further
    pair_line same b next x =
        let own = x.taken in
        let ends = own.begins ∙ ap (λ (e : List ℕ). entry_line e ++ own.rest) x.is_entry in
        record {
          taken = record {
            e = n ∷ b ∷ [];
            rest = own.rest;
            sized = refl;
            small = (number.small, subst Small x.is_entry own.small);
            begins = number.begins ∙ ap (λ (l : List ℕ). digits n ++ l)
                (space ∙ ap (λ (l : List ℕ). 32 ∷ l) ends)
                ∙ sym (append_assoc (digits n) (further (b ∷ [])) own.rest);
          };
          is_entry = refl;
          behind = record {
            within = x.behind.within;
            is_rest = x.behind.is_rest;
            next_line =
                x.behind.next_line ∙ ap (λ (l : ℕ). min (suc l) line_limit) (same ∙ number.same_line);
          };
        }

-- ---- a line of a word and a count

module _ (text word : List ℕ) (c : Cursor) where
  spelt : (x : Counted word (drop c.at text))
      → drop c.at text ≡ word ++ (32 ∷ (entry_line (x.n ∷ []) ++ x.rest))
  unfolding count_line further entry_line
  spelt x = x.begins ∙ append_assoc word (further (x.n ∷ [])) x.rest

  pub count_bad : (Capitals word → (rest : List ℕ) → ¬ (drop c.at text ≡ word ++ rest))
      → Counting text word c None
  count_bad lacks caps x = lacks caps (32 ∷ (entry_line (x.n ∷ []) ++ x.rest)) (spelt x)

  module _ (behind : Cursor) (begins : drop c.at text ≡ word ++ drop behind.at text)
      (caps : Capitals word) where
    after_word : (x : Counted word (drop c.at text))
        → drop behind.at text ≡ 32 ∷ (entry_line (x.n ∷ []) ++ x.rest)
    after_word x =
        front_unique word (drop behind.at text) (32 ∷ (entry_line (x.n ∷ []) ++ x.rest))
        (sym begins ∙ spelt x)

    pub count_alone : ((rest : List ℕ) → ¬ (drop behind.at text ≡ 32 ∷ rest))
        → Counting text word c None
    count_alone lacks _ x = lacks (entry_line (x.n ∷ []) ++ x.rest) (after_word x)

    module _ (second : Cursor) (space : drop behind.at text ≡ 32 ∷ drop second.at text) where
      pub count_line_lem : second.line ≡ c.line → (r : Option (ℕ × Cursor)) → Entering text second r
          → Counting text word c r
      unfolding count_line further entry_line
      count_line_lem same (Some (n, next)) x =
          let own = x.taken in
          let ends = own.begins ∙ ap (λ (e : List ℕ). entry_line e ++ own.rest) x.is_entry in
          record {
            capitals = caps;
            taken = record {
              n = n;
              rest = own.rest;
              small = (subst Small x.is_entry own.small).0;
              begins = begins ∙ ap (λ (l : List ℕ). word ++ l) (space ∙ ap (λ (l : List ℕ). 32 ∷ l) ends)
                  ∙ sym (append_assoc word (further (n ∷ [])) own.rest);
            };
            is_count = refl;
            behind = record {
              within = x.behind.within;
              is_rest = x.behind.is_rest;
              next_line = x.behind.next_line ∙ ap (λ (l : ℕ). min (suc l) line_limit) same;
            };
          }
      count_line_lem same None lacks = λ _ x.
          lacks (record {
            e = x.n ∷ [];
            rest = x.rest;
            sized = refl;
            small = (x.small, tt);
            begins = tail_same (sym space ∙ after_word x);
          })

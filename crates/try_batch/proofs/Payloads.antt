-- Numbers and lists of a payload. What stands at a place of the rest of a payload stands in the payload that
-- much further on. Two fronts, or two rests, that are cut at the same place of a list are equal. Numbers that
-- are loaded one by one into a list stand at its front, with what it held behind them; so its front is the
-- numbers. Assumes nothing.
--     short_of, long_of     a number of two bytes, and one of four, at the front of the rest of a payload
--     take_cut, drop_cut    fronts and rests of a list
--     ShortsLoaded          how far a loop that loads numbers has come: shorts_none begins it, shorts_more
--                           takes it a number further and shorts_whole ends it
--     shorts_front          the front of a list that numbers are loaded into
use mathlib.Core.Path.{◌≡◌, refl, sym, ◌∙◌, ap}
use mathlib.Core.List.{List, [], ◌∷◌, ◌++◌, append_assoc}
use Prim.Native.Nat.{ℕ, zero, suc, ◌+◌, ◌*◌, ◌≤◌, ◌<◌, min}
use native.Mathlib.Decide.{dec_lt}
use native.Mathlib.Numerals.{add-one}
use native.Mathlib.Omega.{arith}
use lib.ListN.{length, get_or, take, drop, set, length-append, length-drop, drop_of_length-le}
use lib.Seq.{get_or-drop, take_all, take_at, set_at, drop-cons}
use Rattle.try_batch.specs.Payloads.{byte_in, short_in, long_in, shorts_in, shorts_over}

module _ (s : List ℕ) (at : ℕ) where
  byte_further : (k : ℕ) → byte_in (drop at s) k ≡ byte_in s (at + k)
  byte_further k = get_or-drop at s k 0

  short_further : (k : ℕ) → short_in (drop at s) k ≡ short_in s (at + k)
  unfolding short_in
  short_further k =
      let next : at + (k + 1) ≡ at + k + 1 = omega arith in
      omega (arith, byte_further k, byte_further (k + 1) ∙ ap (byte_in s) next)

  module _ {part : List ℕ} (left : part ≡ drop at s) where
    pub short_of : short_in part 0 ≡ short_in s at
    short_of =
        let here : at + 0 ≡ at = omega arith in
        ap (λ (p : List ℕ). short_in p 0) left ∙ short_further 0 ∙ ap (short_in s) here

    pub long_of : long_in part 0 ≡ long_in s at
    unfolding long_in
    long_of =
        let high_short = ap (λ (p : List ℕ). short_in p 2) left ∙ short_further 2 in
        omega (arith, short_of, high_short)

-- ---- fronts and rests of a list

module _ (m n : ℕ) (l : List ℕ) (same : min m (length l) ≡ min n (length l)) where
  pub take_cut : take m l ≡ take n l
  take_cut = cases (dec_lt n (length l))
    where
      cases : Dec (n < length l) → take m l ≡ take n l
      cases (yes h) = let cut : m ≡ n = omega arith in rw cut
      cases (no h) = take_all m l (omega arith) ∙ sym (take_all n l (omega arith))

  pub drop_cut : drop m l ≡ drop n l
  drop_cut = cases (dec_lt n (length l))
    where
      cases : Dec (n < length l) → drop m l ≡ drop n l
      cases (yes h) = let cut : m ≡ n = omega arith in rw cut
      cases (no h) =
          drop_of_length-le l {i = m} (omega arith) ∙ sym (drop_of_length-le l {i = n} (omega arith))

-- ---- numbers loaded one by one

shorts_length : (s : List ℕ) (n : ℕ) → length (shorts_in s n) ≡ n
unfolding shorts_in
shorts_length s zero = refl
shorts_length s (suc n) =
    length-append (shorts_in s n) (short_in s (2 * n) ∷ []) ∙ omega (arith, shorts_length s n)

-- the next number, stored behind the first i
store_next : (s list : List ℕ) (i : ℕ) → i < length list
    → set (shorts_in s i ++ drop i list) i (short_in s (2 * i)) ≡ shorts_in s (i + 1) ++ drop (i + 1) list
unfolding shorts_in
store_next s list i h =
    rw (add-one, drop-cons list i 0)
    (set_at (shorts_in s i) (get_or list i 0) (drop (suc i) list) (short_in s (2 * i)) i (shorts_length s i)
    ∙ sym (append_assoc (shorts_in s i) (short_in s (2 * i) ∷ []) (drop (suc i) list)))

-- a list into which numbers are being loaded now has the first i of them
pub record ShortsLoaded (s : List ℕ) (count : ℕ) (list list' : List ℕ) (i : ℕ) : Type 0 where
  -- no more than the count says and the list has places
  pub within : i ≤ min count (length list)
  -- they stand at the front, and what the list held stands behind them
  pub stand : list' ≡ shorts_in s i ++ drop i list

module _ {s : List ℕ} {count : ℕ} {list : List ℕ} where
  pub shorts_none : ShortsLoaded s count list list 0
  unfolding shorts_in
  shorts_none = record { within = omega arith; stand = refl }

  module _ {list' : List ℕ} {i : ℕ} (l : ShortsLoaded s count list list' i) where
    pub shorts_kept : length list' ≡ length list
    shorts_kept =
        let long = length-append (shorts_in s i) (drop i list) in
        ap length l.stand ∙ omega (arith, long, shorts_length s i, length-drop i list, l.within)

    pub shorts_more : i < min count (length list) → {x : ℕ} → x ≡ short_in s (2 * i)
        → ShortsLoaded s count list (set list' i x) (i + 1)
    shorts_more h e =
        record {
          within = omega arith;
          stand = (λ k. set (l.stand k) i (e k)) ∙ store_next s list i (omega arith);
        }

    pub shorts_whole : min count (length list) ≤ i → list' ≡ shorts_over s count list
    unfolding shorts_over
    shorts_whole h =
        let e : i ≡ min count (length list) = omega (arith, l.within) in
        let rest = drop_cut i count list (omega arith) in
        l.stand ∙ λ k. shorts_in s (e k) ++ rest k

-- ---- the front of a list that numbers are loaded into

pub shorts_front : (s list : List ℕ) (n : ℕ) → take n (shorts_over s n list) ≡ shorts_in s (min n (length list))
unfolding shorts_over
shorts_front s list n =
    let numbers = shorts_in s (min n (length list)) in
    let whole = numbers ++ drop n list in
    let long = shorts_length s (min n (length list)) in
    take_cut n (min n (length list)) whole
    (omega (arith, long, length-append numbers (drop n list), length-drop n list))
    ∙ take_at numbers (drop n list) (min n (length list)) long

-- Bytes that are put into a list. They keep the list's length, two runs of bytes one behind the other are one
-- run (`put_then`), and one byte is a store. By induction over the list and the place; beyond the end nothing
-- is put, and there a second run adds nothing to the first. Where there is room, what is put at the front is
-- the bytes with the rest behind them. Assumes nothing.
--     put_then       two runs are one; puts_then the same of an `Out`
--     put_closed     a text at the front and zeros behind it up to a least length fill the list;
--                    puts_closed the same of an `Out` that began at the front
--     put_unique     two outcomes that fit the promise are equal; puts_unique the same of an `Out`
use mathlib.Core.Path.{◌≡◌, refl, sym, ◌∙◌, ap}
use mathlib.Core.List.{List, [], ◌∷◌, ◌++◌, append_assoc}
use Prim.Native.Nat.{ℕ, zero, suc, ◌+◌, ◌-◌, ◌≤◌, ◌<◌, max, min}
use native.Mathlib.Nat.{not-suc-le-zero, le_of_suc-le-suc, suc-add, zero-add}
use native.Mathlib.Decide.{dec_lt}
use native.Mathlib.Numerals.{add-one}
use native.Mathlib.Omega.{arith}
use lib.ListN.{length, drop, set, take, get_or, replicate, length-append, length-replicate, replicate-append-replicate}
use lib.Seq.{take-suc}
use Rattle.put.specs.declared.Out.{Out}
use Rattle.put.specs.Putting.{overwritten, past, Put, Puts, ZerosRest}

pub put_length : (at : ℕ) (bytes out : List ℕ) → length (overwritten at bytes out) ≡ length out
unfolding overwritten
put_length at bytes [] = refl
put_length zero [] (x ∷ out) = refl
put_length zero (b ∷ bytes) (x ∷ out) = ap suc (put_length zero bytes out)
put_length (suc at) bytes (x ∷ out) = ap suc (put_length at bytes out)

pub put_nothing : (at : ℕ) (out : List ℕ) → overwritten at [] out ≡ out
unfolding overwritten
put_nothing at [] = refl
put_nothing zero (x ∷ out) = refl
put_nothing (suc at) (x ∷ out) = ap (λ (l : List ℕ). x ∷ l) (put_nothing at out)

-- beyond the end nothing is put
pub put_beyond : (at : ℕ) (bytes out : List ℕ) → length out ≤ at → overwritten at bytes out ≡ out
unfolding overwritten
put_beyond at bytes [] h = refl
put_beyond zero bytes (x ∷ out) h = absurd (not-suc-le-zero h)
put_beyond (suc at) bytes (x ∷ out) h =
    ap (λ (l : List ℕ). x ∷ l) (put_beyond at bytes out (le_of_suc-le-suc h))

pub put_store : (at b : ℕ) (out : List ℕ) → set out at b ≡ overwritten at (b ∷ []) out
unfolding overwritten
put_store at b [] = refl
put_store zero b (x ∷ out) = ap (λ (l : List ℕ). b ∷ l) (sym (put_nothing 0 out))
put_store (suc at) b (x ∷ out) = ap (λ (l : List ℕ). x ∷ l) (put_store at b out)

front_behind : (a b out : List ℕ) → overwritten (length a) b (overwritten 0 a out) ≡ overwritten 0 (a ++ b) out
unfolding overwritten
front_behind a b [] = refl
front_behind [] b (x ∷ out) = refl
front_behind (y ∷ a) b (x ∷ out) = ap (λ (l : List ℕ). y ∷ l) (front_behind a b out)

pub put_behind : (at : ℕ) (a b out : List ℕ)
    → overwritten (at + length a) b (overwritten at a out) ≡ overwritten at (a ++ b) out
unfolding overwritten
put_behind at a b [] = refl
put_behind zero a b (x ∷ out) = rw (zero-add (length a)) (front_behind a b (x ∷ out))
put_behind (suc at) a b (x ∷ out) =
    rw (suc-add at (length a)) (ap (λ (l : List ℕ). x ∷ l) (put_behind at a b out))

pub put_front : (bytes out : List ℕ) → length bytes ≤ length out
    → overwritten 0 bytes out ≡ bytes ++ drop (length bytes) out
unfolding overwritten
put_front [] [] h = refl
put_front [] (x ∷ out) h = refl
put_front (b ∷ bytes) [] h = absurd (not-suc-le-zero h)
put_front (b ∷ bytes) (x ∷ out) h = ap (λ (l : List ℕ). b ∷ l) (put_front bytes out (le_of_suc-le-suc h))

-- ---- one run behind the other

-- the place past a run is where the run ends, or both are beyond the end of the list
same_past : (at : ℕ) (a b out : List ℕ)
    → overwritten (past at (length a) (length out)) b (overwritten at a out) ≡ overwritten at (a ++ b) out
same_past at a b out = cases (dec_lt (length out) (at + length a))
  where
    long : length (overwritten at a out) ≡ length out
    long = put_length at a out

    cases : Dec (length out < at + length a)
        → overwritten (past at (length a) (length out)) b (overwritten at a out) ≡ overwritten at (a ++ b) out
    cases (yes h) =
        put_beyond (past at (length a) (length out)) b (overwritten at a out) (omega (arith, long))
        ∙ sym (put_beyond (at + length a) b (overwritten at a out) (omega (arith, long)))
        ∙ put_behind at a b out
    cases (no h) =
        let same : past at (length a) (length out) ≡ at + length a = omega arith in
        rw same (put_behind at a b out)

pub put_then : {out out₁ out₂ a b : List ℕ} {at r₁ r₂ : ℕ}
    → Put out at a out₁ r₁ → Put out₁ r₁ b out₂ r₂ → Put out at (a ++ b) out₂ r₂
put_then {out} {out₁} {out₂} {a} {b} {at} {r₁} {r₂} first second =
    let long : length out₁ ≡ length out = ap length first.stand ∙ put_length at a out in
    let behind = same_past at a b out in
    let place = first.past_them in
    record {
      stand = second.stand
          ∙ (λ i. overwritten (place i) b (first.stand i))
          ∙ behind;
      past_them = omega (arith, second.past_them, first.past_them, long, length-append a b);
    }

pub put_none : (out : List ℕ) (at : ℕ) → Put out at [] out at
put_none out at = record { stand = sym (put_nothing at out); past_them = omega arith }

pub put_kept : {out out₁ a : List ℕ} {at r₁ : ℕ} → Put out at a out₁ r₁ → length out₁ ≡ length out
put_kept {out} {out₁} {a} {at} e = ap length e.stand ∙ put_length at a out

pub put_unique : {out a b bytes : List ℕ} {at r s : ℕ} → Put out at bytes a r → Put out at bytes b s
    → (a ≡ b) × (r ≡ s)
put_unique p q = (p.stand ∙ sym q.stand, p.past_them ∙ sym q.past_them)

-- ---- the same of an `Out`

pub puts_none : (o : Out) → Puts o [] o
puts_none o = record { same_list = refl; put = put_none o.bytes.now o.at }

pub puts_then : {o p q : Out} {a b : List ℕ} → Puts o a p → Puts p b q → Puts o (a ++ b) q
puts_then first second = record {
  same_list = second.same_list ∙ first.same_list;
  put = put_then first.put second.put;
}

pub puts_unique : {o p q : Out} {bytes : List ℕ} → Puts o bytes p → Puts o bytes q
    → (p.bytes.ghost_name ≡ q.bytes.ghost_name) × (p.bytes.now ≡ q.bytes.now) × (p.at ≡ q.at)
puts_unique x y = let e = put_unique x.put y.put in (x.same_list ∙ sym y.same_list, e.0, e.1)

-- ---- loops

-- a byte more of a word
pub put_more : (bytes : List ℕ) {out out₁ out₂ : List ℕ} {at r₁ r₂ : ℕ} (i : ℕ) → i < length bytes
    → Put out at (take i bytes) out₁ r₁ → Put out₁ r₁ (get_or bytes i 0 ∷ []) out₂ r₂
    → Put out at (take (i + 1) bytes) out₂ r₂
put_more bytes i h first second = rw (add-one, take-suc bytes i 0) (put_then first second)

pub puts_more : (bytes : List ℕ) {o p q : Out} (i : ℕ) → i < length bytes
    → Puts o (take i bytes) p → Puts p (get_or bytes i 0 ∷ []) q → Puts o (take (i + 1) bytes) q
puts_more bytes i h first second = record {
  same_list = second.same_list ∙ first.same_list;
  put = put_more bytes i h first.put second.put;
}

-- zeros from a place on, as far as a loop has come
pub record Zeroing (out : List ℕ) (at least : ℕ) (out₁ : List ℕ) (i : ℕ) : Type 0 where
  pub from : at ≤ i
  pub within : i ≤ max at least
  pub stand : out₁ ≡ overwritten at (replicate (i - at) 0) out

module _ {out : List ℕ} {at least : ℕ} where
  pub zeros_none : Zeroing out at least out at
  zeros_none =
      let none : at - at ≡ 0 = omega arith in
      record { from = omega arith; within = omega arith; stand = rw none (sym (put_nothing at out)) }

  module _ {out₁ : List ℕ} {i : ℕ} (z : Zeroing out at least out₁ i) where
    pub zeros_kept : length out₁ ≡ length out
    zeros_kept = ap length z.stand ∙ put_length at (replicate (i - at) 0) out

    here : i ≡ at + length {A = ℕ} (replicate (i - at) 0)
    here = omega (arith, z.from, length-replicate {A = ℕ} (i - at) 0)

    -- more zeros behind
    further : (n : ℕ) → overwritten i (replicate n 0) out₁ ≡ overwritten at (replicate (i - at + n) 0) out
    further n =
        let place = here in
        let zeros = z.stand in
        (λ k. overwritten (place k) (replicate n 0) (zeros k))
        ∙ put_behind at (replicate (i - at) 0) (replicate n 0) out
        ∙ ap (λ (l : List ℕ). overwritten at l out) (replicate-append-replicate (i - at) n 0)

    pub zeros_more : i < least → Zeroing out at least (set out₁ i 0) (i + 1)
    zeros_more h =
        let one : i - at + 1 ≡ i + 1 - at = omega (arith, z.from) in
        record {
          from = omega (arith, z.from);
          within = omega arith;
          stand = put_store i 0 out₁ ∙ further 1 ∙ ap (λ (n : ℕ). overwritten at (replicate n 0) out) one;
        }

    pub zeros_whole : least ≤ i → out₁ ≡ overwritten at (replicate (least - at) 0) out
    zeros_whole h =
        let same : i - at ≡ least - at = omega (arith, z.from, z.within) in
        rw (← same) z.stand

    -- at the end of the list
    pub zeros_cut : i < least → length out ≤ i → out₁ ≡ overwritten at (replicate (least - at) 0) out
    zeros_cut h end =
        let parts : i - at + (least - i) ≡ least - at = omega (arith, z.from) in
        let over = put_beyond i (replicate (least - i) 0) out₁ (omega (arith, zeros_kept)) in
        sym over ∙ further (least - i) ∙ ap (λ (n : ℕ). overwritten at (replicate n 0) out) parts

    -- where a loop ends
    pub zeros_done : min least (length out) ≤ i → out₁ ≡ overwritten at (replicate (least - at) 0) out
    zeros_done h = cases (dec_lt i least)
      where
        cases : Dec (i < least) → out₁ ≡ overwritten at (replicate (least - at) 0) out
        cases (yes below) = zeros_cut below (omega arith)
        cases (no past) = zeros_whole (omega arith)

-- ---- a text at the front, and zeros behind it

pub put_closed : (text out : List ℕ) (least : ℕ) {out₁ out₂ : List ℕ} {r : ℕ}
    → length text ≤ least → least ≤ length out
    → Put out 0 text out₁ r → out₂ ≡ overwritten r (replicate (least - r) 0) out₁
    → (out₂ ≡ text ++ (replicate (least - length text) 0 ++ drop least out)) × (r ≡ length text)
put_closed text out least {out₁} {out₂} {r} fits room first second =
    let size : r ≡ length text = omega (arith, first.past_them) in
    let zeros = replicate {A = ℕ} (least - length text) 0 in
    let long : length (text ++ zeros) ≡ least =
    omega (arith, length-append text zeros, length-replicate {A = ℕ} (least - length text) 0) in
    let stands : overwritten r (replicate (least - r) 0) out₁ ≡ overwritten 0 (text ++ zeros) out =
    (λ i. overwritten (size i) (replicate (least - size i) 0) (first.stand i)) ∙ front_behind text zeros out in
    let front = put_front (text ++ zeros) out (omega arith) in
    let whole = rw long at front in
    (second ∙ stands ∙ whole ∙ append_assoc text zeros (drop least out), size)

-- the same of an `Out` that began at the front
pub puts_closed : (text : List ℕ) (least : ℕ) {o p q : Out} → o.at ≡ 0
    → length text ≤ least → least ≤ length o.bytes.now → Puts o text p → ZerosRest p least q
    → (q.bytes.now ≡ text ++ (replicate (least - length text) 0 ++ drop least o.bytes.now)) × (q.at ≡ length text)
puts_closed text least {o} front fits room puts rest =
    let first = rw front at puts.put in
    let closed = put_closed text o.bytes.now least fits room first rest.zeros in
    (closed.0, rest.same_place ∙ closed.1)

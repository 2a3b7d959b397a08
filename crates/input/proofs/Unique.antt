-- What is read of an input that knows its bytes is one count, one front of the buffer and one rest. Full or not,
-- the buffer's front is the front of the input: where it is shorter than the buffer, nothing of the input is left.
-- What lies in the buffer behind that front no reader promises. Assumes nothing.
--     read_front     what was read is the front of the input, as long as the buffer or the input is
--     read_once      two outcomes that fit the promise of `read_full` are one
use Rattle.std.proofs.Common.{◌≡◌, ℕ, ◌≤◌, ◌<◌, List, [], ◌++◌, Option, None, Some, arith, length, take, sym, ap, ◌∙◌, append-nil, take_all, length-take-le}
use Rattle.std.proofs.lemmas.List.{append_cancel_left}
use native.Mathlib.Decide.{dec_lt}
use lib.Seq.{take_at}
use Rattle.std.specs.Io.KnownBytes.{Consumes, IsAtEnd}

pub read_front : (xs buf ys : List ℕ) (n : ℕ) → n ≤ length buf → xs ≡ take n buf ++ ys → (n < length buf → ys ≡ [])
    → take (length buf) xs ≡ take n buf
read_front xs buf ys n within e ended = cases (dec_lt n (length buf))
  where
    cases : Dec (n < length buf) → take (length buf) xs ≡ take n buf
    cases (yes h) =
        let all : xs ≡ take n buf = e ∙ ap (λ l. take n buf ++ l) (ended h) ∙ append-nil (take n buf) in
        let long = length-take-le n buf within in
        ap (take (length buf)) all ∙ take_all (length buf) (take n buf) (omega (arith, long, h))
    cases (no h) =
        let long : length (take n buf) ≡ length buf = omega (arith, length-take-le n buf within) in
        ap (take (length buf)) e ∙ take_at (take n buf) ys (length buf) long

pub read_once : (s : List ℕ) (rest rest' : Option (List ℕ)) (buf buf' : List ℕ) (n m : ℕ)
    → length buf ≡ length buf' → n ≤ length buf → m ≤ length buf'
    → Consumes (Some s) rest (take n buf) → Consumes (Some s) rest' (take m buf')
    → (n < length buf → IsAtEnd rest) → (m < length buf' → IsAtEnd rest')
    → (n ≡ m) × (take n buf ≡ take m buf') × (rest ≡ rest')
read_once s None rest' buf buf' n m long within within' gave gave' ended ended' = absurd gave
read_once s (Some ys) None buf buf' n m long within within' gave gave' ended ended' = absurd gave'
read_once s (Some ys) (Some zs) buf buf' n m long within within' gave gave' ended ended' =
    let first = read_front s buf ys n within gave ended in
    let second = read_front s buf' zs m within' gave' ended' in
    let one : take n buf ≡ take m buf' = sym first ∙ ap (λ (k : ℕ). take k s) long ∙ second in
    let count : n ≡ m = omega (arith, ap length one, length-take-le n buf within, length-take-le m buf' within') in
    let left : ys ≡ zs = append_cancel_left (take n buf) ys zs (sym gave ∙ gave' ∙ ap (λ (l : List ℕ). l ++ zs) (sym one)) in
    (count, one, ap Some left)

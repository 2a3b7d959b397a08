-- The texts by their parts, as the code puts them, and how long they are. A line is its fields one behind the
-- other, each a number with a space behind it or the line feed that ends the line. A number below 10 ^ k has
-- at most k digits, so a carrier's line has at most 31 bytes, a plan of 64 carriers at most 2,008 and a
-- refusal at most 33: each fits into 2,048 bytes, whatever numbers of their types are printed. The carriers'
-- lines grow by a line a carrier. Assumes nothing.
--     carrier_parts, plan_parts, refused_parts    the texts by fields and words
--     no_lines, next_line    the lines of no carrier, and of one more
--     plan_fits              a plan of at most 64 carriers fits
--     refused_fits           a refusal fits
use mathlib.Core.Path.{◌≡◌, refl, sym, ◌∙◌, ap}
use mathlib.Core.List.{List, [], ◌∷◌, ◌++◌, append_assoc}
use Prim.Native.Nat.{ℕ, zero, suc, ◌+◌, ◌*◌, ◌^◌, ◌≤◌, ◌<◌}
use native.Mathlib.Numerals.{add-one}
use native.Mathlib.Omega.{arith}
use lib.ListN.{length, length-append}
use Rattle.hall.specs.Limits.{carrier_limit}
use Rattle.put.specs.Digits.{digits, field}
use Rattle.put.proofs.Digits.{digits_length}
use Rattle.form.specs.Lines.{further, entry_line, count_line}
use Rattle.report.specs.Printed.{print_room, carrier_line, carrier_lines, plan_text, refused_text}

-- ---- the parts

field_first : (n : ℕ) (l : List ℕ) → digits n ++ (32 ∷ l) ≡ field n 32 ++ l
unfolding field
field_first n l = sym (append_assoc (digits n) (32 ∷ []) l)

pub carrier_parts : (carrier tick distance : ℕ) →
    carrier_line carrier tick distance
    ≡ field carrier 32 ++ (field tick 32 ++ (field distance 32 ++ field (tick + distance) 10))
unfolding carrier_line entry_line further field
carrier_parts carrier tick distance =
    let third = field_first distance (digits (tick + distance) ++ (10 ∷ [])) in
    let second = field_first tick _ ∙ ap (λ (l : List ℕ). field tick 32 ++ l) third in
    field_first carrier _ ∙ ap (λ (l : List ℕ). field carrier 32 ++ l) second

pub plan_parts : (k : ℕ) (tick distance : ℕ → ℕ) (cost : ℕ) →
    plan_text k tick distance cost
    ≡ (80 ∷ 76 ∷ 65 ∷ 78 ∷ 32 ∷ [])
    ++ (field k 10 ++ (carrier_lines k tick distance ++ ((67 ∷ 79 ∷ 83 ∷ 84 ∷ 32 ∷ []) ++ field cost 10)))
unfolding plan_text count_line further field
plan_parts k tick distance cost = refl

pub refused_parts : (number line : ℕ) →
    refused_text number line
    ≡ (82 ∷ 69 ∷ 70 ∷ 85 ∷ 83 ∷ 69 ∷ 68 ∷ 32 ∷ []) ++ (field number 32 ++ field line 10)
unfolding refused_text further field
refused_parts number line =
    ap (λ (l : List ℕ). (82 ∷ 69 ∷ 70 ∷ 85 ∷ 83 ∷ 69 ∷ 68 ∷ 32 ∷ []) ++ l)
    (field_first number (digits line ++ (10 ∷ [])))

-- ---- the lines of the carriers

pub no_lines : (tick distance : ℕ → ℕ) → carrier_lines 0 tick distance ≡ []
unfolding carrier_lines
no_lines tick distance = refl

pub next_line : (i : ℕ) (tick distance : ℕ → ℕ) →
    carrier_lines (i + 1) tick distance ≡ carrier_lines i tick distance ++ carrier_line i (tick i) (distance i)
unfolding carrier_lines
next_line i tick distance = rw add-one

-- ---- the lengths

field_length : (k n after : ℕ) → n < 10 ^ suc k → length (field n after) ≤ suc k + 1
unfolding field
field_length k n after h = rw length-append (omega (arith, digits_length k n h))

line_length : (carrier tick distance : ℕ) → carrier < 100 → tick < 2 ^ 32 → distance < 2 ^ 16 →
    length (carrier_line carrier tick distance) ≤ 31
line_length carrier tick distance hc ht hd =
    let a = field_length 1 carrier 32 (omega arith) in
    let b = field_length 9 tick 32 (omega arith) in
    let c = field_length 4 distance 32 (omega arith) in
    let d = field_length 9 (tick + distance) 10 (omega arith) in
    rw (carrier_parts carrier tick distance) (simp length-append (omega arith))

lines_length : (k : ℕ) (tick distance : ℕ → ℕ) → k ≤ carrier_limit →
    ((i : ℕ) → tick i < 2 ^ 32) → ((i : ℕ) → distance i < 2 ^ 16) →
    length (carrier_lines k tick distance) ≤ 31 * k
unfolding carrier_lines
lines_length zero tick distance h ht hd = omega arith
lines_length (suc k) tick distance h ht hd =
    let before = lines_length k tick distance (omega arith) ht hd in
    let line = line_length k (tick k) (distance k) (omega arith) (ht k) (hd k) in
    omega (arith, length-append (carrier_lines k tick distance) (carrier_line k (tick k) (distance k)))

pub plan_fits : (k : ℕ) (tick distance : ℕ → ℕ) (cost : ℕ) → k ≤ carrier_limit →
    ((i : ℕ) → tick i < 2 ^ 32) → ((i : ℕ) → distance i < 2 ^ 16) → cost < 2 ^ 32 →
    length (plan_text k tick distance cost) ≤ print_room
plan_fits k tick distance cost h ht hd hc =
    let count = field_length 1 k 10 (omega arith) in
    let lines = lines_length k tick distance h ht hd in
    let sum = field_length 9 cost 10 (omega arith) in
    rw (plan_parts k tick distance cost) (simp length-append (omega arith))

pub refused_fits : (number line : ℕ) → number < 2 ^ 8 → line < 2 ^ 64 →
    length (refused_text number line) ≤ print_room
refused_fits number line hn hl =
    let first = field_length 2 number 32 (omega arith) in
    let second = field_length 19 line 10 (omega arith) in
    rw (refused_parts number line) (simp length-append (omega arith))

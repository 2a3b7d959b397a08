-- What is left in a lent table (rules 9.1 to 9.6, 9.9, 9.11 and 9.13 to 9.15).
--     with_front v n t   the list t with the value v in its first n places, in all of them where it is
--                    shorter; beyond it is as it came
--     zeroed n t     a table with its first n places zero
--     filled         numbers in front of a table, zeros behind them up to its least length, and beyond it
--                    what stood there. It is said of tables that have their least length
--     left k n t     a table of least length n after the refusal with the number k: 9 leaves it as it came,
--                    every other zeroes the least length. Where the rules say otherwise, as of records and
--                    order after planning, the question's own promise does
--     RowLeft        a list with a number for each of k carriers, and room for the 64 that a job can have:
--                    unused places are zero, and beyond that room nothing is touched
use Rattle.std.specs.Prelude.{◌≡◌, List, [], ◌∷◌, ◌++◌, cond, ℕ, zero, suc, ◌-◌, ◌≤◌, ◌<◌, eqb, length, get_or, drop, replicate}
use Rattle.hall.specs.Limits.{carrier_limit}

unfoldable pub with_front : {A : Type 0} → A → ℕ → List A → List A
with_front v zero t = t
with_front v (suc n) [] = []
with_front v (suc n) (x ∷ t) = v ∷ with_front v n t

abbrev pub zeroed : ℕ → List ℕ → List ℕ
zeroed n t = with_front 0 n t

unfoldable pub filled : (numbers : List ℕ) (least : ℕ) (table : List ℕ) → List ℕ
filled numbers least table = numbers ++ (replicate (least - length numbers) 0 ++ drop least table)

abbrev pub left : (number least : ℕ) → List ℕ → List ℕ
left k n t = cond (eqb k 9) t (zeroed n t)

pub record RowLeft (k : ℕ) (row row' : List ℕ) : Type 0 where
  pub size : length row' ≡ length row
  pub unused : (i : ℕ) → k ≤ i → i < carrier_limit → get_or row' i 0 ≡ 0
  pub beyond : (i : ℕ) → carrier_limit ≤ i → get_or row' i 0 ≡ get_or row i 0

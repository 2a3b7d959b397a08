-- One outcome for each input: two outcomes that fit the promise of a function over the records are equal.
-- Each promise is an equation of the list that is left, so two such lists are both what it names. No function
-- here answers a value, and what is only read never changes. Assumes nothing.
use mathlib.Core.Path.{◌≡◌, sym, ◌∙◌}
use mathlib.Core.List.{List}
use Prim.Native.Nat.{ℕ}
use Rattle.records.specs.declared.Record.{Record}
use Rattle.records.specs.Table.{moved, timed, placed}

pub load_moves_unique : (rs : List Record) (ms xs ys : List ℕ) → xs ≡ moved rs ms → ys ≡ moved rs ms → xs ≡ ys
load_moves_unique rs ms xs ys h h' = h ∙ sym h'

pub store_times_unique : (count : ℕ) (rs : List Record) (ds ks : List ℕ) (xs ys : List Record)
    → xs ≡ timed count rs ds ks → ys ≡ timed count rs ds ks → xs ≡ ys
store_times_unique count rs ds ks xs ys h h' = h ∙ sym h'

pub store_moves_unique : (count : ℕ) (rs : List Record) (ms : List ℕ) (xs ys : List Record)
    → xs ≡ placed count rs ms → ys ≡ placed count rs ms → xs ≡ ys
store_moves_unique count rs ms xs ys h h' = h ∙ sym h'

-- What reading leaves in the tables. Each is zero up to its least length before its section is read, so that
-- numbers laid into it have zeros behind them; what is beyond the least length is never touched, so that
-- zeroing after a refusal leaves the table as zeroing it at once would have. Assumes nothing.
--     beyond_zeroed    a zeroed table is as it was from the least length on
--     laid_filled      numbers laid into a zeroed table fill it
--     zeroed_again     a table that differs from another below the least length only is the same, once both
--                      are zeroed
use mathlib.Core.Path.{◌≡◌, sym, ◌∙◌, ap}
use mathlib.Core.List.{List, ◌++◌}
use Prim.Native.Nat.{ℕ, ◌-◌, ◌≤◌}
use native.Mathlib.Omega.{arith}
use lib.ListN.{length, take, drop, replicate, take-append-drop}
use lib.Seq.{length-take-le}
use Rattle.hall.specs.Left.{zeroed, filled}
use Rattle.hall.proofs.Left.{drop_zeroed}

module _ (least : ℕ) (table : List ℕ) (long : least ≤ length table) where
  pub beyond_zeroed : drop least (zeroed least table) ≡ drop least table
  beyond_zeroed =
      let none : least - least ≡ 0 = omega arith in
      rw none at (drop_zeroed least least table (omega arith) long)

  pub laid_filled : (many : ℕ) (numbers after : List ℕ) → many ≤ least → many ≤ length after
      → numbers ≡ take many after → drop many after ≡ drop many (zeroed least table)
      → after ≡ filled numbers least table
  unfolding filled
  laid_filled many numbers after few room stored kept =
      let size : length numbers ≡ many = ap length stored ∙ length-take-le many after room in
      sym (take-append-drop many after)
      ∙ ap (λ (l : List ℕ). l ++ drop many after) (sym stored)
      ∙ ap (λ (l : List ℕ). numbers ++ l)
      (rw size (kept ∙ drop_zeroed many least table few long))

  pub zeroed_again : (after : List ℕ) → length after ≡ length table → drop least after ≡ drop least table
      → zeroed least after ≡ zeroed least table
  zeroed_again after same e =
      drop_zeroed 0 least after (omega arith) (omega arith)
      ∙ ap (λ (l : List ℕ). replicate (least - 0) 0 ++ l) e
      ∙ sym (drop_zeroed 0 least table (omega arith) long)

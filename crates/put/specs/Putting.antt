-- What putting bytes into a lent list leaves, and where the next goes on, for every place and every list.
--     overwritten    bytes that are put into a list from a place on; what lies beyond the list's end is
--                    dropped
--     past           the place past so many bytes from a place on, in a list of so many: at most its end, and
--                    a place beyond the end stays
--     Put            the bytes stand from a place on, and the answer is the place past them
--     Puts           the same of an `Out` before and after: its bytes are still the list that was lent, so that
--                    whoever lent them finds there what is put
--     ZerosRest      zeros stand from the place of an `Out` on up to a least length, in the list that was lent,
--                    and the place stays
use Rattle.std.specs.Prelude.{◌≡◌, List, [], ◌∷◌, ℕ, zero, suc, ◌+◌, ◌-◌, min, length, replicate}
use Rattle.put.specs.declared.Out.{Out}

unfoldable pub overwritten : (at : ℕ) (bytes out : List ℕ) → List ℕ
overwritten at bytes [] = []
overwritten zero [] (x ∷ out) = x ∷ out
overwritten zero (b ∷ bytes) (x ∷ out) = b ∷ overwritten zero bytes out
overwritten (suc at) bytes (x ∷ out) = x ∷ overwritten at bytes out

abbrev pub past : (at size room : ℕ) → ℕ
past at size room = at + min size (room - at)

pub record Put (out : List ℕ) (at : ℕ) (bytes out' : List ℕ) (r : ℕ) : Type 0 where
  pub stand : out' ≡ overwritten at bytes out
  pub past_them : r ≡ past at (length bytes) (length out)

pub record Puts (before : Out) (bytes : List ℕ) (after : Out) : Type 0 where
  pub same_list : after.bytes.ghost_name ≡ before.bytes.ghost_name
  pub put : Put before.bytes.now before.at bytes after.bytes.now after.at

pub record ZerosRest (before : Out) (least : ℕ) (after : Out) : Type 0 where
  pub same_list : after.bytes.ghost_name ≡ before.bytes.ghost_name
  pub zeros : after.bytes.now ≡ overwritten before.at (replicate (least - before.at) 0) before.bytes.now
  pub same_place : after.at ≡ before.at

-- What is printed stands in front of the lent bytes. A text of at most 2,048 bytes that is put at the front
-- of at least so many, with zeros put behind it, is printed: put's `puts_closed` says what both leave. Assumes
-- nothing.
--     put_prints      putting a text and zeros behind it prints the text
--     prints_front    the first bytes, as many as the answer says, are the text
--     prints_within   there are so many
use mathlib.Core.Path.{◌≡◌, ap, ◌∙◌}
use mathlib.Core.List.{List, ◌++◌}
use Prim.Native.Nat.{ℕ, ◌-◌, ◌≤◌}
use native.Mathlib.Omega.{arith}
use lib.ListN.{length, take, drop, replicate, length-append}
use Rattle.hall.specs.Left.{filled}
use Rattle.hall.proofs.Left.{filled_front}
use Rattle.put.specs.declared.Out.{Out}
use Rattle.put.specs.Putting.{Puts, ZerosRest}
use Rattle.put.proofs.Putting.{puts_closed}
use Rattle.report.specs.Printed.{print_room}
use Rattle.report.specs.Printing.{Prints}

pub put_prints : {text out₂ : List ℕ} {o p q : Out} → o.at ≡ 0
    → length text ≤ print_room → print_room ≤ length o.bytes.now
    → Puts o text p → ZerosRest p print_room q → out₂ ≡ q.bytes.now
    → Prints text o.bytes.now out₂ q.at
unfolding filled
put_prints {text} front fits room puts rest kept =
    let closed = puts_closed text print_room front fits room puts rest in
    record { bytes = kept ∙ closed.0; size = closed.1 }

pub prints_front : {text out out' : List ℕ} {r : ℕ} → Prints text out out' r → take r out' ≡ text
prints_front {text} {out} {out'} {r} p =
    ap (λ (l : List ℕ). take r l) p.bytes ∙ filled_front text print_room out r (cc)

pub prints_within : {text out out' : List ℕ} {r : ℕ} → Prints text out out' r → r ≤ length out'
unfolding filled
prints_within {text} {out} p =
    let behind = replicate {A = ℕ} (print_room - length text) 0 ++ drop print_room out in
    omega (arith, p.size, ap length p.bytes, length-append text behind)

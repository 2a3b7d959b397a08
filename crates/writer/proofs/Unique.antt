-- Writing has one outcome: two answers with the outputs that they leave are equal if they fit the promise. A
-- job without a fault has one text, which fixes the output and how many bytes it has; a refusal is the first
-- fault, and decides what is left; and a job is not both written and refused. Assumes nothing.
use mathlib.Core.Path.{◌≡◌, sym, ◌∙◌, ap}
use mathlib.Core.List.{List}
use Prim.Native.Nat.{ℕ}
use Rattle.std.proofs.Common.{Result, Ok, Err}
use Rattle.hall.specs.declared.Refusal.{Refusal}
use Rattle.hall.specs.Limits.{text_room}
use Rattle.hall.specs.Job.{Numbers}
use Rattle.hall.specs.Left.{left}
use Rattle.hall.proofs.Numbers.{number_one_fault}
use Rattle.hall.proofs.Stages.{first_unique, none_excludes}
use Rattle.writer.specs.Writing.{said_written, Writing}

module _ (j : Numbers) (out : List ℕ) where
  pub writing_unique : (r s : Result ℕ Refusal) (a b : List ℕ) → Writing j out a (said_written r) → Writing j out b (said_written s) →
      (r ≡ s) × (a ≡ b)
  writing_unique (Ok m) (Ok n) a b x y = (
    ap Ok (x.is_size ∙ sym y.is_size),
    x.output_left ∙ sym y.output_left,
  )
  writing_unique (Ok m) (Err r) a b x y = absurd (none_excludes y.first x.no_fault)
  writing_unique (Err r) (Ok n) a b x y = absurd (none_excludes x.first y.no_fault)
  writing_unique (Err r) (Err s) a b x y =
      let e = first_unique x.first y.first in
      let fault = number_one_fault r.fault s.fault e.0 in (
        λ i. Err (record { fault = fault i; place = e.1 i }),
        x.output_left ∙ ap (λ (n : ℕ). left n text_room out) e.0 ∙ sym y.output_left,
      )

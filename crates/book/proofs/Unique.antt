-- One answer, one book left and, of a trolley, one list of ticks fit the promises of the functions over a
-- book that is lent: they are the promises of the steps by value (`answer_unique`, `ended_unique`,
-- `asked_unique` of crate `admission`). Assumes nothing.
use mathlib.Core.Path.{◌≡◌}
use mathlib.Core.List.{List}
use Prim.Native.Nat.{ℕ}
use Rattle.hall.specs.Floor.{Network}
use Rattle.slots.specs.declared.Book.{Book}
use Rattle.std.specs.Prelude.{Option, Result}
use Rattle.hall.specs.declared.Refusal.{Refusal}
use Rattle.admission.specs.declared.Entry.{Entry}
use Rattle.admission.specs.declared.trolley.Stop.{Stop}
use Rattle.admission.specs.Admission.{Admission, said_answer}
use Rattle.admission.specs.Trolley.{said_ended, Ride}
use Rattle.admission.specs.Asking.{Asking, said_asked}
use Rattle.admission.proofs.Asking.{asked_unique}
use Rattle.admission.proofs.Unique.{answer_unique}
use Rattle.admission.proofs.RideUnique.{ended_unique}

pub admit_unique : (N : Network) {b left other : Book} {now s g : ℕ} (r r' : Result Entry Refusal)
    → Admission N b now s g (said_answer r) left → Admission N b now s g (said_answer r') other
    → (r ≡ r') × (left ≡ other)
admit_unique N = answer_unique N

pub admit_all_unique : (N : Network) (b : Book) (now : ℕ) (moves ticks : List ℕ) (r r' : Result Unit Stop)
    {left other : Book} {ticks' others : List ℕ}
    → Ride N b now moves ticks (said_ended r) left ticks' → Ride N b now moves ticks (said_ended r') other others
    → (r ≡ r') × (left ≡ other) × (ticks' ≡ others)
admit_all_unique = ended_unique

pub may_start_unique : (N : Network) {b : Book} {t s g : ℕ} (r r' : Result (Option ℕ) Refusal)
    → Asking N b t s g (said_asked r) → Asking N b t s g (said_asked r') → r ≡ r'
may_start_unique N = asked_unique N

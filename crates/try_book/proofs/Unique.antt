-- One answer and one book fit the promise of an admission to a book that was lent and came back, and one end,
-- one book and one list of ticks that of a trolley: they are those of the steps by value (`answer_unique`,
-- `ended_unique` of crate `admission`). So does one answer to the question whether a move may go
-- (`asked_unique`). Assumes nothing.
use mathlib.Core.Path.{◌≡◌}
use mathlib.Core.List.{List}
use Prim.Native.Nat.{ℕ}
use Rattle.hall.specs.Floor.{Network}
use Rattle.slots.specs.declared.Book.{Book}
use Rattle.admission.specs.declared.Stepped.{Stepped}
use Rattle.admission.specs.declared.trolley.Rode.{Rode}
use Rattle.admission.specs.Admission.{Admission, said_answer}
use Rattle.admission.specs.Trolley.{said_ended, Ride}
use Rattle.std.specs.Prelude.{Option, Result}
use Rattle.hall.specs.declared.Refusal.{Refusal}
use Rattle.admission.specs.Asking.{Asking, said_asked}
use Rattle.admission.proofs.Asking.{asked_unique}
use Rattle.admission.proofs.Unique.{answer_unique}
use Rattle.admission.proofs.RideUnique.{ended_unique}

pub admit_lent_unique : (N : Network) {b : Book} {now s g : ℕ} (r r' : Stepped)
    → Admission N b now s g (said_answer r.answer) r.book
    → Admission N b now s g (said_answer r'.answer) r'.book → r ≡ r'
admit_lent_unique N r r' a c =
    let e = answer_unique N r.answer r'.answer a c in
    λ i. record { answer = e.0 i; book = e.1 i }

pub admit_all_lent_unique : (N : Network) (b : Book) (now : ℕ) (moves ticks : List ℕ) (r r' : Rode)
    {after after' : List ℕ}
    → Ride N b now moves ticks (said_ended r.ended) r.book after
    → Ride N b now moves ticks (said_ended r'.ended) r'.book after' → (r ≡ r') × (after ≡ after')
admit_all_lent_unique N b now moves ticks r r' x y =
    let e = ended_unique N b now moves ticks r.ended r'.ended x y in
    ((λ i. record { ended = e.0 i; book = e.1 i }), e.2)

pub may_start_lent_unique : (N : Network) {b : Book} {t s g : ℕ} (r r' : Result (Option ℕ) Refusal)
    → Asking N b t s g (said_asked r) → Asking N b t s g (said_asked r') → r ≡ r'
may_start_lent_unique N = asked_unique N

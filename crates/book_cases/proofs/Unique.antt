-- A call has one outcome and leaves one book: two that the definitions give of it are equal, for an admission
-- has one answer (`admission_unique`), and a trolley has (`ride_unique`). With the tables (Cases.antt,
-- Trolleys.antt) each line is therefore the only outcome of its call. Assumes nothing.
use mathlib.Core.Path.{◌≡◌}
use Rattle.hall.specs.Said.{Said}
use Rattle.admission.specs.declared.Entry.{Entry}
use Rattle.book_cases.specs.Case.{Case, Gives}
use Rattle.book_cases.specs.Trolleys.{TrolleyOutcome, TrolleyCase, GivesTrolley}
use Rattle.admission.proofs.Unique.{admission_unique}
use Rattle.admission.proofs.RideUnique.{ride_unique}

pub case_unique : (c : Case) (o o' : Said Entry) (h : Gives c o) (k : Gives c o') → (o ≡ o') × (h.left ≡ k.left)
case_unique c o o' h k = admission_unique c.network o o' h.admission k.admission

pub trolley_unique : (c : TrolleyCase) (o o' : TrolleyOutcome) → GivesTrolley c o → GivesTrolley c o' → o ≡ o'
trolley_unique c o o' h k =
    let u = ride_unique c.network c.book c.now c.moves c.ticks h k in
    λ i. record { end = u.0 i; ticks_left = u.2 i; left = u.1 i }

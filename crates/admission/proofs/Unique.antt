-- One answer and one book for each input: two outcomes of an admission that fit its promise are equal.
-- Whether it is refused, and how, is the question's (`fits_unique`); of two accepted ones the tick, the own
-- distance and the slot are one, so the book is. Assumes nothing.
use mathlib.Core.Path.{◌≡◌, sym, ◌∙◌}
use Prim.Native.Nat.{ℕ}
use lib.ListN.{set}
use Rattle.hall.specs.Floor.{Network}
use Rattle.hall.specs.Said.{Said, accepted, refused}
use Rattle.hall.proofs.Walks.{dist_unique}
use Rattle.hall.proofs.Numbers.{number_one_fault}
use Rattle.hall.proofs.Stages.{none_excludes, first_unique}
use Rattle.hall.proofs.Ticks.{smallest_unique}
use Rattle.slots.proofs.Unique.{lowest_once}
use Rattle.slots.specs.declared.Book.{Book}
use Rattle.admission.specs.declared.Entry.{Entry}
use Rattle.std.specs.Prelude.{Result, Ok, Err}
use Rattle.hall.specs.declared.Refusal.{Refusal}
use Rattle.slots.specs.Record.{forgetting, book_with}
use Rattle.admission.specs.Admission.{carrier_of, Admitted, Admission, said_answer}

module _ {N : Network} {b left other : Book} {now s g : ℕ} {e f : Entry} (a : Admitted N b now s g e left) (c : Admitted N b now s g f other) where
  pub entry_once : e ≡ f
  entry_once = λ i. record { tick = smallest_unique a.smallest c.smallest i; slot = lowest_once a.takes c.takes i }

  pub left_once : left ≡ other
  left_once =
      a.left_is
      ∙ (λ i. book_with now b.dwell (set (forgetting b.dwell now b.slots) (entry_once i).slot (carrier_of s g (dist_unique a.own c.own i) (entry_once i).tick)))
      ∙ sym c.left_is

pub admission_unique : (N : Network) {b left other : Book} {now s g : ℕ} (said said' : Said Entry) → Admission N b now s g said left → Admission N b now s g said' other
    → (said ≡ said') × (left ≡ other)
admission_unique N (accepted x) (accepted y) a c = ((λ i. accepted (entry_once a.outcome c.outcome i)), left_once a.outcome c.outcome)
admission_unique N (accepted x) (refused n p) a c = absurd (none_excludes c.fits a.fits)
admission_unique N (refused n p) (accepted y) a c = absurd (none_excludes a.fits c.fits)
admission_unique N (refused n p) (refused m q) a c =
    let e = first_unique a.fits c.fits in
    ((λ i. refused (e.0 i) (e.1 i)), a.outcome ∙ sym c.outcome)

-- the same of the answers themselves: one that is refused has the fault of its number
pub answer_unique : (N : Network) {b left other : Book} {now s g : ℕ} (r r' : Result Entry Refusal)
    → Admission N b now s g (said_answer r) left → Admission N b now s g (said_answer r') other
    → (r ≡ r') × (left ≡ other)
answer_unique N (Ok x) (Ok y) a c =
    ((λ i. Ok (entry_once a.outcome c.outcome i)), left_once a.outcome c.outcome)
answer_unique N (Ok x) (Err t) a c = absurd (none_excludes c.fits a.fits)
answer_unique N (Err r) (Ok y) a c = absurd (none_excludes a.fits c.fits)
answer_unique N (Err r) (Err t) a c =
    let e = first_unique a.fits c.fits in
    let same = number_one_fault r.fault t.fault e.0 in
    ((λ i. Err (record { fault = same i; place = e.1 i })), a.outcome ∙ sym c.outcome)

-- What differs between the sections, each section by itself: its word, its terms, and that its count leaves
-- what its entries ask for. Assumes nothing.
--     capitals         the letters of its word are capital letters, as the cursor asks for
--     limited          the counts from the least to the greatest are those that fit it
--     form_terms       the terms have its table's least length, and let it be missing where the form does
--     room_for         its numbers have room in a table of its least length
--     asks_still       what its entries ask for stands in the counts with its own put in
--     no_entries       the sections that list no entries are their count alone
use mathlib.Core.Path.{◌≡◌, refl}
use mathlib.Core.Logic.{◌↔◌}
use mathlib.Core.List.{List}
use Prim.Native.Nat.{ℕ, ◌*◌, ◌≤◌}
use native.Mathlib.Omega.{arith}
use Rattle.hall.specs.declared.Job.{Job}
use Rattle.form.specs.Sections.{Content, CountFits, due}
use Rattle.form.specs.Words.{NODES, LANES, CLOSED, CARRIERS, ORDER, DWELL}
use Rattle.form.proofs.Lengths.{most}
use Rattle.cursor.specs.Bytes.{Capitals}
use Rattle.network.specs.declared.entries.Entries.{Entries}
use Rattle.network.specs.declared.entries.Entries.TheVariants.{Lanes, Closed, Moves, Places}
use Rattle.reader.specs.declared.sections.Sections.{Sections}
use Rattle.reader.specs.declared.sections.Sections.TheVariants.{Nodes, Dwell, Listed}
use Rattle.reader.specs.Entries.{Asks}
use Rattle.reader.specs.Sections.{in_form, room_of, terms_in, with_count}

pub capitals : (which : Sections) → Capitals (in_form which).word
unfolding NODES LANES CLOSED CARRIERS ORDER DWELL
capitals Nodes = omega arith
capitals (Listed Lanes) = omega arith
capitals (Listed Closed) = omega arith
capitals (Listed Moves) = omega arith
capitals (Listed Places) = omega arith
capitals Dwell = omega arith

-- the order's count is the carriers'
pub limited : (which : Sections) (job : Job) (closed : List ℕ) (read : List Content)
    → Asks (in_form which).entry job closed read
    → (n : ℕ)
    → (((terms_in which job.carriers).least ≤ n) × (n ≤ (terms_in which job.carriers).greatest))
    ↔ CountFits (in_form which).limits read n
limited Nodes job closed read asks n = (λ h. h, λ h. h)
limited (Listed Lanes) job closed read asks n = (λ h. h, λ h. h)
limited (Listed Closed) job closed read asks n = (λ h. h, λ h. h)
limited (Listed Moves) job closed read asks n = (λ h. h, λ h. h)
limited (Listed Places) job closed read asks n =
    let e = asks.0 in
    let few = asks.1 in
    (λ h. (omega arith, omega arith), λ h. (omega arith, omega arith))
limited Dwell job closed read asks n = (λ h. h, λ h. h)

pub form_terms : (which : Sections) (carriers : ℕ)
    → ((terms_in which carriers).room ≡ room_of which)
    × ((terms_in which carriers).optional ≡ (in_form which).optional)
form_terms Nodes k = (refl, refl)
form_terms (Listed Lanes) k = (refl, refl)
form_terms (Listed Closed) k = (refl, refl)
form_terms (Listed Moves) k = (refl, refl)
form_terms (Listed Places) k = (refl, refl)
form_terms Dwell k = (refl, refl)

pub room_for : (which : Sections) (n : ℕ) → n ≤ most (in_form which).limits
    → (in_form which).size * due (in_form which) n ≤ room_of which
room_for Nodes n h = omega arith
room_for (Listed Lanes) n h = omega arith
room_for (Listed Closed) n h = omega arith
room_for (Listed Moves) n h = omega arith
room_for (Listed Places) n h = omega arith
room_for Dwell n h = omega arith

pub asks_still : (which : Sections) (n : ℕ) (job : Job) (closed : List ℕ) (read : List Content)
    → Asks (in_form which).entry job closed read
    → Asks (in_form which).entry (with_count which n job) closed read
asks_still Nodes n job closed read asks = tt
asks_still (Listed Lanes) n job closed read asks = asks
asks_still (Listed Closed) n job closed read asks = asks
asks_still (Listed Moves) n job closed read asks = asks
asks_still (Listed Places) n job closed read asks = asks
asks_still Dwell n job closed read asks = tt

pub no_entries : (which : Sections) → ((e : Entries) → ¬ (which ≡ Listed e)) → (n : ℕ) → due (in_form which) n ≡ 0
no_entries Nodes h n = refl
no_entries Dwell h n = refl
no_entries (Listed entries) h n = absurd (h entries refl)

-- What differs between the kinds of entries, each kind by itself: how many numbers a line has, how many
-- entries a table has room for, and that the reader's checks are those of the form, since what they ask for
-- is what the sections before say. Assumes nothing.
--     one_number, two_numbers    how many numbers a line has, by its kind
--     due_is             each count is that of lines
--     steady             the checks look only at the numbers up to their entry's own
--     has_place          the table has an entry k where its numbers have room
--     further_numbers    more entries take more numbers
--     judged_by_form     the answer of the reader's checks is that of the form's
use mathlib.Core.Path.{◌≡◌, refl, subst}
use mathlib.Core.Logic.{◌⊎◌, inl, inr}
use mathlib.Core.List.{List}
use Prim.Native.Nat.{ℕ, suc, ◌*◌, ◌≤◌, ◌<◌}
use native.Mathlib.Omega.{arith}
use lib.ListN.{length}
use Rattle.std.specs.Prelude.{Result}
use Rattle.hall.specs.declared.Refusal.{Refusal}
use Rattle.hall.specs.declared.Job.{Job}
use Rattle.hall.specs.Floor.{lanes_in}
use Rattle.hall.specs.Job.{move_count}
use Rattle.hall.specs.Stages.{only_at, at_each}
use Rattle.hall.specs.Said.{Judged}
use Rattle.hall.specs.Questions.{lane_checks, closed_checks, move_checks, order_checks}
use Rattle.form.specs.Sections.{Content, count_of, due}
use Rattle.form.specs.Words.{NODES}
use Rattle.form.specs.Entries.{checks_of}
use Rattle.form.proofs.WholeChecks.{Steady}
use Rattle.form.proofs.Checks.{lanes_steady, closed_steady, carriers_steady, order_steady}
use Rattle.network.specs.declared.entries.Entries.{Entries}
use Rattle.network.specs.declared.entries.Entries.TheVariants.{Lanes, Closed, Moves, Places}
use Rattle.network.specs.Entries.{places_in, each_in}
use Rattle.reader.specs.Entries.{Asks, section_of}

pub one_number : (which : Entries) → (which ≡ Closed) ⊎ (which ≡ Places) → (section_of which).size ≡ 1
one_number which (inl e) = rw e refl
one_number which (inr e) = rw e refl

pub two_numbers : (which : Entries) → (which ≡ Lanes) ⊎ (which ≡ Moves) → (section_of which).size ≡ 2
two_numbers which (inl e) = rw e refl
two_numbers which (inr e) = rw e refl

pub due_is : (which : Entries) (n : ℕ) → due (section_of which) n ≡ n
due_is Lanes n = refl
due_is Closed n = refl
due_is Moves n = refl
due_is Places n = refl

pub steady : (which : Entries) → Steady (section_of which)
steady Lanes = lanes_steady
steady Closed = closed_steady
steady Moves = carriers_steady
steady Places = order_steady

pub has_place : (which : Entries) (table : List ℕ) (k : ℕ) → (section_of which).size * suc k ≤ length table
    → k < places_in which table
has_place Lanes table k h = omega arith
has_place Closed table k h = omega arith
has_place Moves table k h = omega arith
has_place Places table k h = omega arith

pub further_numbers : (which : Entries) (k n : ℕ) → k ≤ n
    → (section_of which).size * k ≤ (section_of which).size * n
further_numbers Lanes k n h = omega arith
further_numbers Closed k n h = omega arith
further_numbers Moves k n h = omega arith
further_numbers Places k n h = omega arith

pub judged_by_form : (which : Entries) (job : Job) (closed : List ℕ) (read : List Content) (table : List ℕ)
    (k : ℕ) (c : Result Unit Refusal)
    → Asks (section_of which).entry job closed read
    → Judged (only_at k (each_in which job.nodes job.carriers closed table)) c
    → Judged (only_at k (at_each (places_in which table) (checks_of (section_of which).entry read table))) c
judged_by_form Lanes job closed read table k c e j =
    subst (λ (n : ℕ). Judged (only_at k (at_each (lanes_in table) (lane_checks n table))) c) e j
judged_by_form Closed job closed read table k c e j =
    subst (λ (n : ℕ). Judged (only_at k (at_each (length table) (closed_checks n table))) c) e j
judged_by_form Moves job closed read table k c e j =
    subst
    (λ (l : List ℕ).
    Judged (only_at k (at_each (move_count table) (move_checks (count_of NODES read) l table))) c)
    e.1
    (subst (λ (n : ℕ). Judged (only_at k (at_each (move_count table) (move_checks n closed table))) c) e.0 j)
judged_by_form Places job closed read table k c e j =
    subst (λ (n : ℕ). Judged (only_at k (at_each (length table) (order_checks n table))) c) e.0 j

-- Carriers that share a start, a goal or both (rules 3.2, 5.8, 8.6 and 12.3). Nothing is asked of two moves
-- together, so the demands of Demands.antt and Program.antt hold of every accepted job, whatever ends its
-- moves share. Here stands that such jobs are accepted, what the demands say of two such carriers and of a
-- whole row of them, and that the refusal which they had once is never given. It starts from the promises of
-- planning and of the program. The work is done in hall: the pair rule is the one that all other carriers
-- have (Safe.antt, Shared.antt). Assumes nothing.
--     well_formed_accepted    a well-formed job (hall's `WellFormed`, which says nothing of two moves) with a
--                          walk for each carrier is planned
--     accepted_two         demand 3 of any two carriers of an accepted job, those with one start, one goal or
--                          both among them
--     accepted_starts_apart    start ticks from one start are more than the dwell apart
--     accepted_in_a_row    if all have one start, the carrier at place p starts at tick p × (dwell + 1)
--     planned_two, planned_starts_apart, planned_in_a_row    the same of the plan that the program owes for a
--                          text, and prints
--     read_never_six, plan_never_six, house_never_six, check_never_six, write_never_six    no question
--                          answers 6
--     plan_six_never_first    nor do the checks of planning give it, of any job
--     refused_never_six, six_never_printed    nor do the rules refuse a text with it, so that the program
--                          never prints it
use mathlib.Core.Path.{◌≡◌, refl, sym, ◌∙◌, ap, subst}
use mathlib.Core.Logic.{◌≢◌}
use mathlib.Core.List.{List, [], ◌∷◌, ◌++◌}
use Prim.Native.Nat.{ℕ, suc, ◌*◌, ◌≤◌, ◌<◌}
use native.Mathlib.Omega.{arith}
use lib.ListN.{length, get_or}
use Rattle.std.proofs.Common.{Result, Ok, Err}
use Rattle.hall.specs.declared.Job.{Job}
use Rattle.hall.specs.declared.Refusal.{Refusal}
use Rattle.hall.specs.Limits.{table_length}
use Rattle.hall.specs.Floor.{Walk, Network, floor}
use Rattle.hall.specs.Job.{Numbers, carriers, start, goal, at_place}
use Rattle.hall.specs.Stages.{First}
use Rattle.hall.specs.Said.{refused, said_checked}
use Rattle.hall.specs.Questions.{walk_checks}
use Rattle.hall.specs.WellFormed.{WellFormed}
use Rattle.hall.specs.Ticks.{Tables, own}
use Rattle.hall.specs.Path.{ShortestPath}
use Rattle.hall.specs.Plan.{tables_in}
use Rattle.hall.specs.Safety.{TicksNear, Demand3OfTwo}
use Rattle.hall.proofs.Numbers.{never_six, accepted_never_six}
use Rattle.hall.proofs.Compose.{none_at_all, none_more, none_append}
use Rattle.hall.proofs.Places.{asked_clear, Passed, each_none}
use Rattle.hall.proofs.Left.{first_among}
use Rattle.hall.proofs.Sound.{checks_of_none}
use Rattle.hall.proofs.WellFormed.{well_formed_iff}
use Rattle.hall.proofs.Shared.{two_safe, starts_apart, in_a_row}
use Rattle.records.specs.declared.Record.{Record}
use Rattle.form.specs.Lines.{further, count_line}
use Rattle.form.proofs.LineForms.{further_unique}
use Rattle.form.proofs.LineTests.{front_unique}
use Rattle.form.proofs.JobTexts.{refused_with}
use Rattle.reader.specs.Reading.{said_read}
use Rattle.writer.specs.Writing.{said_written}
use Rattle.path.specs.Paths.{said_housed}
use Rattle.planner.specs.Planning.{said_planned}
use Rattle.recorded.specs.Job.{record_job}
use Rattle.recorded.specs.Planning.{record_question, tick_of, RecordPlanning}
use Rattle.recorded.proofs.Unique.{planned_sound}
use Rattle.report.specs.Printed.{REFUSED, plan_text, refused_text}
use Rattle.demands.specs.Owed.{RefusedFor, at_line, no_walk, PlannedAs, Owed, refusal, schedule}
use Rattle.demands.proofs.Demands.{plan_accepted_exactly, accepted_safe}

-- ---- an accepted job

module _ (N N' : Network) (records records' : List Record) (order order' : List ℕ) (dwell : ℕ)
    (table table' : List ℕ) where
  abbrev j : Numbers
  j = record_job N records order dwell

  pub well_formed_accepted : (r : Result ℕ Refusal) → RecordPlanning N N' records records' order order' dwell table table' r →
      WellFormed j → ((i : ℕ) → i < carriers j → (n : ℕ) × Walk (floor N) (start j i) (goal j i) n) →
      table_length ≤ length table → (cost : ℕ) × (r ≡ Ok cost)
  well_formed_accepted r promise formed walks long =
      (plan_accepted_exactly N N' records records' order order' dwell table table' r promise).1
      (asked_clear (λ short. omega arith)
      (none_append ((well_formed_iff j).1 formed)
      (none_more (each_none (walk_checks N j.moves) passed) none_at_all)))
    where
      passed : Passed (walk_checks N j.moves) (carriers j)
      passed = record { clear = λ i h. (λ none. none (walks i h).0 (walks i h).1, tt) }

  module _ (cost : ℕ) (promise : RecordPlanning N N' records records' order order' dwell table table' (Ok cost)) where
    pub accepted_two : (path : ℕ → List ℕ) →
        ((i : ℕ) → i < carriers j → ShortestPath (floor N) (start j i) (goal j i) (path i)) →
        (i k : ℕ) → i < carriers j → k < carriers j → i ≢ k →
        Demand3OfTwo dwell (start j) (goal j) (tables_in table') (tick_of records') path i k
    accepted_two path shortest =
        two_safe shortest
        (accepted_safe N N' records records' order order' dwell table table' cost promise path shortest)

    pub accepted_starts_apart : (i k : ℕ) → i < carriers j → k < carriers j → i ≢ k → start j i ≡ start j k →
        ¬ TicksNear dwell (tick_of records' i) (tick_of records' k)
    accepted_starts_apart =
        starts_apart j (planned_sound j table promise.given.no_fault) (tables_in table') (tick_of records') cost
        promise.given.plan

    pub accepted_in_a_row : ((i k : ℕ) → i < carriers j → k < carriers j → start j i ≡ start j k) →
        (p : ℕ) → p < length order → tick_of records' (at_place j p) ≡ suc dwell * p
    accepted_in_a_row =
        in_a_row j (planned_sound j table promise.given.no_fault) (tables_in table') (tick_of records') cost
        promise.given.plan

-- ---- what the program prints

module _ {text : List ℕ} {j : Numbers} {t : Tables} {tick : ℕ → ℕ} {cost : ℕ} (a : PlannedAs text j t tick cost) where
  pub planned_two : (path : ℕ → List ℕ) →
      ((i : ℕ) → i < carriers j → ShortestPath (floor j.network) (start j i) (goal j i) (path i)) →
      (i k : ℕ) → i < carriers j → k < carriers j → i ≢ k → Demand3OfTwo j.dwell (start j) (goal j) t tick path i k
  planned_two path shortest = two_safe shortest (a.safe path shortest)

  pub planned_starts_apart : (i k : ℕ) → i < carriers j → k < carriers j → i ≢ k → start j i ≡ start j k →
      ¬ TicksNear j.dwell (tick i) (tick k)
  planned_starts_apart = starts_apart j (checks_of_none j a.no_fault) t tick cost a.plan

  pub planned_in_a_row : ((i k : ℕ) → i < carriers j → k < carriers j → start j i ≡ start j k) →
      (p : ℕ) → p < length j.order → tick (at_place j p) ≡ suc j.dwell * p
  planned_in_a_row = in_a_row j (checks_of_none j a.no_fault) t tick cost a.plan

-- ---- 6 does not occur

pub read_never_six : (r : Result Job Refusal) (line : ℕ) → said_read r ≢ refused 6 line
read_never_six (Ok counts) line = accepted_never_six counts line
read_never_six (Err q) line = never_six q line

pub plan_never_six : (r : Result ℕ Refusal) (p : ℕ) → said_planned r ≢ refused 6 p
plan_never_six (Ok cost) p = accepted_never_six cost p
plan_never_six (Err q) p = never_six q p

pub house_never_six : (r : Result ℕ Refusal) (p : ℕ) → said_housed r ≢ refused 6 p
house_never_six (Ok count) p = accepted_never_six count p
house_never_six (Err q) p = never_six q p

pub check_never_six : (r : Result Unit Refusal) (p : ℕ) → said_checked r ≢ refused 6 p
check_never_six (Ok tt) p = accepted_never_six tt p
check_never_six (Err q) p = never_six q p

pub write_never_six : (r : Result ℕ Refusal) (p : ℕ) → said_written r ≢ refused 6 p
write_never_six (Ok size) p = accepted_never_six size p
write_never_six (Err q) p = never_six q p

pub plan_six_never_first : (j : Numbers) (table : List ℕ) (p : ℕ) → ¬ First (record_question j table) 6 p
plan_six_never_first j table p first = first_among (λ n. n ≢ 6) {q = record_question j table} (omega arith) first refl

pub refused_never_six : {text : List ℕ} {line : ℕ} → ¬ RefusedFor text 6 line
refused_never_six {text} {line} (at_line x) = (refused_with text 6 line x).2 refl
refused_never_six (no_walk j i w first e l) = let x : ⊥ = omega arith in x

-- a printed refusal tells its number, and a printed plan is none
told_number : (n l m k : ℕ) → refused_text n l ≡ refused_text m k → n ≡ m
unfolding refused_text
told_number n l m k e =
    let behind = front_unique REFUSED (further (n ∷ l ∷ [])) (further (m ∷ k ∷ [])) e in
    let same = further_unique (n ∷ l ∷ []) (m ∷ k ∷ []) [] [] (ap (λ (t : List ℕ). t ++ []) behind) in
    ap (λ (t : List ℕ). get_or t 0 0) same.0

plan_or_refusal : (k : ℕ) (tick distance : ℕ → ℕ) (cost n l : ℕ) → plan_text k tick distance cost ≢ refused_text n l
unfolding plan_text count_line refused_text
plan_or_refusal k tick distance cost n l e =
    let first : ◌≡◌ {A = ℕ} 80 82 = ap (λ (t : List ℕ). get_or t 0 0) e in
    omega arith

pub six_never_printed : {text printed : List ℕ} → Owed text printed → (line : ℕ) → printed ≢ refused_text 6 line
six_never_printed {text} (refusal {n = n} {line = l} r p) line e =
    let six = told_number n l 6 line (sym p ∙ e) in
    refused_never_six (subst (λ (m : ℕ). RefusedFor text m l) six r)
six_never_printed (schedule {j = j} {t = t} {tick = tick} {cost = cost} a p) line e =
    plan_or_refusal (carriers j) tick (own t) cost 6 line (sym p ∙ e)

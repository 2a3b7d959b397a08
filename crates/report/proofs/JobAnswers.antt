-- The answer for a job without a fault of its listed checks, from what planning promises. The lists that are
-- lent are long enough, so the first fault of planning is that of the job, which is 8 at a carrier; what is
-- printed is its refusal with the carrier's line, whose number is the sum that the code makes (form's
-- `carrier_line_lem`). Where planning answers a cost, the job has no fault, the table and the ticks are its plan,
-- and the distances that are printed are those of the plan below the number of carriers, which is all that
-- the text asks for. Assumes nothing.
--     closed_lines_few    the section of the closed nodes has a line more than they are, or none
--     RoomFor             the lists that are lent to planning have their least lengths
use mathlib.Core.Path.{◌≡◌, refl, sym, subst}
use mathlib.Core.List.{List, [], ◌∷◌}
use Prim.Native.Nat.{ℕ, zero, suc, ◌+◌, ◌≤◌, ◌<◌}
use native.Mathlib.Decide.{dec_lt}
use native.Mathlib.Omega.{arith}
use lib.ListN.{length, get_or}
use Rattle.std.proofs.Common.{Result, Ok, Err}
use Rattle.hall.specs.declared.Refusal.{Refusal}
use Rattle.hall.specs.Limits.{carrier_limit, table_length}
use Rattle.hall.specs.Floor.{lanes_in}
use Rattle.hall.specs.Job.{Numbers, carriers}
use Rattle.hall.specs.Numbers.{number_of}
use Rattle.hall.specs.Stages.{First, None}
use Rattle.hall.specs.Questions.{checks_question, job_question}
use Rattle.hall.specs.Plan.{tables_in}
use Rattle.hall.specs.Ticks.{own}
use Rattle.hall.proofs.Sound.{carriers_limit, only_eight}
use Rattle.planner.specs.Planning.{said_planned, Lent, table_is_short, short_distances, short_ticks, ShortOf}
use Rattle.planner.specs.Planning.{NumbersPlanned, NumbersRefused, Planning}
use Rattle.planner.proofs.Faults.{none_of_job, job_first}
use Rattle.form.specs.Jobs.{closed_lines}
use Rattle.form.proofs.CarrierLines.{carrier_line_lem}
use Rattle.report.specs.Printed.{print_room, carrier_lines, plan_text, refused_text}
use Rattle.report.specs.Printing.{Askable, PlanPrinting, RefusedPrinting}
use Rattle.report.specs.Answer.{JobAnswer, Answering}

-- ---- a text asks for the numbers of the carriers below the count, and for no others

lines_same : (k : ℕ) (tick tick' distance distance' : ℕ → ℕ) →
    ((i : ℕ) → i < k → tick i ≡ tick' i) → ((i : ℕ) → i < k → distance i ≡ distance' i) →
    carrier_lines k tick distance ≡ carrier_lines k tick' distance'
unfolding carrier_lines
lines_same zero tick tick' distance distance' et ed = refl
lines_same (suc k) tick tick' distance distance' et ed =
    rw (
      lines_same k tick tick' distance distance' (λ i h. et i (omega arith)) (λ i h. ed i (omega arith)),
      et k (omega arith),
      ed k (omega arith),
    )

pub text_same : (k : ℕ) (tick tick' distance distance' : ℕ → ℕ) (cost : ℕ) →
    ((i : ℕ) → i < k → tick i ≡ tick' i) → ((i : ℕ) → i < k → distance i ≡ distance' i) →
    plan_text k tick distance cost ≡ plan_text k tick' distance' cost
unfolding plan_text
text_same k tick tick' distance distance' cost et ed = rw (lines_same k tick tick' distance distance' et ed)

-- ---- the lines of the closed nodes

pub closed_lines_few : (closed : List ℕ) → closed_lines closed ≤ suc (length closed)
closed_lines_few [] = omega arith
closed_lines_few (v ∷ l) = omega arith

-- ---- planning with room

pub record RoomFor (l : Lent) : Type 0 where
  pub table : table_length ≤ length l.table
  pub distances : carrier_limit ≤ length l.distances
  pub ticks : carrier_limit ≤ length l.ticks

never_short : {l : Lent} → RoomFor l → ¬ ShortOf l
never_short room (table_is_short h) = omega (arith, room.table)
never_short room (short_distances h) = omega (arith, room.distances)
never_short room (short_ticks h) = omega (arith, room.ticks)

-- ---- the answers

module _ {j : Numbers} {before after : Lent} (sound : None (checks_question j)) (room : RoomFor before) where
  module _ {n p : ℕ} (refuses : NumbersRefused j before after n p) where
    first_of_job : First (job_question j) n p
    first_of_job = job_first j before (never_short room) refuses.first

    pub refused_carrier : p < carriers j
    refused_carrier = (only_eight j sound first_of_job).1.0

    pub refusal_answers : {out out' : List ℕ} {r : ℕ} →
        RefusedPrinting n (4 + lanes_in j.network.lanes + closed_lines j.network.closed + p) out out' r →
        Answering (JobAnswer j) out out' r
    refusal_answers (RefusedPrinting.nothing short u) = Answering.nothing short u
    refusal_answers (RefusedPrinting.whole long prints) =
        let eight = (only_eight j sound first_of_job).0 in
        let unreached = subst (λ (m : ℕ). First (job_question j) m p) eight first_of_job in
        let line = sym (carrier_line_lem j p) in
        Answering.whole long (JobAnswer.unreached unreached (λ i. refused_text (eight i) (line i))) prints

  pub cost_answers : {cost : ℕ} {out out' : List ℕ} {r : ℕ} → NumbersPlanned j before after cost →
      PlanPrinting (carriers j) after.distances after.ticks cost out out' r →
      Answering (JobAnswer j) out out' r
  cost_answers {cost} plan (PlanPrinting.whole ask prints) =
      let tick : ℕ → ℕ = λ i. get_or after.ticks i 0 in
      let distance : ℕ → ℕ = λ i. get_or after.distances i 0 in
      let same = text_same (carriers j) tick tick distance (own (tables_in after.table)) cost
      (λ i h. refl) plan.own_distances in
      Answering.whole ask.room
      (JobAnswer.planned (none_of_job j before plan.no_fault) plan.plan same)
      prints
  cost_answers {cost} {out} {out'} {r} plan (PlanPrinting.nothing none u) =
      cases (dec_lt (length out) print_room)
    where
      askable : print_room ≤ length out → Askable (carriers j) after.distances after.ticks out
      askable long = record {
        few = carriers_limit j sound;
        distance_each = omega (arith, carriers_limit j sound, room.distances, plan.distances_left.size);
        tick_each = omega (arith, carriers_limit j sound, room.ticks, plan.ticks_left.size);
        room = long;
      }

      cases : Dec (length out < print_room) → Answering (JobAnswer j) out out' r
      cases (yes short) = Answering.nothing short u
      cases (no long) = absurd (none (askable (omega arith)))

-- ---- what a planned answer is

module _ {j : Numbers} {before after : Lent} {r : Result ℕ Refusal} where
  pub planned_accepted : {cost : ℕ} → r ≡ Ok cost →
      Planning j before after (said_planned r) → NumbersPlanned j before after cost
  planned_accepted e p = rw e at p

  pub planned_refused : {refusal : Refusal} → r ≡ Err refusal →
      Planning j before after (said_planned r) →
      NumbersRefused j before after (number_of refusal.fault) refusal.place
  planned_refused e p = rw e at p

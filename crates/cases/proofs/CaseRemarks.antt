-- What the rules remark of their cases beside the outcomes (rules 11.4, 11.6, 11.7 and 11.10): in P4 the two
-- would cross at tick 0 and not meet; in P6 the gap is 4; in P7 the gap and both leads are 0 and the starts
-- are one lane apart; in P10 no walk joins the starts. The six distances of a pair are those of the guessed
-- tables, since these are true and distances are unique, and the rest is computed. For P4 the two shortest
-- paths are written down. Assumes nothing.
--     job k         the job of line k of the table, from 0
--     TruePair k    what holds of every pair of true distances of the first two carriers
use mathlib.Core.Path.{◌≡◌, refl, sym, ◌∙◌, ap}
use mathlib.Core.Logic.{inl}
use mathlib.Core.List.{List, []}
use Prim.Native.Nat.{ℕ, suc, ◌+◌, ◌<◌}
use native.Mathlib.Omega.{arith}
use lib.ListN.{length, get_or}
use lib.IntN.{pos}
use Rattle.hall.specs.Floor.{Lane, Network, network_of, Open, floor}
use Rattle.hall.specs.Job.{Numbers, carriers, start, goal}
use Rattle.hall.specs.Stages.{None}
use Rattle.hall.specs.Questions.{job_question}
use Rattle.hall.specs.Rule.{Pair, lead_i, lead_j, gap}
use Rattle.hall.specs.Ticks.{Tables, pair_of, total}
use Rattle.hall.specs.Path.{PathOf, ShortestPath, At, Meet, Cross}
use Rattle.hall.specs.Plan.{TablesOf}
use Rattle.cases.specs.Case.{cases, line4, there, back}
use Rattle.hall.proofs.Walks.{true_distance}
use Rattle.hall.proofs.Labels.{labels_are}
use Rattle.hall.proofs.PlanLaws.{tables_unique, pair_same}
use Rattle.hall.proofs.Test.{Test, eq?, not?, ◌and?◌, map?, all?}
use Rattle.hall.proofs.FloorTests.{lane?, open?}
use Rattle.cases.proofs.JobTests.{Labelled, labelled?, guessed, guessed_true}
use Rattle.cases.proofs.Cases.{no_case, all_cases}

abbrev job : ℕ → Numbers
job k = (get_or cases k no_case).job

-- the six distances of two carriers are the guessed ones
pair_guessed : (j : Numbers) → Labelled j → None (job_question j) → (t : Tables) → TablesOf (floor j.network) (carriers j) (start j) (goal j) t
    → (a b : ℕ) → a < carriers j → b < carriers j → pair_of t a b ≡ pair_of (guessed j) a b
pair_guessed j labels none t true_tables = pair_same (tables_unique true_tables (guessed_true j labels none))

abbrev pub TruePair : ℕ → (Pair → Type 0) → Type 0
TruePair k P = (t : Tables) → TablesOf (floor (job k).network) (carriers (job k)) (start (job k)) (goal (job k)) t → P (pair_of t 0 1)

pub P6-gap : TruePair 5 (λ p. gap p ≡ pos 4)
unfolding cases total gap
P6-gap t h = ap gap (pair_guessed (job 5) ((labelled? (job 5)).sound tt) (all_cases 5 (omega arith)).no_fault t h 0 1 (omega arith) (omega arith))

pub P7-exception : TruePair 6 (λ p. (gap p ≡ pos 0) × (lead_i p ≡ pos 0) × (lead_j p ≡ pos 0) × (p.ss ≡ 1))
unfolding cases total gap lead_i lead_j
P7-exception t h = (ap gap e, ap lead_i e, ap lead_j e, ap (λ (p : Pair). p.ss) e)
  where
    e : pair_of t 0 1 ≡ pair_of (guessed (job 6)) 0 1
    e = pair_guessed (job 6) ((labelled? (job 6)).sound tt) (all_cases 6 (omega arith)).no_fault t h 0 1 (omega arith) (omega arith)

pub P10-no-walk : TruePair 9 (λ p. p.ss ≡ 65535)
unfolding cases total
P10-no-walk t h = ap (λ (p : Pair). p.ss) (pair_guessed (job 9) ((labelled? (job 9)).sound tt) (all_cases 9 (omega arith)).no_fault t h 0 1 (omega arith) (omega arith))

-- ---- P4: at tick 0 the two would cross, and not meet

-- the list is a path of d lanes from s to g
abbrev path? : (N : Network) (s g d : ℕ) (l : List ℕ) → Test (PathOf (floor N) s g d l)
path? N s g d l =
    map? {A = (length l ≡ d + 1) × ((get_or l 0 0 ≡ s) × ((get_or l d 0 ≡ g) × (((k : ℕ) → k < suc d → Open N (get_or l k 0)) × ((k : ℕ) → k < d → Lane N.lanes (get_or l k 0) (get_or l (k + 1) 0)))))}
    (λ h. record { size = h.0; begins = h.1.0; ends = h.1.1.0; nodes = λ k m. h.1.1.1.0 k (omega arith); joins = h.1.1.1.1 })
    (λ p. (p.size, (p.begins, (p.ends, ((λ k m. p.nodes k (omega arith)), p.joins)))))
    (eq? (length l) (d + 1) and? eq? (get_or l 0 0) s and? eq? (get_or l d 0) g and? all? (λ k. open? N (get_or l k 0)) (suc d) and? all? (λ k. lane? N.lanes (get_or l k 0) (get_or l (k + 1) 0)) d)

-- the two are shortest paths of its moves
pub P4-paths : ShortestPath (floor (job 3).network) 0 3 there × ShortestPath (floor (job 3).network) 3 0 back
unfolding cases
P4-paths = (
  record { d = 3; short = true_distance (labels_are ((labels 0 (omega arith)).0 ((open? (job 3).network 0).sound tt)) 3 ((open? (job 3).network 3).sound tt)) (λ e. omega arith); is_path = (path? (network_of 4 line4 []) 0 3 3 there).sound tt },
  record { d = 3; short = true_distance (labels_are ((labels 1 (omega arith)).0 ((open? (job 3).network 3).sound tt)) 0 ((open? (job 3).network 0).sound tt)) (λ e. omega arith); is_path = (path? (network_of 4 line4 []) 3 0 3 back).sound tt },
)
  where
    labels : Labelled (job 3)
    labels = (labelled? (job 3)).sound tt

-- without dwell a carrier that starts at tick 0 has gone as many lanes as ticks are over
on_the_way : {l : List ℕ} {x v : ℕ} (n : ℕ) → n ≡ x → n < length l → get_or l n 0 ≡ v → At 0 l 0 x v
on_the_way n e h at = record {
  gone = n;
  stood = 0;
  time = omega arith;
  present = h;
  waits_at_goal = inl refl;
  within_dwell = omega arith;
  node = at;
}

pub P4-would-cross : Cross 0 there 0 back 0
P4-would-cross = record {
  tick = 1;
  node = 1;
  other = 2;
  different = λ e. omega arith;
  first_before = on_the_way 1 refl (omega arith) refl;
  first_after = on_the_way 2 refl (omega arith) refl;
  second_before = on_the_way 1 refl (omega arith) refl;
  second_after = on_the_way 2 refl (omega arith) refl;
}

pub P4-would-not-meet : ¬ Meet 0 there 0 back 0
P4-would-not-meet m = (all? (λ k. not? (eq? (get_or there k 0) (get_or back k 0))) 4).sound tt m.first.gone m.first.present (m.first.node ∙ sym m.second.node ∙ ap (λ k. get_or back k 0) same)
  where
    same : m.second.gone ≡ m.first.gone
    same = omega (arith, m.first.time, m.second.time, m.first.within_dwell, m.second.within_dwell)

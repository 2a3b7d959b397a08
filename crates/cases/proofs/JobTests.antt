-- Computed tests of a job with an outcome. The tables of the job are guessed and tested to be true distances;
-- where they are, each stage of the job is a computed question, and by uniqueness of distances every plan of
-- the job is one by these tables. So a test of an outcome passes exactly if the outcome is what the
-- definitions give. Assumes nothing.
use mathlib.Core.Path.{◌≡◌, ◌∙◌, ap}
use mathlib.Core.Logic.{◌⊎◌, inr}
use Prim.Native.Nat.{ℕ, ◌+◌, ◌<◌}
use lib.ListN.{length, get_or}
use Rattle.hall.specs.Floor.{DistanceIs, NoWalk, Open, floor}
use Rattle.hall.specs.Job.{Numbers, carriers, start, goal, EndsOn}
use Rattle.hall.specs.Stages.{None}
use Rattle.hall.specs.Said.{accepted, refused}
use Rattle.hall.specs.Questions.{walk_checks, each_walk, job_question}
use Rattle.hall.specs.Ticks.{Tables, own, StartTicks, goal_tick, cost_of}
use Rattle.hall.specs.Plan.{TablesOf}
use Rattle.cases.specs.Case.{Schedule, Outcome, Accepted, Gives}
use Rattle.hall.proofs.Labels.{Labels, labels_are}
use Rattle.hall.proofs.Ticks.{total_same}
use Rattle.hall.proofs.Sound.{checks_of_none, walks_of_none, ends_on, entry_below}
use Rattle.hall.proofs.PlanLaws.{SameTables, tables_unique, ticks_same}
use Rattle.hall.proofs.Test.{Test, lt?, eq?, not?, ◌and?◌, ◌or?◌, ◌implies?◌, map?, all?}
use Rattle.hall.proofs.TickTests.{start-ticks?}
use Rattle.hall.proofs.StageTests.{Tested, TestedAll, each_beyond, none?, first?}
use Rattle.hall.proofs.FaultTests.{job?}
use Rattle.hall.proofs.FloorTests.{open?, guess, labels?, no_walk_is, is_no_walk}

-- ---- distances

module _ (j : Numbers) where
  abbrev pub label : ℕ → ℕ → ℕ
  label s v = get_or (guess j.network s) v 65535

  abbrev pub guessed : Tables
  guessed = record {
    ss = λ i k. label (start j i) (start j k);
    sg = λ i k. label (start j i) (goal j k);
    gg = λ i k. label (goal j i) (goal j k);
  }

  -- the labels from an open node are its distances
  abbrev pub LabelledFrom : ℕ → Type 0
  LabelledFrom s = Open j.network s → Labels (floor j.network) s (label s)

  abbrev pub labelled-from? : (s : ℕ) → Test (LabelledFrom s)
  labelled-from? s = open? j.network s implies? labels? j.network s (label s)

  abbrev pub Labelled : Type 0
  Labelled = (i : ℕ) → i < carriers j → LabelledFrom (start j i) × LabelledFrom (goal j i)

  abbrev pub labelled? : Test Labelled
  labelled? = all? (λ i. labelled-from? (start j i) and? labelled-from? (goal j i)) (carriers j)

  -- ---- faults

  module _ (true_labels : Labelled) where
    pub own_is : (i : ℕ) → i < carriers j → Open j.network (start j i) → Open j.network (goal j i) →
        DistanceIs (floor j.network) (start j i) (goal j i) (own guessed i)
    own_is i h s g = labels_are ((true_labels i h).0 s) (goal j i) g

    -- by the labels no walk leads from the start of carrier i to its goal
    abbrev pub Unreached : ℕ → Type 0
    Unreached i =
        (i < carriers j)
        × ((¬ Open j.network (start j i)) ⊎ ((¬ Open j.network (goal j i)) ⊎ (own guessed i ≡ 65535)))

    abbrev pub unreached? : (i : ℕ) → Test ((i < carriers j) × NoWalk (floor j.network) (start j i) (goal j i))
    unreached? i =
        map? {A = Unreached i}
        (λ h. (h.0, no_walk_is j.network (start j i) (goal j i) (own guessed i) (own_is i h.0) h.1))
        (λ h. (h.0, is_no_walk j.network (start j i) (goal j i) (own guessed i) (own_is i h.0) h.1))
        (lt? i (carriers j)
        and? (not? (open? j.network (start j i)) or? not? (open? j.network (goal j i)) or? eq? (own guessed i) 65535))

    abbrev pub walks? : Tested (each_walk j.network j.moves)
    walks? = record {
      places = carriers j;
      at = λ i. (unreached? i, tt);
      beyond = λ i. each_beyond (carriers j) i (walk_checks j.network j.moves);
    }

    abbrev pub tested : TestedAll (job_question j)
    tested = job? j walks?

    -- ---- an accepted job

    pub guessed_true : None (job_question j) →
        TablesOf (floor j.network) (carriers j) (start j) (goal j) guessed
    guessed_true none = record {
      starts = λ i k hi hk. labels_are ((true_labels i hi).0 (on.starts i hi)) (start j k) (on.starts k hk);
      goals = λ i k hi hk. labels_are ((true_labels i hi).1 (on.goals i hi)) (goal j k) (on.goals k hk);
      start_goal = λ i k hi hk. labels_are ((true_labels i hi).0 (on.starts i hi)) (goal j k) (on.goals k hk);
    }
      where
        on : EndsOn (floor j.network) j.moves
        on = ends_on j (checks_of_none j none)

    module _ (s : Schedule) where
      abbrev pub tick : ℕ → ℕ
      tick i = get_or s.ticks i 0

      abbrev pub ByGuess : Type 0
      ByGuess =
          None (job_question j)
          × ((length s.ticks ≡ carriers j)
          × (StartTicks j.dwell guessed j.order tick × (s.cost ≡ cost_of guessed tick (carriers j))))

      pub by_guess_accepted : ByGuess → Accepted j s
      by_guess_accepted h = record {
        no_fault = h.0;
        one_each = h.1.0;
        tables = guessed;
        plan = record {
          true_distances = guessed_true h.0;
          reached = λ i l e. walks_of_none j h.0 i l
              (no_walk_is j.network (start j i) (goal j i) (own guessed i) (own_is i l) (inr (inr e)));
          ticks = h.1.1.0;
          cost_is = h.1.1.1;
        };
      }

      pub accepted_by_guess : Accepted j s → ByGuess
      accepted_by_guess a = (
        a.no_fault,
        (
          a.one_each,
          (
            ticks_same j.dwell j.order (entry_below j (checks_of_none j a.no_fault)) tick same a.plan.ticks,
            a.plan.cost_is
                ∙ total_same (carriers j) (goal_tick a.tables tick) (goal_tick guessed tick)
                (λ i h. ap (λ n. tick i + n) (same.sg i i h h)),
          ),
        ),
      )
        where
          same : SameTables (carriers j) a.tables guessed
          same = tables_unique a.plan.true_distances (guessed_true a.no_fault)

      abbrev pub accepted? : Test (Accepted j s)
      accepted? =
          map? by_guess_accepted accepted_by_guess
          (none? (job_question j) tested
          and? eq? (length s.ticks) (carriers j)
          and? start-ticks? j.dwell guessed j.order tick
          and? eq? s.cost (cost_of guessed tick (carriers j)))

    abbrev pub gives? : (o : Outcome) → Test (Gives j o)
    gives? (accepted s) = accepted? s
    gives? (refused n p) = first? (job_question j) tested n p

-- Planning over records is planning from their numbers. What is planned of the loaded moves is the plan of
-- the records' moves, since jobs of more than 64 carriers are refused alike. The local lists of 64 distances
-- and 64 ticks are long enough, so 9 is the table's alone. After a cost every record has the carrier's
-- distance and tick of those lists, and past the records both lists are zero, as a missing record is; after a
-- refusal no record is written. Assumes nothing.
--     records_planned     the promise of `plan`, from that of `plan_moves` and from the records that are
--                         written
use mathlib.Core.Path.{◌≡◌, refl, sym, ◌∙◌, ap, subst}
use mathlib.Core.List.{List}
use Prim.Native.Nat.{ℕ, ◌≤◌, ◌<◌}
use native.Mathlib.Decide.{dec_lt}
use native.Mathlib.Omega.{arith}
use lib.ListN.{length, get_or, replicate, length-replicate, get_or-eq_default}
use Rattle.std.proofs.Common.{Result, Ok, Err}
use Rattle.hall.specs.declared.Refusal.{Refusal}
use Rattle.hall.specs.Limits.{carrier_limit, table_length}
use Rattle.hall.specs.Floor.{Network}
use Rattle.hall.specs.Job.{Numbers, job_of, move_count}
use Rattle.hall.specs.Plan.{Plan, tables_in}
use Rattle.hall.proofs.Places.{none_as, first_as}
use Rattle.hall.proofs.Sound.{carriers_limit}
use Rattle.records.specs.declared.Record.{Record}
use Rattle.records.specs.Table.{blank, record_at, with_times, moved, timed}
use Rattle.records.proofs.Lists.{timed_length}
use Rattle.records.proofs.Laws.{moves_count, timed_at, timed_past}
use Rattle.planner.specs.Planning.{said_planned, lent, Short, table_is_short, short_distances, short_ticks}
use Rattle.planner.specs.Planning.{NumbersPlanned, NumbersRefused, Planning}
use Rattle.planner.proofs.Faults.{none_checked}
use Rattle.planner.proofs.Crowd.{planning_alike}
use Rattle.recorded.specs.Job.{record_job}
use Rattle.recorded.specs.Planning.{tick_of, RecordsPlanned, RecordsRefused, GivenRecords, RecordPlanning}
use Rattle.recorded.specs.Loading.{loaded, stored_count}
use Rattle.recorded.proofs.Loading.{zeros130, loaded_as}

-- ---- 9

abbrev zeros64 : List ℕ
zeros64 = replicate 64 0

table_short : {n : ℕ} → Short n (length zeros64) (length zeros64) → n < table_length
table_short (table_is_short h) = h
table_short (short_distances h) = absurd (let x : ⊥ = omega (arith, length-replicate {A = ℕ} 64 0) in x)
table_short (short_ticks h) = absurd (let x : ⊥ = omega (arith, length-replicate {A = ℕ} 64 0) in x)

-- ---- the records that are written

module _ (N : Network) (rs : List Record) (order : List ℕ) (dwell : ℕ)
    (table table' ds ks : List ℕ) where
  abbrev j : Numbers
  j = record_job N rs order dwell

  module _ (c : ℕ) (a : NumbersPlanned j (lent table zeros64 zeros64) (lent table' ds ks) c) where
    few : length rs ≤ carrier_limit
    few = rw (moves_count rs) at (carriers_limit j (none_checked j (lent table zeros64 zeros64) a.no_fault))

    distances_long : length ds ≡ carrier_limit
    distances_long = a.distances_left.size ∙ length-replicate {A = ℕ} 64 0

    ticks_long : length ks ≡ carrier_limit
    ticks_long = a.ticks_left.size ∙ length-replicate {A = ℕ} 64 0

    written : (i : ℕ) → i < length rs → record_at (timed (length rs) rs ds ks) i ≡ with_times (record_at rs i) (get_or ds i 0) (get_or ks i 0)
    written i h = timed_at (length rs) rs ds ks i h h (omega (arith, distances_long, few)) (omega (arith, ticks_long, few))

    -- past the records a tick is zero, and so is that of a missing record
    no_tick : (i : ℕ) → length rs ≤ i → get_or ks i 0 ≡ 0
    no_tick i h = cases (dec_lt i carrier_limit)
      where
        cases : Dec (i < carrier_limit) → get_or ks i 0 ≡ 0
        cases (yes l) = a.ticks_left.unused i (rw (moves_count rs) h) l
        cases (no l) = get_or-eq_default ks 0 {n = i} (omega (arith, ticks_long))

    no_record : (i : ℕ) → length rs ≤ i → record_at (timed (length rs) rs ds ks) i ≡ blank
    no_record i h = timed_past (length rs) rs ds ks i h ∙ get_or-eq_default rs blank {n = i} h

    same_tick : (i : ℕ) → get_or ks i 0 ≡ tick_of (timed (length rs) rs ds ks) i
    same_tick i = cases (dec_lt i (length rs))
      where
        cases : Dec (i < length rs) → get_or ks i 0 ≡ tick_of (timed (length rs) rs ds ks) i
        cases (yes h) = sym (ap (λ (x : Record). x.tick) (written i h))
        cases (no h) = no_tick i (omega arith) ∙ sym (ap (λ (x : Record). x.tick) (no_record i (omega arith)))

    records_accepted : RecordsPlanned j rs (timed (length rs) rs ds ks) table table' c
    records_accepted = record {
      no_fault = none_as table_short table_is_short a.no_fault;
      plan = subst (λ (t : ℕ → ℕ). Plan j (tables_in table') t c) (λ k i. same_tick i k) a.plan;
      records_left = record {
        as_many = timed_length (length rs) rs ds ks;
        starts = λ i h. ap (λ (x : Record). x.start) (written i h);
        goals = λ i h. ap (λ (x : Record). x.goal) (written i h);
        distances = λ i h. ap (λ (x : Record). x.distance) (written i h) ∙ a.own_distances i (rw (moves_count rs) h);
      };
      table_left = a.table_left;
    }

  records_refused : (n p : ℕ) → NumbersRefused j (lent table zeros64 zeros64) (lent table' ds ks) n p →
      RecordsRefused j rs rs table table' n p
  records_refused n p a = record {
    first = first_as table_short table_is_short a.first;
    records_kept = refl;
    table_left = a.table_left;
  }

  given_records : (r : Result ℕ Refusal) → Planning j (lent table zeros64 zeros64) (lent table' ds ks) (said_planned r) →
      GivenRecords j rs (timed (stored_count r (length rs)) rs ds ks) table table' (said_planned r)
  given_records (Ok c) a = records_accepted c a
  given_records (Err r) a = records_refused _ _ a

  -- planning from the numbers of some moves
  abbrev PlannedOf : Result ℕ Refusal → List ℕ → Type 0
  PlannedOf r ms =
      Planning (job_of N ms order dwell) (lent table zeros64 zeros64) (lent table' ds ks) (said_planned r)

  pub records_planned : (rs' : List Record) (r : Result ℕ Refusal) →
      PlannedOf r (loaded (length rs) (moved rs zeros130)) →
      rs' ≡ timed (stored_count r (length rs)) rs ds ks →
      RecordPlanning N N rs rs' order order dwell table table' r
  records_planned rs' r a e = record {
    given = rw e (given_records r (loaded_as rs (PlannedOf r) alike a));
    network_kept = refl;
    order_kept = refl;
  }
    where
      alike : (ms ms' : List ℕ) → carrier_limit < move_count ms → carrier_limit < move_count ms' →
          PlannedOf r ms → PlannedOf r ms'
      alike ms ms' many many' =
          planning_alike N order dwell ms ms' many many'
          (lent table zeros64 zeros64) (lent table' ds ks) (said_planned r)

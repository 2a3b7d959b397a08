-- Of 80 records the first i are those of their numbers.
use Rattle.std.proofs.Common.{ℕ, ◌≡◌, ◌<◌, length}
use Rattle.records.specs.Table.{record_at}
use Rattle.try_columns.specs.Columns.{lendable, record_from}
use Rattle.try_columns.proofs.made.Given as goal

abbrev pub invariant-loop-i : goal.invariant-loop-i
invariant-loop-i l = record {
  as_many : length l.record-items ≡ lendable;
  so_far : (k : ℕ) → k < l.i → record_at l.record-items k ≡ record_from l.fields k;
}

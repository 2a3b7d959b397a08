-- Writing a job with its records lent is writing it from its numbers: what holds of the loaded moves holds of
-- the records' moves, since jobs of more than 64 carriers are refused alike (writer's `writing_alike`). The
-- records are only read. Assumes nothing.
--     records_written    the promise of `write_job`
use mathlib.Core.Path.{refl}
use mathlib.Core.List.{List}
use Prim.Native.Nat.{ℕ}
use lib.ListN.{length}
use Rattle.std.proofs.Common.{Result}
use Rattle.hall.specs.declared.Refusal.{Refusal}
use Rattle.hall.specs.Floor.{Network}
use Rattle.hall.specs.Job.{job_of}
use Rattle.records.specs.declared.Record.{Record}
use Rattle.records.specs.Table.{moved}
use Rattle.writer.specs.Writing.{said_written, Writing}
use Rattle.writer.proofs.Crowded.{writing_alike}
use Rattle.recorded.specs.Writing.{RecordWriting}
use Rattle.recorded.specs.Loading.{loaded}
use Rattle.recorded.proofs.Loading.{zeros130, loaded_as}

pub records_written : (N : Network) (rs : List Record) (order : List ℕ) (dwell : ℕ) (out out' : List ℕ)
    (r : Result ℕ Refusal) →
    Writing (job_of N (loaded (length rs) (moved rs zeros130)) order dwell) out out' (said_written r) →
    RecordWriting N N rs rs order order dwell out out' r
records_written N rs order dwell out out' r a = record {
  given =
      loaded_as rs (λ ms. Writing (job_of N ms order dwell) out out' (said_written r))
      (λ ms ms' many many'. writing_alike N order dwell ms ms' many many' out out' (said_written r)) a;
  kept = record { network_kept = refl; records_kept = refl; order_kept = refl };
}

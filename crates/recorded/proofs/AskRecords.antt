-- The questions about one carrier, over records, are those about the numbers of the job: what holds of the
-- loaded moves holds of the records' moves, since jobs of more than 64 carriers are refused alike (asks's
-- `crowded_house`, `crowded_list`). The records are only read. Assumes nothing.
--     records_housed    the promise of `house`
--     records_judged    the promise of `judge`
use mathlib.Core.Path.{refl}
use mathlib.Core.List.{List}
use Prim.Native.Nat.{ℕ}
use lib.ListN.{length}
use Rattle.std.proofs.Common.{Result}
use Rattle.hall.specs.declared.Refusal.{Refusal}
use Rattle.hall.specs.Floor.{Network}
use Rattle.hall.specs.Job.{job_of}
use Rattle.records.specs.declared.Record.{Record}
use Rattle.records.specs.Table.{moved}
use Rattle.path.specs.Paths.{said_housed}
use Rattle.asks.proofs.Crowded.{crowded_house, crowded_list}
use Rattle.recorded.specs.Asking.{RecordsKept, HouseGiven, ListGiven, HouseOfRecords, ListOfRecords}
use Rattle.recorded.specs.Loading.{loaded}
use Rattle.recorded.proofs.Loading.{zeros130, loaded_as}

module _ (N : Network) (rs : List Record) (order : List ℕ) (dwell c : ℕ) where
  kept : RecordsKept N N rs rs order order
  kept = record { network_kept = refl; records_kept = refl; order_kept = refl }

  pub records_housed : (path path' : List ℕ) (r : Result ℕ Refusal) →
      HouseGiven (job_of N (loaded (length rs) (moved rs zeros130)) order dwell) c path path' r →
      HouseOfRecords N N rs rs order order dwell c path path' r
  records_housed path path' r a = record {
    given =
        loaded_as rs (λ ms. HouseGiven (job_of N ms order dwell) c path path' r)
        (λ ms ms' many many'. crowded_house N order dwell ms ms' many many' c path path' (said_housed r)) a;
    kept = kept;
  }

  pub records_judged : (list : List ℕ) (r : Result Unit Refusal) →
      ListGiven (job_of N (loaded (length rs) (moved rs zeros130)) order dwell) c list r →
      ListOfRecords N N rs rs order order dwell c list list r
  records_judged list r a = record {
    given =
        loaded_as rs (λ ms. ListGiven (job_of N ms order dwell) c list r)
        (λ ms ms' many many'. crowded_list N order dwell ms ms' many many' c list r) a;
    kept = kept;
    list_kept = refl;
  }

-- Jobs on one network, with one dwell and more than 64 carriers, are refused alike, whatever moves they have
-- (hall's `crowded_job_alike`), so writing has one answer for all of them. A caller that lends a longer list
-- of records may therefore put the first 65 of them only. Assumes nothing.
--     writing_alike    what is answered of one such job may be answered of another
use mathlib.Core.List.{List, []}
use Prim.Native.Nat.{ℕ, ◌<◌}
use lib.ListN.{length}
use Rattle.hall.specs.Limits.{carrier_limit, text_room}
use Rattle.hall.specs.Floor.{Network}
use Rattle.hall.specs.Job.{job_of, move_count}
use Rattle.hall.specs.Said.{Said, accepted, refused}
use Rattle.hall.specs.Questions.{short_table}
use Rattle.hall.proofs.Places.{none_asked}
use Rattle.hall.proofs.Crowded.{⇒-behind, crowded_job, crowded_job_alike}
use Rattle.writer.specs.Writing.{Writing}

module _ (N : Network) (order : List ℕ) (dwell : ℕ) (moves moves' : List ℕ)
    (many : carrier_limit < move_count moves) (many' : carrier_limit < move_count moves')
    (out out' : List ℕ) where
  pub writing_alike : (s : Said ℕ)
      → Writing (job_of N moves order dwell) out out' s → Writing (job_of N moves' order dwell) out out' s
  writing_alike (accepted size) a =
      absurd (crowded_job N moves order dwell [] many (none_asked a.no_fault).1)
  writing_alike (refused n p) a = record {
    first =
        (⇒-behind (short_table (length out < text_room))
        (crowded_job_alike N moves order dwell [] many moves' order [] many')
        ).firsts n p a.first;
    output_left = a.output_left;
  }

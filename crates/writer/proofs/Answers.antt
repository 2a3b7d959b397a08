-- The answer of writing, put together, where the output is long enough: a job with a fault is refused with another
-- number than 9, and the output is zeroed; a job without one is put at the front of the output, with zeros behind
-- it, and has room there (form's `written_fits`). Assumes nothing.
--     job_refused       one of the listed checks
--     job_written       the text
use mathlib.Core.Path.{◌≡◌, sym, ◌∙◌}
use mathlib.Core.List.{List}
use Prim.Native.Nat.{ℕ, ◌≤◌, ◌<◌}
use native.Mathlib.Omega.{arith}
use lib.ListN.{length}
use Rattle.std.proofs.Common.{Result, Ok, Err}
use Rattle.hall.specs.declared.Refusal.{Refusal}
use Rattle.hall.specs.Limits.{text_room}
use Rattle.hall.specs.Job.{Numbers}
use Rattle.hall.specs.Said.{accepted, said_refusal, Judged}
use Rattle.hall.specs.Questions.{checks_question}
use Rattle.hall.specs.Left.{filled, zeroed}
use Rattle.hall.proofs.Compose.{refused_first, sound_none}
use Rattle.hall.proofs.Places.{asked_later, asked_clear}
use Rattle.hall.proofs.Left.{left_zeroed}
use Rattle.put.specs.declared.Out.{Out}
use Rattle.put.specs.Putting.{Puts, ZerosRest}
use Rattle.put.proofs.Putting.{puts_closed}
use Rattle.form.specs.Jobs.{text_of}
use Rattle.form.proofs.WholeJobs.{written_fits}
use Rattle.writer.specs.Writing.{Writing}

module _ (j : Numbers) (out : List ℕ) where
  module _ (room : text_room ≤ length out) (c : Result Unit Refusal) (judged : Judged (checks_question j) c) where
    long : ¬ (length out < text_room)
    long h = omega arith

    pub job_refused : {r : Refusal} {out' : List ℕ} → c ≡ Err r →
        out' ≡ zeroed text_room out → Writing j out out' (said_refusal r)
    job_refused told zeros =
        let first = refused_first (checks_question j) told judged in
        record {
          first = asked_later long first;
          output_left = zeros ∙ sym (left_zeroed (omega arith) first text_room out);
        }

    pub job_written : {out₂ : List ℕ} {o p q : Out} → c ≡ Ok tt → o.at ≡ 0 → o.bytes.now ≡ out →
        Puts o (text_of j) p → ZerosRest p text_room q → out₂ ≡ q.bytes.now → Writing j out out₂ (accepted q.at)
    unfolding filled
    job_written told front lent puts rest kept =
        let none = sound_none (checks_question j) told judged in
        let closed = puts_closed (text_of j) text_room front (written_fits j none) (rw lent room) puts rest in
        record {
          no_fault = asked_clear long none;
          output_left = kept ∙ (rw lent at closed.0);
          is_size = closed.1;
        }

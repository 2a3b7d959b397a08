-- What is answered of the job that is handed on is answered of the loaded job, which it is.
use Rattle.std.proofs.Common.{subst}
use Rattle.hall.specs.Job.{Numbers}
use Rattle.recorded.specs.Asking.{ListGiven}
use Rattle.recorded.proofs.judge_loaded.Goals as goal

pub returns : goal.returns
returns c =
    subst (λ (j : Numbers). ListGiven j c.args.carrier.0 c.args.list.now c.judge_for.result)
    c.loaded_part.ensures c.judge_for.ensures.judged

-- What is answered of the job that is handed on is answered of the loaded job, which it is.
use Rattle.std.proofs.Common.{subst}
use Rattle.hall.specs.Job.{Numbers}
use Rattle.recorded.specs.Asking.{HouseGiven}
use Rattle.recorded.proofs.house_loaded.Goals as goal

pub returns : goal.returns
returns c =
    subst (λ (j : Numbers). HouseGiven j c.args.carrier.0 c.args.path.now c.house_for.new.path c.house_for.result)
    c.loaded_part.ensures c.house_for.ensures.given

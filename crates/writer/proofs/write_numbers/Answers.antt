-- A short output is refused before anything else and stays as it came; a fault of the job zeroes it; a job
-- without one is put at its front, and zeros behind.
use Rattle.std.proofs.Common.{rules, refl, arith}
use Rattle.hall.specs.Job.{job_in}
use Rattle.writer.proofs.Answers.{job_refused, job_written}
use Rattle.writer.proofs.write_numbers.Goals as goal

pub returns-in-Err : goal.returns-in-Err
returns-in-Err c =
    job_refused (job_in c.args.job.now) c.args.out.now (omega arith) _ c.check_job.ensures c.in-Err.is
    c.fill_first.ensures

pub returns : goal.returns
returns c =
    job_written (job_in c.args.job.now) c.args.out.now (omega arith) _ c.check_job.ensures c.in_default.is
    refl refl c.put_job.ensures c.zero_rest.ensures (search rules)

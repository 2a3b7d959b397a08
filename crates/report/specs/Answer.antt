-- What the plan program answers to a text (rules 10.1 to 10.6). No reader stands here: when a text is refused
-- with which number at which line, when it is the written form of a job, and which line a carrier has in it
-- is said in crate form, of written lines alone.
--     JobAnswer     the text for a job without a fault of its listed checks: where the first fault is 8, the
--                   refusal with the carrier's line; where there is no fault, the plan
--     AnswerText    the text for a job text: the refusal of its first faulty line, or the text for the job
--                   that it is the written form of
--     Answering     a text of a kind is printed, for every input: it stands in front of the bytes with zeros
--                   behind it up to 2,048, and into fewer than 2,048 bytes nothing is printed
use Rattle.std.specs.Prelude.{◌≡◌, List, ℕ, ◌≤◌, ◌<◌, length}
use Rattle.hall.specs.Job.{Numbers, carriers}
use Rattle.hall.specs.Stages.{First, None}
use Rattle.hall.specs.Questions.{job_question}
use Rattle.hall.specs.Plan.{Plan}
use Rattle.hall.specs.Ticks.{Tables, own}
use Rattle.form.specs.Texts.{Refused}
use Rattle.form.specs.JobText.{job_text}
use Rattle.form.specs.Jobs.{WrittenJob, line_of}
use Rattle.report.specs.Printed.{print_room, plan_text, refused_text}
use Rattle.report.specs.Printing.{Prints, BytesUntouched}

pub data JobAnswer (j : Numbers) (printed : List ℕ) : Type 0 where
  unreached : {i : ℕ}
      → First (job_question j) 8 i
      → printed ≡ refused_text 8 (line_of j i)
      → JobAnswer j printed
  planned : {tables : Tables} {tick : ℕ → ℕ} {cost : ℕ}
      → None (job_question j)
      → Plan j tables tick cost
      → printed ≡ plan_text (carriers j) tick (own tables) cost
      → JobAnswer j printed

pub data AnswerText (text printed : List ℕ) : Type 0 where
  refused : {number line : ℕ}
      → Refused job_text text number line
      → printed ≡ refused_text number line
      → AnswerText text printed
  accepted : {j : Numbers} → WrittenJob text j → JobAnswer j printed → AnswerText text printed

pub data Answering (Text : List ℕ → Type 0) (out out' : List ℕ) (r : ℕ) : Type 0 where
  whole : {printed : List ℕ}
      → print_room ≤ length out
      → Text printed
      → Prints printed out out' r
      → Answering Text out out' r
  nothing : length out < print_room → BytesUntouched out out' r → Answering Text out out' r

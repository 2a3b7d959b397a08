-- What writing a job as its text promises, for every job and every output (rules 7.15, 8.30 and 9.14). The
-- text of a job is `text_of` of crate form, of which reading speaks too: no other form stands here. An output
-- with ' is as the function leaves it; the lists of the job are lent by `&`, and so are kept by the language
-- (rule 9.3).
--     said_written     what an answer of writing says: how many bytes the text has, or a refusal's listed
--                     number with its place
--     JobWritten      the output is long enough and the job has no fault of its listed checks; its text
--                     stands in front of the output, zeros behind it up to 47,142, and beyond is what came;
--                     the answer is how many bytes the text has
--     NotWritten      the refusal is the first fault: 9 leaves the output as it came, any other number zeroes
--                     its 47,142 bytes
--     Writing         the promise: what is left with what is said
use Rattle.std.specs.Prelude.{◌≡◌, List, ℕ, ◌<◌, Result, length}
use Rattle.hall.specs.declared.Refusal.{Refusal}
use Rattle.hall.specs.Limits.{text_room}
use Rattle.hall.specs.Job.{Numbers}
use Rattle.hall.specs.Stages.{First, None}
use Rattle.hall.specs.Said.{Said, accepted, refused, said}
use Rattle.hall.specs.Questions.{writing}
use Rattle.hall.specs.Left.{filled, left}
use Rattle.form.specs.Jobs.{text_of}

abbrev pub said_written : Result ℕ Refusal → Said ℕ
said_written = said (λ size. size)

module _ (j : Numbers) (out out' : List ℕ) where
  pub record JobWritten (size : ℕ) : Type 0 where
    pub no_fault : None (writing (length out < text_room) j)
    pub output_left : out' ≡ filled (text_of j) text_room out
    pub is_size : size ≡ length (text_of j)

  pub record NotWritten (number place : ℕ) : Type 0 where
    pub first : First (writing (length out < text_room) j) number place
    pub output_left : out' ≡ left number text_room out

  abbrev pub Writing : Said ℕ → Type 0
  Writing (accepted size) = JobWritten size
  Writing (refused number place) = NotWritten number place

-- The text of a job (rules 7.1, 7.10, 7.13, 7.15, 7.17, 7.18 and 8.21).
--     pairs          a list as entries of two numbers; an odd last number is no entry
--     singles        a list as entries of one number
--     closed_contents what it says of closed nodes: nothing where there are none
--     dwell_contents  what it says of the dwell: nothing where it is 0
--     contents_of     what the text of a job says, section by section
--     text_of         the text of a job: the written form of what it says. Reading and writing both speak of
--                    it
--     job_in          the job that contents say
--     whole_job       a job without an odd last number of its moves, which is in no move (rule 1.7);
--                    `whole_moves` its moves. Its text is that of the job
--     WrittenJob     the text is the written form of the job, which has no fault of its listed checks. A
--                    line of a move holds a start and a goal, so the numbers of its moves go by twos
--                    (`paired`); from numbers an odd last number is in no move (rule 1.7), and no check asks
--                    for this
--     ReadsJob       what a job text says: accepted, with the job; or refused, with the number and the line
--     lines_above     how many lines stand above the section with a word
--     closed_lines    how many lines the closed nodes' section has: none where nothing is closed
--     line_of         the line of a carrier: its section's count stands in the line behind those above, and
--                    its entry so many lines further down as its number plus 1
use Rattle.std.specs.Prelude.{◌≡◌, cond, List, [], ◌∷◌, ◌++◌, ℕ, zero, suc, ◌+◌, ◌*◌, length, take}
use Rattle.hall.specs.Floor.{lanes_in, network_of}
use Rattle.hall.specs.Job.{Numbers, job_of, move_count}
use Rattle.hall.specs.Job as job
use Rattle.hall.specs.Stages.{None}
use Rattle.hall.specs.Said.{Said, accepted, refused}
use Rattle.hall.specs.Questions.{checks_question}
use Rattle.form.specs.Sections.{Content, content, same_words, count_of, numbers_of}
use Rattle.form.specs.Words.{NODES, LANES, CLOSED, CARRIERS, ORDER, DWELL}
use Rattle.form.specs.Contents.{written}
use Rattle.form.specs.Texts.{Refused}
use Rattle.form.specs.JobText.{job_text}

unfoldable pub pairs : List ℕ → List (List ℕ)
pairs [] = []
pairs (a ∷ []) = []
pairs (a ∷ b ∷ l) = (a ∷ b ∷ []) ∷ pairs l

unfoldable pub singles : List ℕ → List (List ℕ)
singles [] = []
singles (a ∷ l) = (a ∷ []) ∷ singles l

abbrev pub closed_contents : List ℕ → List Content
closed_contents [] = []
closed_contents (v ∷ l) = content CLOSED (length (v ∷ l)) (singles (v ∷ l)) ∷ []

abbrev pub dwell_contents : ℕ → List Content
dwell_contents zero = []
dwell_contents (suc w) = content DWELL (suc w) [] ∷ []

abbrev pub contents_of : Numbers → List Content
contents_of j =
    content NODES j.network.nodes []
    ∷ content LANES (lanes_in j.network.lanes) (pairs j.network.lanes)
    ∷ (closed_contents j.network.closed
    ++ (content CARRIERS (job.carriers j) (pairs j.moves)
    ∷ content ORDER (length j.order) (singles j.order)
    ∷ dwell_contents j.dwell))

abbrev pub text_of : Numbers → List ℕ
text_of j = written (contents_of j)

abbrev pub job_in : List Content → Numbers
job_in c =
    job_of (network_of (count_of NODES c) (numbers_of LANES c) (numbers_of CLOSED c))
    (numbers_of CARRIERS c)
    (numbers_of ORDER c)
    (count_of DWELL c)

abbrev pub whole_moves : List ℕ → List ℕ
whole_moves moves = take (2 * move_count moves) moves

abbrev pub whole_job : Numbers → Numbers
whole_job j = job_of j.network (whole_moves j.moves) j.order j.dwell

pub record WrittenJob (text : List ℕ) (j : Numbers) : Type 0 where
  pub writes : text ≡ text_of j
  pub sound : None (checks_question j)
  pub paired : length j.moves ≡ 2 * job.carriers j

abbrev pub ReadsJob : (text : List ℕ) → Said Numbers → Type 0
ReadsJob text (accepted j) = WrittenJob text j
ReadsJob text (refused number line) = Refused job_text text number line

-- ---- line numbers

unfoldable pub lines_above : (word : List ℕ) → List Content → ℕ
lines_above w [] = 0
lines_above w (c ∷ cs) = cond (same_words w c.word) 0 (1 + length c.entries + lines_above w cs)

abbrev pub closed_lines : List ℕ → ℕ
closed_lines [] = 0
closed_lines (v ∷ l) = suc (length (v ∷ l))

abbrev pub line_of : Numbers → (carrier : ℕ) → ℕ
line_of j i = lines_above CARRIERS (contents_of j) + 1 + (i + 1)

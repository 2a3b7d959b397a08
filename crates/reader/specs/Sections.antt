-- What the step of a section answers, for each of the six sections (rules 7.1, 7.8 to 7.13, 7.17 and 7.18). A
-- step says what it does behind any sections read, with its own section the first of those left; so a section
-- more changes no other step.
--     in_form         the section of the form that is read
--     room_of         the least length of its table; 0 where it has no entries
--     terms_in        its terms, by the carriers so far: the least length of its table, the least and the
--                    greatest count that fit, and whether it may be missing
--     with_count      the counts with that of a section put in; the order's is the carriers'
--     Skips          of the sections `more`, `left` are left once those before them are passed over: each of
--                    these may be missing, and no line of its count stands at the front of `rest`
--     Stood          the form leads to where the cursor stands, behind the sections read, all of them whole,
--                    with these sections left, some that are missing passed over
--     Ready          a step may be taken: its section is the next one, what it asks for is read, and the
--                    closed nodes so far are in their table
--     SectionRead    a section was read: its count and its entries follow the form, the counts have its
--                    count, and the table is filled with its numbers
--     SectionMissing a section that may be missing is: no line of its count stands here, nothing changes, and
--                    the table has zeros
--     SectionStep    what a step answers: its section read or missing, or the text refused. Places from the
--                    least length on are as they were, whatever it answers
--     EndStep        what the last step answers: the text is accepted with the sections read, or refused
-- `terms`, `counting`, `SectionAnswer` and `EndAnswer` are parts of these.
use Rattle.std.specs.Prelude.{◌≡◌, ◌⊎◌, List, [], ◌∷◌, Bool, true, false, ℕ, ◌≤◌, length, take, drop}
use Rattle.std.specs.Prelude.{Result, Ok, Err}
use Rattle.hall.specs.declared.Refusal.{Refusal}
use Rattle.hall.specs.declared.Job.{Job}
use Rattle.hall.specs.Limits.{node_limit, lane_limit, carrier_limit, dwell_limit, lane_numbers, move_numbers}
use Rattle.hall.specs.Left.{zeroed, filled}
use Rattle.form.specs.Lines.{Counted}
use Rattle.form.specs.Sections.{Section, Form, Content, CountFits, due, numbers_in}
use Rattle.form.specs.Stands.{Stand, contents, behind, Whole}
use Rattle.form.specs.Texts.{WrittenForm}
use Rattle.form.specs.JobText.{nodes_section, dwell_section, job_text}
use Rattle.form.specs.Reached.{Reached, Collected}
use Rattle.cursor.specs.declared.Cursor.{Cursor}
use Rattle.network.specs.declared.entries.Entries.TheVariants.{Lanes, Closed, Moves, Places}
use Rattle.reader.specs.declared.sections.Sections.{Sections}
use Rattle.reader.specs.declared.sections.Sections.TheVariants.{Nodes, Dwell, Listed}
use Rattle.reader.specs.declared.sections.Terms.{Terms}
use Rattle.reader.specs.Entries.{RefusedBy, Asks, section_of}

-- ---- the sections

abbrev pub in_form : Sections → Section
in_form Nodes = nodes_section
in_form (Listed entries) = section_of entries
in_form Dwell = dwell_section

abbrev pub room_of : Sections → ℕ
room_of Nodes = 0
room_of (Listed Lanes) = lane_numbers
room_of (Listed Closed) = node_limit
room_of (Listed Moves) = move_numbers
room_of (Listed Places) = carrier_limit
room_of Dwell = 0

abbrev pub terms : (room least greatest : ℕ) → Bool → Terms
terms room least greatest optional =
    record { room = room; least = least; greatest = greatest; optional = optional }

abbrev pub terms_in : Sections → (carriers : ℕ) → Terms
terms_in Nodes k = terms 0 1 node_limit false
terms_in (Listed Lanes) k = terms lane_numbers 0 lane_limit false
terms_in (Listed Closed) k = terms node_limit 1 node_limit true
terms_in (Listed Moves) k = terms move_numbers 0 carrier_limit false
terms_in (Listed Places) k = terms carrier_limit k k false
terms_in Dwell k = terms 0 1 dwell_limit true

abbrev pub counting : (nodes lanes closed carriers dwell : ℕ) → Job
counting n m c k w = record { nodes = n; lanes = m; closed = c; carriers = k; dwell = w }

abbrev pub with_count : Sections → (count : ℕ) → Job → Job
with_count Nodes n job = counting n job.lanes job.closed job.carriers job.dwell
with_count (Listed Lanes) n job = counting job.nodes n job.closed job.carriers job.dwell
with_count (Listed Closed) n job = counting job.nodes job.lanes n job.carriers job.dwell
with_count (Listed Moves) n job = counting job.nodes job.lanes job.closed n job.dwell
with_count (Listed Places) n job = job
with_count Dwell n job = counting job.nodes job.lanes job.closed job.carriers n

-- ---- a step

pub data Skips (rest : List ℕ) : (more left : Form) → Type 0 where
  all_left : (left : Form) → Skips rest left left
  skip : (s : Section) (more left : Form) → s.optional ≡ true → ¬ Counted s.word rest
      → Skips rest more left
      → Skips rest (s ∷ more) left

pub record Stood (text : List ℕ) (read : List Content) (left : Form) (here : Cursor) : Type 0 where
  pub stand : Stand
  pub reached : Reached job_text text stand (drop here.at text) here.line
  pub whole : Whole stand
  pub is_read : contents stand ≡ read
  pub is_left : Skips (drop here.at text) (behind job_text stand) left

pub record Ready (text closed : List ℕ) (which : Sections) (job : Job) (here : Cursor) : Type 0 where
  pub read : List Content
  pub left : Form
  pub asks : Asks (in_form which).entry job (take job.closed closed) read
  pub few_closed : job.closed ≤ length closed
  pub stood : Stood text read (in_form which ∷ left) here

pub record SectionRead (text : List ℕ) (read : List Content) (which : Sections) (left : Form) (job job' : Job)
    (next : Cursor) (before after : List ℕ) : Type 0 where
  pub count : ℕ
  pub fits : CountFits (in_form which).limits read count
  pub collected : Collected job_text text read (in_form which) count left (due (in_form which) count) after
      (drop next.at text) next.line
  pub counts : job' ≡ with_count which count job
  pub fills : after ≡ filled (numbers_in collected.es) (room_of which) before

pub record SectionMissing (text : List ℕ) (which : Sections) (job job' : Job) (here next : Cursor)
    (before after : List ℕ) : Type 0 where
  pub may : (in_form which).optional ≡ true
  pub none : ¬ Counted (in_form which).word (drop here.at text)
  pub same_counts : job' ≡ job
  pub same_place : next ≡ here
  pub zeroes : after ≡ zeroed (room_of which) before

abbrev pub SectionAnswer : (text : List ℕ) (which : Sections) (before after : List ℕ) (read : List Content)
    (left : Form) (job : Job) (here : Cursor) → Result (Job × Cursor) Refusal → Type 0
SectionAnswer text which before after read left job here (Ok (job', next)) =
    SectionRead text read which left job job' next before after
    ⊎ SectionMissing text which job job' here next before after
SectionAnswer text which before after read left job here (Err r) = RefusedBy text r

pub record SectionStep (text closed : List ℕ) (which : Sections) (job : Job) (here : Cursor)
    (before after : List ℕ) (r : Result (Job × Cursor) Refusal) : Type 0 where
  pub takes : (read : List Content) (left : Form)
      → Asks (in_form which).entry job (take job.closed closed) read
      → Stood text read (in_form which ∷ left) here
      → SectionAnswer text which before after read left job here r
  pub beyond : drop (room_of which) after ≡ drop (room_of which) before

-- ---- the end

abbrev pub EndAnswer : (text : List ℕ) (read : List Content) (job : Job) → Result Job Refusal → Type 0
EndAnswer text read job (Ok j) = (j ≡ job) × WrittenForm job_text text read
EndAnswer text read job (Err r) = RefusedBy text r

abbrev pub EndStep : (text : List ℕ) (job : Job) (here : Cursor) → Result Job Refusal → Type 0
EndStep text job here r = (read : List Content) → Stood text read [] here → EndAnswer text read job r

-- What the lines of a section's entries answer (rules 7.8 to 7.12). The contracts say it of whatever was read
-- before: for any sections read and left with which the form leads to where the cursor stands.
--     RefusedBy      a refusal is the one that the form gives the text, by its number and its line
--     Asks           what the checks of an entry ask of the sections read stands in the counts so far, and,
--                    of a move, in the closed nodes
--     section_of      the section whose entries are read
--     EntryStored    the line of entry k was taken and its numbers stand in the table behind those before; or
--                    there is no such line. Further places of the table are as they were, here and below
--     Begun          the form leads to the first line of the entries, and the table has room for them
--     EntriesRead    all entries were read and stand in the table; or the text is refused
-- `Stored`, `StoredAnswer` and `EntriesAnswer` are parts of these, by what is answered.
use Rattle.std.specs.Prelude.{◌≡◌, List, [], ◌++◌, ℕ, suc, ◌*◌, ◌≤◌, length, take, drop}
use Rattle.std.specs.Prelude.{Option, None, Some, Result, Ok, Err}
use Rattle.hall.specs.declared.Job.{Job}
use Rattle.hall.specs.declared.Refusal.{Refusal}
use Rattle.hall.specs.Limits.{carrier_limit}
use Rattle.hall.specs.Numbers.{number_of}
use Rattle.form.specs.Lines.{Entered}
use Rattle.form.specs.Sections.{Entry, none, lane, closed_node, move, place}
use Rattle.form.specs.Sections.{Section, Form, Content, count_of, numbers_of, due}
use Rattle.form.specs.Words.{NODES, CLOSED, CARRIERS}
use Rattle.form.specs.Stands.{within}
use Rattle.form.specs.Texts.{Refused}
use Rattle.form.specs.JobText.{lanes_section, closed_section, carriers_section, order_section, job_text}
use Rattle.form.specs.Reached.{Reached, Collected}
use Rattle.cursor.specs.declared.Cursor.{Cursor}
use Rattle.cursor.specs.Steps.{Behind}
use Rattle.network.specs.declared.entries.Entries.{Entries}
use Rattle.network.specs.declared.entries.Entries.TheVariants.{Lanes, Closed, Moves, Places}

abbrev pub RefusedBy : (text : List ℕ) → Refusal → Type 0
RefusedBy text r = Refused job_text text (number_of r.fault) r.place

-- the order's count is compared with the carriers', which is within its limit
abbrev pub Asks : Entry → Job → (closed : List ℕ) (read : List Content) → Type 0
Asks none job closed read = Unit
Asks lane job closed read = job.nodes ≡ count_of NODES read
Asks closed_node job closed read = job.nodes ≡ count_of NODES read
Asks move job closed read = (job.nodes ≡ count_of NODES read) × (closed ≡ numbers_of CLOSED read)
Asks place job closed read = (job.carriers ≡ count_of CARRIERS read) × (job.carriers ≤ carrier_limit)

abbrev pub section_of : Entries → Section
section_of Lanes = lanes_section
section_of Closed = closed_section
section_of Moves = carriers_section
section_of Places = order_section

-- ---- one line

pub record Stored (text : List ℕ) (size k : ℕ) (here next : Cursor) (before after : List ℕ) : Type 0 where
  pub entered : Entered size (drop here.at text)
  pub behind : Behind text here next entered.rest
  pub stores : take (size * suc k) after ≡ take (size * k) before ++ entered.e

abbrev pub StoredAnswer : (text : List ℕ) (size k : ℕ) (here : Cursor) (before after : List ℕ) → Option Cursor
    → Type 0
StoredAnswer text size k here before after (Some next) = Stored text size k here next before after
StoredAnswer text size k here before after None = ¬ Entered size (drop here.at text)

pub record EntryStored (text : List ℕ) (size k : ℕ) (here : Cursor) (before after : List ℕ) (r : Option Cursor)
    : Type 0 where
  pub answer : StoredAnswer text size k here before after r
  pub kept : drop (size * suc k) after ≡ drop (size * suc k) before

-- ---- all lines of a section

pub record Begun (text : List ℕ) (which : Entries) (job : Job) (closed : List ℕ) (count : ℕ) (from : Cursor)
    (table : List ℕ) : Type 0 where
  pub read : List Content
  pub left : Form
  pub asks : Asks (section_of which).entry job closed read
  pub reached : Reached job_text text (within read (section_of which) count [] left) (drop from.at text)
      from.line
  pub room : (section_of which).size * count ≤ length table

abbrev pub EntriesAnswer : (text : List ℕ) (read : List Content) (s : Section) (count : ℕ) (left : Form)
    (table : List ℕ) → Result Cursor Refusal → Type 0
EntriesAnswer text read s count left table (Ok next) =
    Collected job_text text read s count left (due s count) table (drop next.at text) next.line
EntriesAnswer text read s count left table (Err r) = RefusedBy text r

pub record EntriesRead (text : List ℕ) (which : Entries) (job : Job) (closed : List ℕ) (count : ℕ)
    (from : Cursor) (before after : List ℕ) (r : Result Cursor Refusal) : Type 0 where
  pub reads : (read : List Content) (left : Form)
      → Asks (section_of which).entry job closed read
      → Reached job_text text (within read (section_of which) count [] left) (drop from.at text) from.line
      → EntriesAnswer text read (section_of which) count left after r
  pub kept : drop ((section_of which).size * count) after ≡ drop ((section_of which).size * count) before

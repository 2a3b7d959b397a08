-- A section as one step: each answer is one law of the form, of the line of its count (CountLines.antt), of
-- sections that are passed over (Skipped.antt) or of the lines of its entries (EntryLines.antt). What differs
-- between the sections is in SectionKinds.antt. Assumes nothing.
--     Asked             the terms, the zeros in the table, and the answer to the line of the count
--     step_missing      no line of its count stands, and it may be missing
--     step_lacks        no line of its count stands, and it must: refused with 1
--     step_unfit        its count is too small or too great: refused with 2
--     step_counted      its count fits, and is all
--     entries_ready, step_stops, step_entries    its count fits, and its entries may be read, and one is refused,
--                       or they were
use mathlib.Core.Path.{◌≡◌, refl, sym, ◌∙◌, ap, subst}
use mathlib.Core.Logic.{◌↔◌, ◌⊎◌, inl, inr}
use mathlib.Core.List.{List, [], ◌∷◌}
use mathlib.Core.Bool.{true, false}
use Prim.Native.Nat.{ℕ, ◌*◌, ◌≤◌, ◌<◌}
use native.Mathlib.Omega.{arith}
use lib.ListN.{length, take, drop}
use Rattle.std.specs.Prelude.{Option, None, Some, Result, Ok, Err}
use Rattle.hall.specs.declared.Refusal.{Refusal}
use Rattle.hall.specs.declared.Fault.TheVariants.{Malformed, BadCount}
use Rattle.hall.specs.declared.Job.{Job}
use Rattle.hall.specs.Left.{zeroed}
use Rattle.hall.proofs.Left.{zeroed_length}
use Rattle.form.specs.Lines.{Counted}
use Rattle.form.specs.Sections.{Section, Form, Content, CountFits, due, numbers_in}
use Rattle.form.specs.Stands.{within}
use Rattle.form.specs.JobText.{job_text}
use Rattle.form.specs.Reached.{Reached, Collected}
use Rattle.form.proofs.Tables.{collected_start}
use Rattle.cursor.specs.declared.Cursor.{Cursor}
use Rattle.cursor.specs.Steps.{CountTaken, Counting}
use Rattle.network.specs.declared.entries.Entries.{Entries}
use Rattle.reader.specs.declared.sections.Sections.{Sections}
use Rattle.reader.specs.declared.sections.Sections.TheVariants.{Listed}
use Rattle.reader.specs.declared.sections.Terms.{Terms}
use Rattle.reader.specs.Entries.{Asks, section_of, Begun, EntriesRead}
use Rattle.reader.specs.Sections.{in_form, room_of, terms_in, with_count, Stood}
use Rattle.reader.specs.Sections.{Ready, SectionRead, SectionStep}
use Rattle.reader.proofs.Left.{beyond_zeroed, laid_filled}
use Rattle.reader.proofs.Skipped.{skipped_lacking}
use Rattle.reader.proofs.SectionKinds.{capitals, limited, form_terms, room_for, asks_still}
use Rattle.reader.proofs.SectionKinds.{no_entries}
use Rattle.reader.proofs.EntryKinds.{due_is}
use Rattle.reader.proofs.EntryLines.{drop_further}
use Rattle.reader.proofs.CountLines.{count_leads, count_unfit, fits_most}

-- ---- a section, by its terms, once its table is zero and the line of its count was asked for

pub record Asked (text : List ℕ) (which : Sections) (job : Job) (here : Cursor) (before table : List ℕ)
    (terms : Terms) (word : List ℕ) (a : Option (ℕ × Cursor)) : Type 0 where
  pub is_terms : terms ≡ terms_in which job.carriers
  pub zeros : table ≡ zeroed terms.room before
  pub long : room_of which ≤ length before
  pub is_word : word ≡ (in_form which).word
  pub line : Counting text word here a

module _ (text closed : List ℕ) (which : Sections) (job : Job) (here : Cursor) (before table : List ℕ)
    (terms : Terms) (word : List ℕ) (a : Option (ℕ × Cursor))
    (asked : Asked text which job here before table terms word a) where
  abbrev shut : List ℕ
  shut = take job.closed closed

  at_word : Counting text (in_form which).word here a
  at_word = subst (λ (w : List ℕ). Counting text w here a) asked.is_word asked.line

  optional_here : (in_form which).optional ≡ terms.optional
  optional_here = sym (ap (λ (t : Terms). t.optional) asked.is_terms ∙ (form_terms which job.carriers).1)

  fits_here : (read : List Content) → Asks (in_form which).entry job shut read → (n : ℕ)
      → ((terms.least ≤ n) × (n ≤ terms.greatest)) ↔ CountFits (in_form which).limits read n
  fits_here read asks n = rw asked.is_terms (limited which job shut read asks n)

  zeros_here : table ≡ zeroed (room_of which) before
  zeros_here = rw (ap (λ (t : Terms). t.room) asked.is_terms ∙ (form_terms which job.carriers).0) at asked.zeros

  beyond_here : drop (room_of which) table ≡ drop (room_of which) before
  beyond_here = rw zeros_here (beyond_zeroed (room_of which) before asked.long)

  -- no line of its count stands
  module _ (bad : a ≡ None) where
    none_here : ¬ Counted (in_form which).word (drop here.at text)
    none_here = (rw bad at at_word) (capitals which)

    pub step_missing : terms.optional ≡ true
        → SectionStep text closed which job here before table (Ok (job, here))
    step_missing may = record {
      takes = λ read left asks x. inr (record {
        may = optional_here ∙ may;
        none = none_here;
        same_counts = refl;
        same_place = refl;
        zeroes = zeros_here;
      });
      beyond = beyond_here;
    }

    pub step_lacks : terms.optional ≡ false
        → (r : Refusal) → r ≡ record { fault = Malformed; place = here.line }
        → SectionStep text closed which job here before table (Err r)
    step_lacks must r e = rw e (record {
      takes = λ read left asks x.
          skipped_lacking job_text text x.reached x.whole (in_form which) left x.is_left
          (optional_here ∙ must) none_here;
      beyond = beyond_here;
    })

  -- its count was read
  module _ (n : ℕ) (next : Cursor) (got : a ≡ Some (n, next)) where
    taken : CountTaken text (in_form which).word here n next
    taken = rw got at at_word

    outside : (n < terms.least) ⊎ (terms.greatest < n) → ¬ ((terms.least ≤ n) × (n ≤ terms.greatest))
    outside (inl h) f = omega (arith, f.0)
    outside (inr h) f = omega (arith, f.1)

    pub step_unfit : (r : Refusal) → r ≡ record { fault = BadCount; place = here.line }
        → (n < terms.least) ⊎ (terms.greatest < n)
        → SectionStep text closed which job here before table (Err r)
    step_unfit r e unfit = rw e (record {
      takes = λ read left asks x.
          count_unfit text here read (in_form which) left x n next taken
          (λ f. outside unfit ((fits_here read asks n).1 f));
      beyond = beyond_here;
    })

    -- it fits, and is put in
    module _ (low : terms.least ≤ n) (high : n ≤ terms.greatest)
        (job' : Job) (is_job : job' ≡ with_count which n job) where
      begins : (read : List Content) (left : Form) → Asks (in_form which).entry job shut read
          → Stood text read (in_form which ∷ left) here
          → Reached job_text text (within read (in_form which) n [] left) (drop next.at text) next.line
      begins read left asks x =
          count_leads text here read (in_form which) left x n next taken
          ((fits_here read asks n).0 (low, high))

      has_room : (read : List Content) → Asks (in_form which).entry job shut read
          → (in_form which).size * due (in_form which) n ≤ room_of which
      has_room read asks =
          room_for which n
          (fits_most (in_form which).limits read n ((fits_here read asks n).0 (low, high)))

      -- so many entries stand in the table
      section_read : (read : List Content) (left : Form) → Asks (in_form which).entry job shut read
          → (after : List ℕ) → length after ≡ length table
          → drop ((in_form which).size * due (in_form which) n) after
          ≡ drop ((in_form which).size * due (in_form which) n) table
          → (to : Cursor)
          → Collected job_text text read (in_form which) n left (due (in_form which) n) after
          (drop to.at text) to.line
          → SectionRead text read which left job job' to before after
      section_read read left asks after same kept to x =
          let many = (in_form which).size * due (in_form which) n in
          let size : length table ≡ length before =
          ap length zeros_here ∙ zeroed_length (room_of which) before in
          let few = has_room read asks in
          record {
            count = n;
            fits = (fits_here read asks n).0 (low, high);
            collected = x;
            counts = is_job;
            fills = laid_filled (room_of which) before asked.long many (numbers_in x.es) after few (omega arith)
                x.stored (kept ∙ ap (drop many) zeros_here);
          }

      pub step_counted : ((e : Entries) → ¬ (which ≡ Listed e))
          → SectionStep text closed which job here before table (Ok (job', next))
      step_counted alone = record {
        takes = λ read left asks x. inl (section_read read left asks table refl refl next
            (rw (no_entries which alone n) (collected_start job_text text read (in_form which) n left table
            (begins read left asks x))));
        beyond = beyond_here;
      }

      -- its entries are read
      module _ (e : Entries) (listed : which ≡ Listed e) (ready : Ready text closed which job here) where
        section_is : in_form which ≡ section_of e
        section_is = ap in_form listed

        still : (read : List Content) → Asks (in_form which).entry job shut read
            → Asks (section_of e).entry job' shut read
        still read asks =
            subst (λ (s : Section). Asks s.entry job' shut read) section_is
            (rw is_job (asks_still which n job shut read asks))

        leads : (read : List Content) (left : Form) → Asks (in_form which).entry job shut read
            → Stood text read (in_form which ∷ left) here
            → Reached job_text text (within read (section_of e) n [] left) (drop next.at text) next.line
        leads read left asks x =
            subst
            (λ (s : Section).
            Reached job_text text (within read s n [] left) (drop next.at text) next.line)
            section_is (begins read left asks x)

        due_here : (s : Section) → s ≡ section_of e → s.size * due s n ≡ (section_of e).size * n
        due_here s same =
            ap (λ (o : Section). o.size * due o n) same
            ∙ ap (λ (k : ℕ). (section_of e).size * k) (due_is e n)

        few : (section_of e).size * n ≤ room_of which
        few = rw (due_here (in_form which) section_is) at (has_room ready.read ready.asks)

        pub entries_ready : length table ≡ length before → Begun text e job' shut n next table
        entries_ready same =
            record {
              read = ready.read;
              left = ready.left;
              asks = still ready.read ready.asks;
              reached = leads ready.read ready.left ready.asks ready.stood;
              room = omega (arith, few);
            }

        -- a line of an entry is refused, or all of them were read
        module _ (after : List ℕ) where
          beyond_still : {r : Result Cursor Refusal} → EntriesRead text e job' shut n next table after r
              → drop (room_of which) after ≡ drop (room_of which) before
          beyond_still x =
              drop_further ((section_of e).size * n) (room_of which) after table few x.kept ∙ beyond_here

          pub step_stops : (q : Refusal) → EntriesRead text e job' shut n next table after (Err q)
              → SectionStep text closed which job here before after (Err q)
          step_stops q x = record {
            takes = λ read left asks stood. x.reads read left (still read asks) (leads read left asks stood);
            beyond = beyond_still x;
          }

          pub step_entries : length after ≡ length table → (to : Cursor)
              → EntriesRead text e job' shut n next table after (Ok to)
              → SectionStep text closed which job here before after (Ok (job', to))
          step_entries same to x = record {
            takes = λ read left asks stood.
                inl (section_read read left asks after same
                (rw (due_here (in_form which) section_is) x.kept)
                to
                (subst
                (λ (s : Section).
                Collected job_text text read s n left (due s n) after (drop to.at text) to.line)
                (sym section_is) (x.reads read left (still read asks) (leads read left asks stood))));
            beyond = beyond_still x;
          }

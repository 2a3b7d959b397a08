-- The lines of a section's entries: what is read, stored and checked at one line is one step of the form (its
-- proofs/Tables.antt), and the loop over the lines is these steps one after the other. The loop's invariant
-- hands on what holds at its beginning, for whatever was read before; the line of the cursor follows from the
-- form alone. The measure is how many lines are left. Assumes nothing.
--     stored_one, stored_two, not_stored    an entry's line was taken and its numbers stored, or there is
--                         none
--     LinesRead           the invariant: k lines were read
--     lines_begin, lines_next, lines_end    how it begins, goes on and ends
--     lines_lack, lines_fail    a line has not the form of an entry, or fails a check
--     line_after          behind a line to which the form leads, the line is one more: it is below the limit
--                         up to which a cursor counts
use mathlib.Core.Path.{◌≡◌, refl, sym, ◌∙◌, ap}
use mathlib.Core.List.{List, [], ◌∷◌, ◌++◌}
use Prim.Native.Nat.{ℕ, suc, ◌+◌, ◌*◌, ◌-◌, ◌≤◌, ◌<◌, min}
use native.Mathlib.Numerals.{add-one}
use native.Mathlib.Omega.{arith}
use lib.ListN.{length, take, drop, set}
use lib.Seq.{drop-set-lt, drop-drop}
use Rattle.std.specs.Prelude.{None, Some, Result, Ok, Err}
use Rattle.hall.specs.declared.Fault.TheVariants.{Malformed}
use Rattle.hall.specs.declared.Job.{Job}
use Rattle.hall.specs.declared.Refusal.{Refusal}
use Rattle.hall.specs.Stages.{only_at}
use Rattle.hall.specs.Said.{Judged}
use Rattle.form.specs.Lines.{Entered}
use Rattle.form.specs.Sections.{Form, Content}
use Rattle.form.specs.Stands.{Stand, within}
use Rattle.form.specs.JobText.{job_text}
use Rattle.form.specs.Reached.{Reached, Collected}
use Rattle.form.proofs.Tables.{collected_start, collected_lacking, checked_entry, checked_refused}
use Rattle.form.proofs.Tables.{stores_one, stores_two}
use Rattle.form.proofs.Lengths.{reached_within}
use Rattle.form.proofs.JobTexts.{job_room_lem}
use Rattle.cursor.specs.declared.Cursor.{Cursor}
use Rattle.network.specs.declared.entries.Entries.{Entries}
use Rattle.cursor.specs.Steps.{line_limit, EntryTaken}
use Rattle.network.specs.Entries.{places_in, each_in}
use Rattle.reader.specs.Entries.{Asks, section_of, EntryStored, EntriesRead}
use Rattle.reader.proofs.EntryKinds.{due_is, steady, has_place, further_numbers, judged_by_form}

-- ---- the next line

pub line_after : {text rest : List ℕ} {st : Stand} {line next : ℕ} → Reached job_text text st rest line
    → next ≡ min (suc line) line_limit → next ≡ suc line
line_after r e = omega (arith, reached_within job_text r, job_room_lem)

-- ---- one line is taken and stored

module _ (text : List ℕ) (k : ℕ) (here : Cursor) (table : List ℕ) where
  pub stored_one : (a : ℕ) (next : Cursor) → EntryTaken text here (a ∷ []) next → k < length table
      → EntryStored text 1 k here table (set table k a) (Some next)
  stored_one a next x h = record {
    answer = record {
      entered = x.taken;
      behind = x.behind;
      stores = stores_one table k a h ∙ ap (λ (e : List ℕ). take (1 * k) table ++ e) (sym x.is_entry);
    };
    kept = drop-set-lt (1 * suc k) table k a (omega arith);
  }

  pub stored_two : (a b : ℕ) (next : Cursor) → EntryTaken text here (a ∷ b ∷ []) next
      → 2 * k + 1 < length table
      → EntryStored text 2 k here table (set (set table (2 * k) a) (2 * k + 1) b) (Some next)
  stored_two a b next x h = record {
    answer = record {
      entered = x.taken;
      behind = x.behind;
      stores = stores_two table k a b h ∙ ap (λ (e : List ℕ). take (2 * k) table ++ e) (sym x.is_entry);
    };
    kept = drop-set-lt (2 * suc k) (set table (2 * k) a) (2 * k + 1) b (omega arith)
        ∙ drop-set-lt (2 * suc k) table (2 * k) a (omega arith);
  }

  pub not_stored : (size : ℕ) → ¬ Entered size (drop here.at text)
      → EntryStored text size k here table table None
  not_stored size none = record { answer = none; kept = refl }

-- ---- all lines

pub drop_further : (m n : ℕ) (s t : List ℕ) → m ≤ n → drop m s ≡ drop m t → drop n s ≡ drop n t
drop_further m n s t h e =
    let split : m + (n - m) ≡ n = omega arith in
    rw (← split) (sym (drop-drop (n - m) m s) ∙ ap (drop (n - m)) e ∙ drop-drop (n - m) m t)

pub record LinesRead (text : List ℕ) (which : Entries) (job : Job) (closed : List ℕ) (count : ℕ)
    (from : Cursor) (before after : List ℕ) (here : Cursor) (k : ℕ) : Type 0 where
  -- k entries are in the table, and the cursor stands behind them with its line
  pub collected : (read : List Content) (left : Form)
      → Asks (section_of which).entry job closed read
      → Reached job_text text (within read (section_of which) count [] left) (drop from.at text) from.line
      → Collected job_text text read (section_of which) count left k after (drop here.at text) here.line
  -- places behind those of all the entries are as they were
  pub kept : drop ((section_of which).size * count) after ≡ drop ((section_of which).size * count) before
  pub few : k ≤ count
  pub size : length after ≡ length before

module _ (text : List ℕ) (which : Entries) (job : Job) (closed : List ℕ) (count : ℕ) (from : Cursor)
    (before : List ℕ) where
  pub lines_begin : LinesRead text which job closed count from before before from 0
  lines_begin = record {
    collected = λ read left asks r. collected_start job_text text read (section_of which) count left before r;
    kept = refl;
    few = omega arith;
    size = refl;
  }

  module _ (after : List ℕ) (here : Cursor) (k : ℕ)
      (l : LinesRead text which job closed count from before after here k) where
    pub room_here : k < count → (section_of which).size * count ≤ length before
        → (section_of which).size * suc k ≤ length after
    room_here h room = omega (arith, further_numbers which (suc k) count h, l.size)

    pub lines_end : count ≤ k
        → EntriesRead text which job closed count from before after (Ok here)
    lines_end h = record {
      reads = λ read left asks r.
          let e : k ≡ count = omega (arith, l.few) in
          rw (due_is which count) (rw e at (l.collected read left asks r));
      kept = l.kept;
    }

    module _ (inside : k < count) (after' : List ℕ) where
      still_kept : drop ((section_of which).size * suc k) after' ≡ drop ((section_of which).size * suc k) after
          → drop ((section_of which).size * count) after' ≡ drop ((section_of which).size * count) before
      still_kept e =
          drop_further ((section_of which).size * suc k) ((section_of which).size * count) after' after
          (further_numbers which (suc k) count inside) e ∙ l.kept

      pub lines_lack : (q : Refusal) → q ≡ record { fault = Malformed; place = here.line }
          → EntryStored text (section_of which).size k here after after' None
          → EntriesRead text which job closed count from before after' (Err q)
      lines_lack q e st = rw e (record {
        reads = λ read left asks r.
            collected_lacking job_text text read (section_of which) count left (l.collected read left asks r)
            (rw (due_is which count) inside) st.answer;
        kept = still_kept st.kept;
      })

      -- an entry was stored, and its checks were asked
      module _ (next : Cursor)
          (st : EntryStored text (section_of which).size k here after after' (Some next))
          (room : (section_of which).size * suc k ≤ length after') (c : Result Unit Refusal)
          (judged : Judged (only_at k (each_in which job.nodes job.carriers closed after')) c) where
        pub lines_fail : (r : Refusal) → c ≡ Err r
            → (q : Refusal) → q ≡ record { fault = r.fault; place = here.line }
            → EntriesRead text which job closed count from before after' (Err q)
        lines_fail r e q at_line = rw at_line (record {
          reads = λ read left asks x.
              checked_refused job_text text read (section_of which) count left (l.collected read left asks x)
              (rw (due_is which count) inside) st.answer.entered after' st.answer.stores
              (steady which) (places_in which after') (has_place which after' k room) e
              (judged_by_form which job closed read after' k c asks judged);
          kept = still_kept st.kept;
        })

        pub lines_next : c ≡ Ok tt → length after' ≡ length after
            → LinesRead text which job closed count from before after' next (k + 1)
        lines_next e same = record {
          collected = λ read left asks r.
              let x = l.collected read left asks r in
              let behind = st.answer.behind in
              rw (add-one k, ← behind.is_rest, line_after x.reached behind.next_line)
              (checked_entry job_text text read (section_of which) count left x (rw (due_is which count) inside)
              st.answer.entered after' st.answer.stores (steady which) (places_in which after')
              (has_place which after' k room) e
              (judged_by_form which job closed read after' k c asks judged));
          kept = still_kept st.kept;
          few = omega arith;
          size = same ∙ l.size;
        }

-- The line of a section's count, at the stand to which the sections before lead: a count that fits leads on,
-- and one that does not is refused with 2. Where no such line stands is in Skipped.antt. Assumes nothing.
--     count_leads      the count fits
--     count_unfit      it does not
--     fits_most        a count that fits is at most the greatest
use mathlib.Core.List.{List, [], ◌∷◌}
use Prim.Native.Nat.{ℕ, ◌≤◌}
use lib.ListN.{drop}
use Rattle.hall.specs.declared.Fault.TheVariants.{BadCount}
use Rattle.form.specs.Sections.{Limits, between, like, Section, Form, Content, CountFits}
use Rattle.form.specs.Contents.{Picks, first}
use Rattle.form.specs.Stands.{within, behind}
use Rattle.form.specs.JobText.{job_text}
use Rattle.form.specs.Reached.{Reached}
use Rattle.form.proofs.Lengths.{most}
use Rattle.form.proofs.Reached.{past_count, count_refused}
use Rattle.cursor.specs.declared.Cursor.{Cursor}
use Rattle.cursor.specs.Steps.{CountTaken}
use Rattle.reader.specs.Entries.{RefusedBy}
use Rattle.reader.specs.Sections.{Stood}
use Rattle.reader.proofs.Skipped.{skips_back}
use Rattle.reader.proofs.EntryLines.{line_after}

module _ (text : List ℕ) (here : Cursor) (read : List Content) (s : Section) (left : Form)
    (x : Stood text read (s ∷ left) here) (n : ℕ) (next : Cursor)
    (c : CountTaken text s.word here n next) where
  turn : Picks (behind job_text x.stand) s left
  turn = skips_back x.is_left (first s left)

  pub count_leads : CountFits s.limits read n
      → Reached job_text text (within read s n [] left) (drop next.at text) next.line
  count_leads fits =
      let r = past_count job_text text x.reached x.whole s left turn c.taken
      (rw (c.is_count, x.is_read) fits) in
      rw (c.is_count, x.is_read, c.behind.is_rest, ← line_after x.reached c.behind.next_line) at r

  pub count_unfit : ¬ CountFits s.limits read n
      → RefusedBy text (record { fault = BadCount; place = here.line })
  count_unfit unfit =
      count_refused job_text text x.reached x.whole s left turn c.taken
      (rw (c.is_count, x.is_read) unfit)

pub fits_most : (l : Limits) (read : List Content) (n : ℕ) → CountFits l read n → n ≤ most l
fits_most (between least greatest) read n h = h.1
fits_most (like word greatest) read n h = h.1

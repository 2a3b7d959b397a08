-- What an accepted job text says is what the text of a job without the faults of its listed checks says: the
-- nodes and the lanes are taken off the front in turn, and the sections behind them are those of closed
-- nodes, moves, an order and a dwell (AcceptedSections.antt). Assumes nothing.
--     JobRead            contents are those of a job without the faults of its listed checks
--     accepted_job       the contents of an accepted text are so
--     sound_exactly      the contents of a job are without a fault exactly if the job has no fault of its
--                        listed checks
use mathlib.Core.Path.{◌≡◌, refl, sym, ◌∙◌, ap}
use mathlib.Core.Logic.{inl, inr, ◌↔◌}
use mathlib.Core.List.{List, [], ◌∷◌, ◌++◌}
use native.Mathlib.Omega.{arith}
use lib.ListN.{length}
use Rattle.hall.specs.Floor.{network_of, lanes_in}
use Rattle.hall.specs.Job.{Numbers, job_of, move_count}
use Rattle.hall.specs.Stages.{None}
use Rattle.hall.specs.Questions.{lane_checks, closed_checks, move_checks, order_checks, checks_question}
use Rattle.hall.proofs.Compose.{none_more, none_at_all}
use Rattle.hall.proofs.Places.{asked_clear, each_none}
use Rattle.form.specs.Sections.{Content, content, same_words, count_of, numbers_in}
use Rattle.form.specs.Words.{NODES, LANES, CARRIERS, ORDER}
use Rattle.form.specs.Contents.{Sound}
use Rattle.form.specs.JobText.{nodes_section, lanes_section, closed_section, carriers_section}
use Rattle.form.specs.JobText.{order_section, dwell_section, job_text}
use Rattle.form.specs.Jobs.{pairs, singles, closed_contents, contents_of, job_in}
use Rattle.form.proofs.WholeChecks.{numbers_length}
use Rattle.form.proofs.FirstSections.{StandsFirst, must}
use Rattle.form.proofs.Checks.{lanes_steady}
use Rattle.form.proofs.Rows.{ByTwos, section_whole}
use Rattle.form.proofs.WrittenJobs.{contents_sound}
use Rattle.form.proofs.JobSections.{job_in_contents}
use Rattle.form.proofs.AcceptedSections.{no_entries, pairs_said, ClosedRead, closed_read_lem}

pub record JobRead (c : List Content) : Type 0 where
  pub its_job : Numbers
  pub is : c ≡ contents_of its_job
  pub sound : None (checks_question its_job)
  pub lanes_paired : ByTwos its_job.network.lanes
  pub moves_paired : ByTwos its_job.moves

-- the sections, taken off the front: nodes, lanes, and what is behind them
module _ (c : List Content)
    (a : StandsFirst [] nodes_section
    (lanes_section ∷ closed_section ∷ carriers_section ∷ order_section ∷ dwell_section ∷ []) c)
    (b : StandsFirst (content NODES a.n a.es ∷ []) lanes_section
    (closed_section ∷ carriers_section ∷ order_section ∷ dwell_section ∷ []) a.rest)
    (d : ClosedRead a.n b.rest) where
  job_read : JobRead c
  unfolding count_of same_words NODES LANES
  job_read =
      let e = d.on in
      let w = e.on in
      let x = section_whole _ lanes_section b.n b.es lanes_steady b.section in
      let some_nodes = a.section.fits in
      let lanes_fit = b.section.fits in
      let lanes_many = b.section.counted in
      let lanes_long = numbers_length 2 b.es x.0 in
      let m : lanes_in (numbers_in b.es) ≡ b.n = omega arith in
      let N = network_of a.n (numbers_in b.es) d.closed in
      record {
        its_job = job_of N e.moves e.order w.dwell;
        is =
            let none = no_entries a.es a.section.counted in
            let lanes_are = pairs_said LANES b.n b.es x.0 lanes_many in
            let behind = w.is in
            let carriers_on =
            e.is
            ∙ (λ i. content CARRIERS (move_count e.moves) (pairs e.moves)
            ∷ content ORDER (length e.order) (singles e.order)
            ∷ behind i) in
            let Closed-on = d.is ∙ ap (λ (r : List Content). closed_contents d.closed ++ r) carriers_on in
            let lanes_on = b.is ∙ (λ i. lanes_are i ∷ Closed-on i) in
            a.is ∙ (λ i. content NODES a.n (none i) ∷ lanes_on i);
        sound =
            asked_clear
            (λ h. elim h [ inl u ↦ omega (arith, some_nodes.0) | inr u ↦ omega (arith, some_nodes.1) ])
            (asked_clear (λ h. elim h [ inl u ↦ omega (arith, lanes_fit.1) | inr u ↦ omega arith ])
            (asked_clear (λ h. omega (arith, d.few))
            (asked_clear (λ h. omega (arith, e.few))
            (asked_clear (λ h. h e.counts)
            (asked_clear (λ h. omega (arith, w.few))
            (none_more
            (each_none (lane_checks a.n (numbers_in b.es))
            (record { clear = λ i l. x.1 i (omega arith) }))
            (none_more (each_none (closed_checks a.n d.closed) (record { clear = d.entry }))
            (none_more (each_none (move_checks a.n d.closed e.moves) (record { clear = e.move }))
            (none_more
            (each_none (order_checks (move_count e.moves) e.order) (record { clear = e.place }))
            none_at_all)))))))));
        lanes_paired = omega arith;
        moves_paired = e.paired;
      }

pub accepted_job : (c : List Content) → Sound [] job_text c → JobRead c
accepted_job c h =
    let a = must refl h in
    let b = must refl a.on in
    job_read c a b (closed_read_lem a.n b.n a.es b.es b.rest b.on)

-- ---- contents and questions

pub sound_exactly : (j : Numbers) → ByTwos j.network.lanes → ByTwos j.moves
    → Sound [] job_text (contents_of j) ↔ None (checks_question j)
sound_exactly j lanes moves = (to, λ sound. contents_sound j sound moves)
  where
    to : Sound [] job_text (contents_of j) → None (checks_question j)
    to h =
        let r = accepted_job (contents_of j) h in
        let same : r.its_job ≡ j =
        sym (job_in_contents r.its_job r.lanes_paired r.moves_paired) ∙ ap job_in (sym r.is)
        ∙ job_in_contents j lanes moves in
        rw same at r.sound

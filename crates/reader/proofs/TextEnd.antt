-- The end of a text: the dwell, whose section has one line and may be missing, and then no byte more. At the
-- end the sections are the job that the text writes; its dwell is the count of its section, or 0. Assumes
-- nothing.
--     end_lacks, end_here    bytes are left, or none is
--     after_dwell      the section was read, or is missing
--     text_answer      the answer at the end
use mathlib.Core.Path.{◌≡◌, refl, ◌∙◌, ap, subst}
use mathlib.Core.List.{List, [], ◌∷◌, ◌++◌, append_assoc}
use Prim.Native.Nat.{ℕ, ◌≤◌, ◌<◌}
use native.Mathlib.Omega.{arith}
use lib.ListN.{length, length-drop, drop_of_length-le}
use Rattle.std.specs.Prelude.{Result, Ok, Err}
use Rattle.hall.specs.declared.Refusal.{Refusal}
use Rattle.hall.specs.declared.Fault.TheVariants.{Malformed}
use Rattle.hall.specs.declared.Job.{Job}
use Rattle.hall.specs.Floor.{network_of}
use Rattle.hall.specs.Job.{job_of}
use Rattle.form.specs.Sections.{Content, content, numbers_in}
use Rattle.form.specs.Words.{NODES, LANES, CARRIERS, ORDER, DWELL}
use Rattle.form.specs.JobText.{job_text}
use Rattle.form.specs.Jobs.{dwell_contents}
use Rattle.form.proofs.Reached.{at_end}
use Rattle.form.proofs.JobSections.{closed_read, dwell_stands, job_sections}
use Rattle.form.proofs.JobTexts.{job_read, lanes_counted, closed_counted, carriers_counted}
use Rattle.cursor.specs.declared.Cursor.{Cursor}
use Rattle.reader.specs.declared.sections.Sections.TheVariants.{Dwell}
use Rattle.reader.specs.Reading.{AnyShort}
use Rattle.reader.specs.Sections.{with_count, Stood, SectionRead, SectionMissing, SectionStep}
use Rattle.reader.specs.Sections.{EndAnswer, EndStep}
use Rattle.reader.specs.Text.{TextAnswer}
use Rattle.reader.proofs.Skipped.{skips_lack, skipped_over}
use Rattle.reader.proofs.AfterSection.{stood_behind, stood_past, After, step_after}
use Rattle.reader.proofs.TextStands.{up_to_order, OrderAt, DwellAt, order-reads}

-- ---- the last byte

module _ (text : List ℕ) (job : Job) (here : Cursor) where
  pub end_lacks : here.at < length text
      → EndStep text job here (Err (record { fault = Malformed; place = here.line }))
  end_lacks h read x =
      skipped_over job_text text x.reached x.whole x.is_left
      (λ z. let l = ap length z in let y : ⊥ = omega (arith, length-drop here.at text) in y)

  pub end_here : length text ≤ here.at → EndStep text job here (Ok job)
  end_here h read x =
      let may = (skips_lack x.is_left).1 tt in
      let form = at_end job_text text x.reached (x.whole, may) (drop_of_length-le text h) in
      (refl, rw x.is_read at form)

module _ (text lanes lanes' closed closed' moves moves' order order' : List ℕ) where
  abbrev ReadOrder : Job → Cursor → Type 0
  ReadOrder = OrderAt text lanes lanes' closed closed' moves moves' order order'

  abbrev ReadDwell : Job → Cursor → Type 0
  ReadDwell = DwellAt text lanes lanes' closed closed' moves moves' order order'

  -- ---- the dwell

  -- where it stands, it has no entries
  dwell_stood : (job job' : Job) (here next : Cursor) (before after : List ℕ) (x : ReadOrder job here)
      → SectionRead text (up_to_order x.n x.m x.k x.p x.none x.ls x.cs x.ms x.os)
      Dwell [] job job' next before after
      → ReadDwell job' next
  dwell_stood job job' here next before after x y =
      let w = y.count in
      let es = y.collected.es in
      let front = content CARRIERS x.k x.ms ∷ content ORDER x.p x.os ∷ [] in
      let whole : (closed_read x.cs ++ front) ++ (content DWELL w es ∷ [])
      ≡ closed_read x.cs ++ (front ++ dwell_contents w) =
      append_assoc (closed_read x.cs) front (content DWELL w es ∷ [])
      ∙ ap (λ (c : List Content). closed_read x.cs ++ (front ++ c))
      (dwell_stands w es y.collected.counted y.fits.0) in
      record {
        n = x.n;
        m = x.m;
        k = x.k;
        p = x.p;
        w = w;
        none = x.none;
        ls = x.ls;
        cs = x.cs;
        ms = x.ms;
        os = x.os;
        stood =
            subst
            (λ (c : List Content).
            Stood text (content NODES x.n x.none ∷ content LANES x.m x.ls ∷ c) [] next)
            whole (stood_behind y);
        counts = y.counts ∙ ap (with_count Dwell w) x.counts;
        lanes_left_lem = x.lanes_left_lem;
        closed_left = x.closed_left;
        moves_left = x.moves_left;
        order_left = x.order_left;
      }

  dwell_none : (job job' : Job) (here next : Cursor) (before after : List ℕ) → ReadOrder job here
      → SectionMissing text Dwell job job' here next before after
      → ReadDwell job' next
  dwell_none job job' here next before after x y = record {
    n = x.n;
    m = x.m;
    k = x.k;
    p = x.p;
    w = 0;
    none = x.none;
    ls = x.ls;
    cs = x.cs;
    ms = x.ms;
    os = x.os;
    stood = stood_past y _ _ x.stood;
    counts = y.same_counts ∙ x.counts;
    lanes_left_lem = x.lanes_left_lem;
    closed_left = x.closed_left;
    moves_left = x.moves_left;
    order_left = x.order_left;
  }

  pub after_dwell : (before after : List ℕ) (job : Job) (here : Cursor)
      (q : Result (Job × Cursor) Refusal) → ReadOrder job here
      → SectionStep text closed' Dwell job here before after q
      → After text ReadDwell q
  unfolding order-reads
  after_dwell before after =
      step_after text closed' Dwell ReadOrder (order-reads text) before after ReadDwell
      (λ job job' here next x y. dwell_stood job job' here next before after x y)
      (λ job job' here next x y. dwell_none job job' here next before after x y)

  -- ---- the answer

  pub text_answer : ¬ AnyShort lanes closed moves order
      → (job : Job) (here : Cursor) (r : Result Job Refusal) → ReadDwell job here → EndStep text job here r
      → TextAnswer text lanes closed moves order lanes' closed' moves' order' r
  text_answer long job here r x e = answer r x (e (sections_of x) x.stood)
    where
      sections_of : ReadDwell job here → List Content
      sections_of x =
          job_sections x.n x.m x.k x.p x.w x.none x.ls x.cs x.ms x.os

      answer : (r : Result Job Refusal) (x : ReadDwell job here) → EndAnswer text (sections_of x) job r
          → TextAnswer text lanes closed moves order lanes' closed' moves' order' r
      answer (Err q) x a = a
      answer (Ok j) x a =
          let form = a.1 in
          let n = x.n in
          let m = x.m in
          let k = x.k in
          let p = x.p in
          let w = x.w in
          let ls = x.ls in
          let cs = x.cs in
          let ms = x.ms in
          let os = x.os in
          let lanes_same = lanes_counted text n m k p w x.none ls cs ms os form in
          let closed_same = closed_counted text n m k p w x.none ls cs ms os form in
          let carriers_same = carriers_counted text n m k p w x.none ls cs ms os form in
          record {
            long = long;
            job = job_of (network_of n (numbers_in ls) (numbers_in cs)) (numbers_in ms) (numbers_in os) w;
            writes = job_read text n m k p w x.none ls cs ms os form;
            is_counts = a.0 ∙ x.counts
                ∙ (λ i. record {
                  nodes = n;
                  lanes = lanes_same i;
                  closed = closed_same i;
                  carriers = carriers_same i;
                  dwell = w;
                });
            lanes_left_lem = x.lanes_left_lem;
            closed_left = x.closed_left;
            moves_left = x.moves_left;
            order_left = x.order_left;
          }

-- The sections one after the other: each step leads from what holds behind the section before
-- (TextStands.antt) to what holds behind its own; or the text is refused. A section that is
-- added to the form is one more such step. The last of them, that of the dwell, and the end are in
-- TextEnd.antt. Assumes nothing.
--     after_nodes, after_lanes, after_closed, after_carriers, after_order    the section was read, or is
--                      missing
use mathlib.Core.Path.{◌≡◌, refl, sym, ◌∙◌, ap, subst}
use mathlib.Core.List.{List, [], ◌∷◌, ◌++◌, append_assoc}
use Prim.Native.Nat.{ℕ, ◌*◌, ◌≤◌}
use native.Mathlib.Omega.{arith}
use lib.ListN.{length}
use Rattle.std.specs.Prelude.{Result}
use Rattle.hall.specs.declared.Refusal.{Refusal}
use Rattle.hall.specs.declared.Job.{Job}
use Rattle.hall.specs.Limits.{node_limit}
use Rattle.hall.proofs.Left.{filled_none}
use Rattle.form.specs.Sections.{Content, content, numbers_in}
use Rattle.form.specs.Words.{NODES, LANES, CARRIERS, ORDER}
use Rattle.form.proofs.JobSections.{closed_read, closed_stands}
use Rattle.cursor.specs.declared.Cursor.{Cursor}
use Rattle.network.specs.declared.entries.Entries.TheVariants.{Lanes, Closed, Moves, Places}
use Rattle.reader.specs.declared.sections.Sections.TheVariants.{Nodes, Listed}
use Rattle.reader.specs.Sections.{counting, with_count, Stood, SectionRead, SectionMissing, SectionStep}
use Rattle.reader.proofs.AfterSection.{stood_behind, few_counted, stood_past, not_missing}
use Rattle.reader.proofs.AfterSection.{After, step_after}
use Rattle.reader.proofs.TextStands.{behind_closed, behind_order}
use Rattle.reader.proofs.TextStands.{StartAt, NodesAt, LanesAt, ClosedAt, CarriersAt, OrderAt}
use Rattle.reader.proofs.TextStands.{start-reads, nodes-reads, lanes-reads, closed-reads}
use Rattle.reader.proofs.TextStands.{carriers-reads}

module _ (text : List ℕ) where
  pub after_nodes : (before after : List ℕ) (job : Job) (here : Cursor) (q : Result (Job × Cursor) Refusal)
      → StartAt text job here
      → SectionStep text [] Nodes job here before after q → After text (NodesAt text) q
  unfolding start-reads
  after_nodes before after =
      step_after text [] Nodes (StartAt text) (start-reads text) before after (NodesAt text)
      (λ job job' here next x y. record {
        n = y.count;
        none = y.collected.es;
        stood = stood_behind y;
        counts = y.counts ∙ ap (with_count Nodes y.count) x.counts;
      })
      (λ job job' here next x y. absurd (not_missing y refl))

  module _ (lanes lanes' : List ℕ) where
    abbrev ReadLanes : Job → Cursor → Type 0
    ReadLanes = LanesAt text lanes lanes'

    pub after_lanes : (job : Job) (here : Cursor) (q : Result (Job × Cursor) Refusal) → NodesAt text job here
        → SectionStep text [] (Listed Lanes) job here lanes lanes' q → After text ReadLanes q
    unfolding nodes-reads
    after_lanes =
        step_after text [] (Listed Lanes) (NodesAt text) (nodes-reads text) lanes lanes' ReadLanes
        (λ job job' here next x y. record {
          n = x.n;
          m = y.count;
          none = x.none;
          ls = y.collected.es;
          stood = stood_behind y;
          counts = y.counts ∙ ap (with_count (Listed Lanes) y.count) x.counts;
          lanes_left_lem = y.fills;
        })
        (λ job job' here next x y. absurd (not_missing y refl))

    module _ (closed closed' : List ℕ) where
      abbrev ReadClosed : Job → Cursor → Type 0
      ReadClosed = ClosedAt text lanes lanes' closed closed'

      -- where it stands, its count is that of its entries
      closed_stood : (job job' : Job) (here next : Cursor) (x : ReadLanes job here)
          → node_limit ≤ length closed'
          → SectionRead text (content NODES x.n x.none ∷ content LANES x.m x.ls ∷ [])
          (Listed Closed) behind_closed job job' next closed closed'
          → ReadClosed job' next
      closed_stood job job' here next x long y =
          let es = y.collected.es in
          let counted : length es ≡ y.count = y.collected.counted in
          let before = content NODES x.n x.none ∷ content LANES x.m x.ls ∷ [] in
          record {
            n = x.n;
            m = x.m;
            none = x.none;
            ls = x.ls;
            cs = es;
            stood =
                subst
                (λ (c : List Content). Stood text (before ++ c) behind_closed next)
                (closed_stands y.count es counted y.fits.0)
                (stood_behind y);
            counts = y.counts ∙ ap (with_count (Listed Closed) y.count) x.counts
                ∙ ap (λ (c : ℕ). counting x.n x.m c 0 0) (sym counted);
            lanes_left_lem = x.lanes_left_lem;
            closed_left = y.fills;
            closed_first =
                let same : 1 * y.count ≡ length es = omega arith in
                sym (rw same at y.collected.stored);
            few_closed = omega (arith, y.fits.1);
          }

      closed_none : (job job' : Job) (here next : Cursor) → ReadLanes job here → node_limit ≤ length closed
          → SectionMissing text (Listed Closed) job job' here next closed closed'
          → ReadClosed job' next
      unfolding numbers_in
      closed_none job job' here next x long y = record {
        n = x.n;
        m = x.m;
        none = x.none;
        ls = x.ls;
        cs = [];
        stood = stood_past y _ _ x.stood;
        counts = y.same_counts ∙ x.counts;
        lanes_left_lem = x.lanes_left_lem;
        closed_left = y.zeroes ∙ sym (filled_none node_limit closed long);
        closed_first = refl;
        few_closed = omega arith;
      }

      pub after_closed : node_limit ≤ length closed → length closed' ≡ length closed
          → (job : Job) (here : Cursor) (q : Result (Job × Cursor) Refusal) → ReadLanes job here
          → SectionStep text [] (Listed Closed) job here closed closed' q
          → After text ReadClosed q
      unfolding lanes-reads
      after_closed long same =
          step_after text [] (Listed Closed) ReadLanes (lanes-reads text) closed closed' ReadClosed
          (λ job job' here next x y. closed_stood job job' here next x (rw same long) y)
          (λ job job' here next x y. closed_none job job' here next x long y)

      module _ (moves moves' : List ℕ) where
        abbrev ReadCarriers : Job → Cursor → Type 0
        ReadCarriers = CarriersAt text lanes lanes' closed closed' moves moves'

        pub after_carriers : (job : Job) (here : Cursor) (q : Result (Job × Cursor) Refusal) → ReadClosed job here
            → SectionStep text closed' (Listed Moves) job here moves moves' q
            → After text ReadCarriers q
        unfolding closed-reads
        after_carriers =
            step_after text closed' (Listed Moves) ReadClosed (closed-reads text) moves moves' ReadCarriers
            (λ job job' here next x y. record {
              n = x.n;
              m = x.m;
              k = y.count;
              none = x.none;
              ls = x.ls;
              cs = x.cs;
              ms = y.collected.es;
              stood = stood_behind y;
              counts = y.counts ∙ ap (with_count (Listed Moves) y.count) x.counts;
              few = few_counted y;
              lanes_left_lem = x.lanes_left_lem;
              closed_left = x.closed_left;
              moves_left = y.fills;
              few_closed = x.few_closed;
            })
            (λ job job' here next x y. absurd (not_missing y refl))

        module _ (order order' : List ℕ) where
          abbrev ReadOrder : Job → Cursor → Type 0
          ReadOrder = OrderAt text lanes lanes' closed closed' moves moves' order order'

          pub after_order : (job : Job) (here : Cursor) (q : Result (Job × Cursor) Refusal) → ReadCarriers job here
              → SectionStep text closed' (Listed Places) job here order order' q
              → After text ReadOrder q
          unfolding carriers-reads
          after_order =
              step_after text closed' (Listed Places) ReadCarriers (carriers-reads text) order order'
              ReadOrder
              (λ job job' here next x y. record {
                n = x.n;
                m = x.m;
                k = x.k;
                p = y.count;
                none = x.none;
                ls = x.ls;
                cs = x.cs;
                ms = x.ms;
                os = y.collected.es;
                stood =
                    subst
                    (λ (c : List Content).
                    Stood text (content NODES x.n x.none ∷ content LANES x.m x.ls ∷ c)
                    behind_order next)
                    (append_assoc (closed_read x.cs) (content CARRIERS x.k x.ms ∷ [])
                    (content ORDER y.count y.collected.es ∷ []))
                    (stood_behind y);
                counts = y.counts ∙ x.counts;
                lanes_left_lem = x.lanes_left_lem;
                closed_left = x.closed_left;
                moves_left = x.moves_left;
                order_left = y.fills;
                few_closed = x.few_closed;
              })
              (λ job job' here next x y. absurd (not_missing y refl))

-- A whole text: the steps of its sections from the beginning to the end, each with what makes the next one
-- ready, and the answer. The nodes and the dwell go into no table and leave the one that they are lent.
-- Assumes nothing.
--     ready_nodes, ready_lanes, ready_closed, ready_moves, ready_order, ready_dwell    the section may be
--                      read
--     none_short       tables that are long enough are not too short
--     stop_nodes, stop_lanes, stop_closed, stop_moves, stop_order, stop_dwell    the section is refused, and
--                      with it the text
--     text_read        the answer at the end, and what is left in the tables
use mathlib.Core.Path.{◌≡◌, refl, ◌∙◌, ap}
use mathlib.Core.Logic.{inl, inr}
use mathlib.Core.List.{List, []}
use Prim.Native.Nat.{ℕ, ◌≤◌}
use native.Mathlib.Omega.{arith}
use lib.ListN.{length, drop}
use Rattle.std.specs.Prelude.{Result, Ok, Err}
use Rattle.hall.specs.declared.Refusal.{Refusal}
use Rattle.hall.specs.declared.Job.{Job}
use Rattle.hall.specs.Limits.{node_limit, carrier_limit, lane_numbers, move_numbers, empty_job}
use Rattle.cursor.specs.declared.Cursor.{Cursor}
use Rattle.network.specs.declared.entries.Entries.TheVariants.{Lanes, Closed, Moves, Places}
use Rattle.reader.specs.declared.sections.Sections.TheVariants.{Nodes, Dwell, Listed}
use Rattle.reader.specs.Entries.{RefusedBy}
use Rattle.reader.specs.Reading.{AnyShort}
use Rattle.reader.specs.Sections.{Ready, SectionStep, EndStep}
use Rattle.reader.specs.Text.{Long, TextRead}
use Rattle.reader.proofs.TextStands.{StartAt, NodesAt, LanesAt, ClosedAt, CarriersAt, OrderAt}
use Rattle.reader.proofs.TextStands.{start-reads, nodes-reads, lanes-reads, closed-reads}
use Rattle.reader.proofs.TextStands.{carriers-reads, order-reads}
use Rattle.reader.proofs.TextSteps.{after_nodes, after_lanes, after_closed, after_carriers}
use Rattle.reader.proofs.TextSteps.{after_order}
use Rattle.reader.proofs.TextEnd.{after_dwell, text_answer}

none_short : (lanes closed moves order : List ℕ) → Long lanes closed moves order
    → ¬ AnyShort lanes closed moves order
none_short lanes closed moves order long (inl h) = omega (arith, long.lanes_long)
none_short lanes closed moves order long (inr (inl h)) = omega (arith, long.closed_long)
none_short lanes closed moves order long (inr (inr (inl h))) = omega (arith, long.moves_long)
none_short lanes closed moves order long (inr (inr (inr h))) = omega (arith, long.order_long)

module _ (text lanes closed moves order : List ℕ) where
  -- a refusal, where each table has been left from its least length on
  refused_text : (lanes' closed' moves' order' : List ℕ) (q : Refusal) → RefusedBy text q
      → drop lane_numbers lanes' ≡ drop lane_numbers lanes
      → drop node_limit closed' ≡ drop node_limit closed
      → drop move_numbers moves' ≡ drop move_numbers moves
      → drop carrier_limit order' ≡ drop carrier_limit order
      → TextRead text lanes closed moves order lanes' closed' moves' order' (Err q)
  refused_text lanes' closed' moves' order' q f l c m o =
      record { answer = f; beyond_lanes = l; beyond_closed = c; beyond_moves = m; beyond_order = o }

  module _ (job : Job) (here : Cursor) (empty : job ≡ empty_job)
      (begin : here ≡ record { at = 0; line = 1 }) where
    started : StartAt text job here
    started = record { counts = empty; begin = begin }

    pub ready_nodes : Ready text [] Nodes job here
    ready_nodes = start-reads text job here started

    module _ (lanes₁ : List ℕ) where
      pub stop_nodes : (q : Refusal) → SectionStep text [] Nodes job here lanes lanes₁ (Err q)
          → TextRead text lanes closed moves order lanes₁ closed moves order (Err q)
      stop_nodes q x =
          refused_text lanes₁ closed moves order q (after_nodes text lanes lanes₁ job here (Err q) started x)
          (ap (drop lane_numbers) x.beyond) refl refl refl

      module _ (job₁ : Job) (here₁ : Cursor)
          (nodes : SectionStep text [] Nodes job here lanes lanes₁ (Ok (job₁, here₁))) where
        at_nodes : NodesAt text job₁ here₁
        at_nodes = after_nodes text lanes lanes₁ job here (Ok (job₁, here₁)) started nodes

        pub ready_lanes : Ready text [] (Listed Lanes) job₁ here₁
        ready_lanes = nodes-reads text job₁ here₁ at_nodes

        module _ (lanes' : List ℕ) where
          beyond_lanes : {q : Result (Job × Cursor) Refusal}
              → SectionStep text [] (Listed Lanes) job₁ here₁ lanes₁ lanes' q
              → drop lane_numbers lanes' ≡ drop lane_numbers lanes
          beyond_lanes x = x.beyond ∙ ap (drop lane_numbers) nodes.beyond

          pub stop_lanes : (q : Refusal) → SectionStep text [] (Listed Lanes) job₁ here₁ lanes₁ lanes' (Err q)
              → TextRead text lanes closed moves order lanes' closed moves order (Err q)
          stop_lanes q x =
              refused_text lanes' closed moves order q
              (after_lanes text lanes₁ lanes' job₁ here₁ (Err q) at_nodes x)
              (beyond_lanes x) refl refl refl

          module _ (job₂ : Job) (here₂ : Cursor)
              (floor : SectionStep text [] (Listed Lanes) job₁ here₁ lanes₁ lanes' (Ok (job₂, here₂))) where
            at_lanes : LanesAt text lanes lanes' job₂ here₂
            at_lanes =
                rw nodes.beyond at (after_lanes text lanes₁ lanes' job₁ here₁ (Ok (job₂, here₂)) at_nodes floor)

            pub ready_closed : Ready text [] (Listed Closed) job₂ here₂
            ready_closed = lanes-reads text job₂ here₂ at_lanes

            module _ (closed' : List ℕ) (long : node_limit ≤ length closed)
                (same : length closed' ≡ length closed) where
              pub stop_closed : (q : Refusal)
                  → SectionStep text [] (Listed Closed) job₂ here₂ closed closed' (Err q)
                  → TextRead text lanes closed moves order lanes' closed' moves order (Err q)
              stop_closed q x =
                  refused_text lanes' closed' moves order q
                  (after_closed text lanes lanes' closed closed' long same job₂ here₂ (Err q) at_lanes x)
                  (beyond_lanes floor) x.beyond refl refl

              module _ (job₃ : Job) (here₃ : Cursor)
                  (shut : SectionStep text [] (Listed Closed) job₂ here₂ closed closed' (Ok (job₃, here₃))) where
                at_closed : ClosedAt text lanes lanes' closed closed' job₃ here₃
                at_closed =
                    after_closed text lanes lanes' closed closed' long same job₂ here₂ (Ok (job₃, here₃)) at_lanes
                    shut

                pub ready_moves : Ready text closed' (Listed Moves) job₃ here₃
                ready_moves = closed-reads text job₃ here₃ at_closed

                module _ (moves' : List ℕ) where
                  pub stop_moves : (q : Refusal)
                      → SectionStep text closed' (Listed Moves) job₃ here₃ moves moves' (Err q)
                      → TextRead text lanes closed moves order lanes' closed' moves' order (Err q)
                  stop_moves q x =
                      refused_text lanes' closed' moves' order q
                      (after_carriers text lanes lanes' closed closed' moves moves' job₃ here₃ (Err q) at_closed x)
                      (beyond_lanes floor) shut.beyond x.beyond refl

                  module _ (job₄ : Job) (here₄ : Cursor)
                      (moved : SectionStep text closed' (Listed Moves) job₃ here₃ moves moves'
                      (Ok (job₄, here₄))) where
                    at_moves : CarriersAt text lanes lanes' closed closed' moves moves' job₄ here₄
                    at_moves =
                        after_carriers text lanes lanes' closed closed' moves moves' job₃ here₃ (Ok (job₄, here₄))
                        at_closed moved

                    pub ready_order : Ready text closed' (Listed Places) job₄ here₄
                    ready_order = carriers-reads text job₄ here₄ at_moves

                    module _ (order₁ : List ℕ) where
                      pub stop_order : (q : Refusal)
                          → SectionStep text closed' (Listed Places) job₄ here₄ order order₁ (Err q)
                          → TextRead text lanes closed moves order lanes' closed' moves' order₁ (Err q)
                      stop_order q x =
                          refused_text lanes' closed' moves' order₁ q
                          (after_order text lanes lanes' closed closed' moves moves' order order₁ job₄ here₄
                          (Err q) at_moves x)
                          (beyond_lanes floor) shut.beyond moved.beyond x.beyond

                      module _ (job₅ : Job) (here₅ : Cursor)
                          (ordered : SectionStep text closed' (Listed Places) job₄ here₄ order order₁
                          (Ok (job₅, here₅))) where
                        at_order : OrderAt text lanes lanes' closed closed' moves moves' order order₁ job₅ here₅
                        at_order =
                            after_order text lanes lanes' closed closed' moves moves' order order₁ job₄ here₄
                            (Ok (job₅, here₅)) at_moves ordered

                        pub ready_dwell : Ready text closed' Dwell job₅ here₅
                        ready_dwell = order-reads text job₅ here₅ at_order

                        module _ (order' : List ℕ) where
                          beyond_order : {q : Result (Job × Cursor) Refusal}
                              → SectionStep text closed' Dwell job₅ here₅ order₁ order' q
                              → drop carrier_limit order' ≡ drop carrier_limit order
                          beyond_order x = ap (drop carrier_limit) x.beyond ∙ ordered.beyond

                          pub stop_dwell : (q : Refusal)
                              → SectionStep text closed' Dwell job₅ here₅ order₁ order' (Err q)
                              → TextRead text lanes closed moves order lanes' closed' moves' order' (Err q)
                          stop_dwell q x =
                              refused_text lanes' closed' moves' order' q
                              (after_dwell text lanes lanes' closed closed' moves moves' order order₁ order₁ order'
                              job₅ here₅ (Err q) at_order x)
                              (beyond_lanes floor) shut.beyond moved.beyond (beyond_order x)

                          pub text_read : (job₆ : Job) (here₆ : Cursor)
                              → SectionStep text closed' Dwell job₅ here₅ order₁ order' (Ok (job₆, here₆))
                              → Long lanes closed moves order → (r : Result Job Refusal)
                              → EndStep text job₆ here₆ r
                              → TextRead text lanes closed moves order lanes' closed' moves' order' r
                          text_read job₆ here₆ waited enough r end = record {
                            answer =
                                text_answer text lanes lanes' closed closed' moves moves' order order'
                                (none_short lanes closed moves order enough) job₆ here₆ r
                                (rw (← waited.beyond) at
                                (after_dwell text lanes lanes' closed closed' moves moves' order order₁ order₁
                                order' job₅ here₅ (Ok (job₆, here₆)) at_order waited))
                                end;
                            beyond_lanes = beyond_lanes floor;
                            beyond_closed = shut.beyond;
                            beyond_moves = moved.beyond;
                            beyond_order = beyond_order waited;
                          }

-- What holds behind each section of a text: the form leads to where the cursor stands, the counts so far are
-- those read, and each table read into is filled with its section's numbers. Where the section of the closed
-- nodes is missing, none are read; where that of the dwell is, it is 0. With that the next section may be
-- read. Assumes nothing.
--     behind_nodes, behind_lanes, behind_closed, behind_carriers, behind_order    the sections left behind each
--                      section
--     up_to_order        what is read up to the order, by the entries
--     StartAt, NodesAt, LanesAt, ClosedAt, CarriersAt, OrderAt, DwellAt    what holds behind each section
--     start-reads, nodes-reads, lanes-reads, closed-reads, carriers-reads, order-reads    the next one may be
--                      read
use mathlib.Core.Path.{◌≡◌, refl, sym, ◌∙◌, ap}
use mathlib.Core.List.{List, [], ◌∷◌, ◌++◌}
use Prim.Native.Nat.{ℕ, ◌≤◌}
use native.Mathlib.Omega.{arith}
use lib.ListN.{length, take}
use Rattle.hall.specs.declared.Job.{Job}
use Rattle.hall.specs.Limits.{node_limit, carrier_limit, lane_numbers, move_numbers, empty_job}
use Rattle.hall.specs.Left.{filled}
use Rattle.form.specs.Sections.{Form, Content, content, numbers_in}
use Rattle.form.specs.Words.{NODES, LANES, CARRIERS, ORDER}
use Rattle.form.specs.Stands.{start}
use Rattle.form.specs.JobText as form
use Rattle.form.proofs.Reached.{at_start}
use Rattle.form.proofs.JobSections.{nodes_read, closed_read, closed_read_lem, carriers_read, job_sections}
use Rattle.cursor.specs.declared.Cursor.{Cursor}
use Rattle.network.specs.declared.entries.Entries.TheVariants.{Lanes, Closed, Moves, Places}
use Rattle.reader.specs.declared.sections.Sections.TheVariants.{Nodes, Dwell, Listed}
use Rattle.reader.specs.Sections.{counting, all_left, Stood, Ready}

-- ---- the sections behind each section

abbrev pub behind_order : Form
behind_order = form.dwell_section ∷ []

abbrev pub behind_carriers : Form
behind_carriers = form.order_section ∷ behind_order

abbrev pub behind_closed : Form
behind_closed = form.carriers_section ∷ behind_carriers

abbrev pub behind_lanes : Form
behind_lanes = form.closed_section ∷ behind_closed

abbrev pub behind_nodes : Form
behind_nodes = form.lanes_section ∷ behind_lanes

-- ---- behind each section

pub record StartAt (text : List ℕ) (job : Job) (here : Cursor) : Type 0 where
  pub counts : job ≡ empty_job
  pub begin : here ≡ record { at = 0; line = 1 }

pub record NodesAt (text : List ℕ) (job : Job) (here : Cursor) : Type 0 where
  pub n : ℕ
  pub none : List (List ℕ)
  pub stood : Stood text (content NODES n none ∷ []) behind_nodes here
  pub counts : job ≡ counting n 0 0 0 0

pub record LanesAt (text lanes lanes' : List ℕ) (job : Job) (here : Cursor) : Type 0 where
  pub n : ℕ
  pub m : ℕ
  pub none : List (List ℕ)
  pub ls : List (List ℕ)
  pub stood : Stood text (content NODES n none ∷ content LANES m ls ∷ []) behind_lanes here
  pub counts : job ≡ counting n m 0 0 0
  pub lanes_left_lem : lanes' ≡ filled (numbers_in ls) lane_numbers lanes

pub record ClosedAt (text lanes lanes' closed closed' : List ℕ) (job : Job) (here : Cursor) : Type 0 where
  pub n : ℕ
  pub m : ℕ
  pub none : List (List ℕ)
  pub ls : List (List ℕ)
  pub cs : List (List ℕ)
  pub stood : Stood text (content NODES n none ∷ content LANES m ls ∷ closed_read cs) behind_closed here
  pub counts : job ≡ counting n m (length cs) 0 0
  pub lanes_left_lem : lanes' ≡ filled (numbers_in ls) lane_numbers lanes
  pub closed_left : closed' ≡ filled (numbers_in cs) node_limit closed
  -- the checks of moves look at these
  pub closed_first : take (length cs) closed' ≡ numbers_in cs
  pub few_closed : length cs ≤ length closed'

pub record CarriersAt (text lanes lanes' closed closed' moves moves' : List ℕ) (job : Job) (here : Cursor)
    : Type 0 where
  pub n : ℕ
  pub m : ℕ
  pub k : ℕ
  pub none : List (List ℕ)
  pub ls : List (List ℕ)
  pub cs : List (List ℕ)
  pub ms : List (List ℕ)
  pub stood : Stood text
      (content NODES n none ∷ content LANES m ls ∷ (closed_read cs ++ (content CARRIERS k ms ∷ [])))
      behind_carriers here
  pub counts : job ≡ counting n m (length cs) k 0
  pub few : k ≤ carrier_limit
  pub lanes_left_lem : lanes' ≡ filled (numbers_in ls) lane_numbers lanes
  pub closed_left : closed' ≡ filled (numbers_in cs) node_limit closed
  pub moves_left : moves' ≡ filled (numbers_in ms) move_numbers moves
  pub few_closed : length cs ≤ length closed'

abbrev pub up_to_order : (n m k p : ℕ) (none ls cs ms os : List (List ℕ)) → List Content
up_to_order n m k p none ls cs ms os =
    content NODES n none
    ∷ content LANES m ls
    ∷ (closed_read cs ++ (content CARRIERS k ms ∷ content ORDER p os ∷ []))

pub record OrderAt (text lanes lanes' closed closed' moves moves' order order' : List ℕ) (job : Job)
    (here : Cursor) : Type 0 where
  pub n : ℕ
  pub m : ℕ
  pub k : ℕ
  pub p : ℕ
  pub none : List (List ℕ)
  pub ls : List (List ℕ)
  pub cs : List (List ℕ)
  pub ms : List (List ℕ)
  pub os : List (List ℕ)
  pub stood : Stood text (up_to_order n m k p none ls cs ms os) behind_order here
  pub counts : job ≡ counting n m (length cs) k 0
  pub lanes_left_lem : lanes' ≡ filled (numbers_in ls) lane_numbers lanes
  pub closed_left : closed' ≡ filled (numbers_in cs) node_limit closed
  pub moves_left : moves' ≡ filled (numbers_in ms) move_numbers moves
  pub order_left : order' ≡ filled (numbers_in os) carrier_limit order
  pub few_closed : length cs ≤ length closed'

pub record DwellAt (text lanes lanes' closed closed' moves moves' order order' : List ℕ) (job : Job)
    (here : Cursor) : Type 0 where
  pub n : ℕ
  pub m : ℕ
  pub k : ℕ
  pub p : ℕ
  pub w : ℕ
  pub none : List (List ℕ)
  pub ls : List (List ℕ)
  pub cs : List (List ℕ)
  pub ms : List (List ℕ)
  pub os : List (List ℕ)
  pub stood : Stood text (job_sections n m k p w none ls cs ms os) [] here
  pub counts : job ≡ counting n m (length cs) k w
  pub lanes_left_lem : lanes' ≡ filled (numbers_in ls) lane_numbers lanes
  pub closed_left : closed' ≡ filled (numbers_in cs) node_limit closed
  pub moves_left : moves' ≡ filled (numbers_in ms) move_numbers moves
  pub order_left : order' ≡ filled (numbers_in os) carrier_limit order

-- ---- the section may be read

-- the closed nodes are in their table
pub in_table : (job : Job) (c : ℕ) (closed : List ℕ) → job.closed ≡ c → c ≤ length closed
    → job.closed ≤ length closed
in_table job c closed e h = omega arith

module _ (text : List ℕ) where
  unfoldable pub start-reads : (job : Job) (here : Cursor) → StartAt text job here
      → Ready text [] Nodes job here
  start-reads job here x = record {
    read = [];
    left = behind_nodes;
    asks = tt;
    few_closed = in_table job 0 [] (ap (λ (j : Job). j.closed) x.counts) (omega arith);
    stood = record {
      stand = start;
      reached = rw x.begin (at_start form.job_text text);
      whole = tt;
      is_read = refl;
      is_left = all_left form.job_text;
    };
  }

  unfoldable pub nodes-reads : (job : Job) (here : Cursor) → NodesAt text job here
      → Ready text [] (Listed Lanes) job here
  nodes-reads job here x = record {
    read = content NODES x.n x.none ∷ [];
    left = behind_lanes;
    asks = ap (λ (j : Job). j.nodes) x.counts ∙ sym (nodes_read x.n x.none []);
    few_closed = in_table job 0 [] (ap (λ (j : Job). j.closed) x.counts) (omega arith);
    stood = x.stood;
  }

  unfoldable pub lanes-reads : {lanes lanes' : List ℕ} (job : Job) (here : Cursor)
      → LanesAt text lanes lanes' job here
      → Ready text [] (Listed Closed) job here
  lanes-reads job here x =
      let more = content LANES x.m x.ls ∷ [] in
      record {
        read = content NODES x.n x.none ∷ more;
        left = behind_closed;
        asks = ap (λ (j : Job). j.nodes) x.counts ∙ sym (nodes_read x.n x.none more);
        few_closed = in_table job 0 [] (ap (λ (j : Job). j.closed) x.counts) (omega arith);
        stood = x.stood;
      }

  unfoldable pub closed-reads : {lanes lanes' closed closed' : List ℕ} (job : Job) (here : Cursor)
      → ClosedAt text lanes lanes' closed closed' job here
      → Ready text closed' (Listed Moves) job here
  closed-reads {closed' = closed'} job here x =
      let more = content LANES x.m x.ls ∷ closed_read x.cs in
      let shut = ap (λ (j : Job). j.closed) x.counts in
      record {
        read = content NODES x.n x.none ∷ more;
        left = behind_carriers;
        asks = (
          ap (λ (j : Job). j.nodes) x.counts ∙ sym (nodes_read x.n x.none more),
          ap (λ (c : ℕ). take c closed') shut ∙ x.closed_first
              ∙ sym (closed_read_lem x.n x.m x.none x.ls x.cs),
        );
        few_closed = in_table job (length x.cs) closed' shut x.few_closed;
        stood = x.stood;
      }

  unfoldable pub carriers-reads : {lanes lanes' closed closed' moves moves' : List ℕ} (job : Job)
      (here : Cursor)
      → CarriersAt text lanes lanes' closed closed' moves moves' job here
      → Ready text closed' (Listed Places) job here
  carriers-reads {closed' = closed'} job here x =
      let same : job.carriers ≡ x.k = ap (λ (j : Job). j.carriers) x.counts in
      record {
        read = content NODES x.n x.none ∷ content LANES x.m x.ls
            ∷ (closed_read x.cs ++ (content CARRIERS x.k x.ms ∷ []));
        left = behind_order;
        asks = (
          same ∙ sym (carriers_read x.n x.m x.k x.none x.ls x.cs x.ms []),
          rw same x.few,
        );
        few_closed =
            in_table job (length x.cs) closed' (ap (λ (j : Job). j.closed) x.counts) x.few_closed;
        stood = x.stood;
      }

  unfoldable pub order-reads : {lanes lanes' closed closed' moves moves' order order' : List ℕ} (job : Job)
      (here : Cursor)
      → OrderAt text lanes lanes' closed closed' moves moves' order order' job here
      → Ready text closed' Dwell job here
  order-reads {closed' = closed'} job here x = record {
    read = up_to_order x.n x.m x.k x.p x.none x.ls x.cs x.ms x.os;
    left = [];
    asks = tt;
    few_closed =
        in_table job (length x.cs) closed' (ap (λ (j : Job). j.closed) x.counts) x.few_closed;
    stood = x.stood;
  }

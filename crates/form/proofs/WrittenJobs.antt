-- What the text of a job without the faults of its listed checks says is without a fault, so that it is
-- accepted. The sections are put one behind the other from the last to the first, each by the checks of its
-- whole list; that of the closed nodes is passed over where nothing is closed, and that of the dwell where it
-- is 0. Assumes nothing but that the moves have two numbers each.
--     lanes_paired      lanes without the fault 2 go by twos
--     nodes_fit, lanes_few, closed_few    the counts of such a job are within their limits
--     small_lanes, small_closed, small_moves    its numbers have a written form
--     contents_sound    the contents of a job without faults are without a fault
--     written_sound     its text is their written form
use mathlib.Core.Path.{◌≡◌, refl, sym, ◌∙◌, subst}
use mathlib.Core.Logic.{inl, inr}
use mathlib.Core.List.{List, [], ◌∷◌, ◌++◌}
use Prim.Native.Nat.{ℕ, zero, suc, ◌+◌, ◌*◌, ◌/◌, ◌%◌, ◌≤◌, ◌<◌}
use native.Mathlib.Decide.{ℕ_discrete}
use native.Mathlib.Omega.{arith}
use lib.ListN.{length, get_or}
use Rattle.hall.specs.Limits.{node_limit, lane_limit, carrier_limit, dwell_limit}
use Rattle.hall.specs.Floor.{lanes_in, lower, higher}
use Rattle.hall.specs.Job.{Numbers, move_count, start_in, goal_in}
use Rattle.hall.specs.Job as job
use Rattle.hall.specs.Stages.{None, ClearAt}
use Rattle.hall.specs.Refusals.{LaneFault, no_node, ClosedFault, no_such_node, no_carrier}
use Rattle.hall.specs.Questions.{move_checks, order_checks, checks_question}
use Rattle.hall.proofs.Sound.{Denied, denied_checks, nodes_limit, carriers_limit, dwell_within, order_length}
use Rattle.form.specs.Lines.{Small}
use Rattle.form.specs.Sections.{Section, Form, Content, content, same_words, count_of, numbers_of}
use Rattle.form.specs.Sections.{CountFits, due}
use Rattle.form.specs.Words.{NODES, LANES, CLOSED, CARRIERS, ORDER}
use Rattle.form.specs.Contents.{first, Sound, over, stands}
use Rattle.form.specs.Texts.{WrittenForm}
use Rattle.form.specs.JobText.{nodes_section, lanes_section, closed_section, carriers_section}
use Rattle.form.specs.JobText.{order_section, dwell_section, job_text}
use Rattle.form.specs.Jobs.{pairs, singles, closed_contents, dwell_contents, contents_of, WrittenJob}
use Rattle.form.proofs.Checks.{lanes_steady, closed_steady, carriers_steady, order_steady}
use Rattle.form.proofs.Rows.{ByTwos, small_by, pairs_back, pairs_count, pairs_rows, singles_back}
use Rattle.form.proofs.Rows.{singles_count, singles_rows, whole_section}
use Rattle.form.proofs.FirstSections.{passed_over}

-- both numbers of each pair are small, so all are
pairs_small : (l : List ℕ) → ByTwos l
    → ((k : ℕ) → k < length l / 2 → (lower l k < 10000) × (higher l k < 10000)) → Small l
pairs_small l e h = small_by l (λ i b. cases i b (ℕ_discrete (i % 2) 0))
  where
    cases : (i : ℕ) → i < length l → Dec (i % 2 ≡ 0) → get_or l i 0 < 10000
    cases i b (yes z) = let q : 2 * (i / 2) ≡ i = omega arith in rw q at (h (i / 2) (omega arith)).0
    cases i b (no z) = let q : 2 * (i / 2) + 1 ≡ i = omega arith in rw q at (h (i / 2) (omega arith)).1

-- ends that are nodes of so many are small
node_small : (n a : ℕ) → n ≤ node_limit → ¬ (n ≤ a) → a < 10000
node_small n a few h = omega arith

-- ---- each section, before the others

module _ (read cs : List Content) (left : Form) where
  -- a section of one line
  line_sound : (s : Section) (n : ℕ) → n < 10000 → CountFits s.limits read n → 0 ≡ due s n
      → Sound (read ++ (content s.word n [] ∷ [])) left cs
      → Sound read (s ∷ left) (content s.word n [] ∷ cs)
  line_sound s n small fits alone rest =
      stands read (s ∷ left) left s n [] cs (first s left)
      (record { small = small; fits = fits; counted = alone; passes = tt }) rest

  lanes_sound : (l : List ℕ) → ByTwos l → Small l → lanes_in l ≤ lane_limit
      → ((k : ℕ) → k < lanes_in l → ¬ LaneFault (count_of NODES read) l k)
      → Sound (read ++ (content LANES (lanes_in l) (pairs l) ∷ [])) left cs
      → Sound read (lanes_section ∷ left) (content LANES (lanes_in l) (pairs l) ∷ cs)
  lanes_sound l e small few fine rest =
      let n = pairs_count l in
      stands read (lanes_section ∷ left) left lanes_section (lanes_in l) (pairs l) cs (first lanes_section left)
      (whole_section read lanes_section (lanes_in l) (pairs l) lanes_steady l (pairs_back l e)
      (pairs_rows l small) (omega arith) (omega arith, omega arith) n
      (λ k b. (fine k (omega arith), tt))) rest

  closed_sound : (l : List ℕ) → Small l → 1 ≤ length l → length l ≤ node_limit
      → ((k : ℕ) → k < length l → ¬ ClosedFault (count_of NODES read) l k)
      → Sound (read ++ (content CLOSED (length l) (singles l) ∷ [])) left cs
      → Sound read (closed_section ∷ left) (content CLOSED (length l) (singles l) ∷ cs)
  closed_sound l small some few fine rest =
      let n = singles_count l in
      stands read (closed_section ∷ left) left closed_section (length l) (singles l) cs (first closed_section left)
      (whole_section read closed_section (length l) (singles l) closed_steady l (singles_back l)
      (singles_rows l small) (omega arith) (some, few) n
      (λ k b. (fine k (omega arith), tt))) rest

  carriers_sound : (l : List ℕ) → ByTwos l → Small l → move_count l ≤ carrier_limit
      → ((i : ℕ) → i < move_count l → ClearAt (move_checks (count_of NODES read) (numbers_of CLOSED read) l) i)
      → Sound (read ++ (content CARRIERS (move_count l) (pairs l) ∷ [])) left cs
      → Sound read (carriers_section ∷ left) (content CARRIERS (move_count l) (pairs l) ∷ cs)
  carriers_sound l e small few fine rest =
      let n = pairs_count l in
      stands read (carriers_section ∷ left) left carriers_section (move_count l) (pairs l) cs (first carriers_section left)
      (whole_section read carriers_section (move_count l) (pairs l) carriers_steady l (pairs_back l e)
      (pairs_rows l small) (omega arith) (omega arith, omega arith) n
      (λ k b. fine k (omega arith))) rest

  order_sound : (l : List ℕ) → Small l → length l ≡ count_of CARRIERS read → length l ≤ carrier_limit
      → ((p : ℕ) → p < length l → ClearAt (order_checks (count_of CARRIERS read) l) p)
      → Sound (read ++ (content ORDER (length l) (singles l) ∷ [])) left cs
      → Sound read (order_section ∷ left) (content ORDER (length l) (singles l) ∷ cs)
  order_sound l small same few fine rest =
      let n = singles_count l in
      stands read (order_section ∷ left) left order_section (length l) (singles l) cs (first order_section left)
      (whole_section read order_section (length l) (singles l) order_steady l (singles_back l)
      (singles_rows l small) (omega arith) (omega arith, omega arith) n
      (λ p b. fine p (omega arith))) rest

dwell_sound : (read : List Content) (w : ℕ) → w ≤ dwell_limit → Sound read (dwell_section ∷ []) (dwell_contents w)
dwell_sound read zero few = passed_over dwell_section refl (over read [] tt)
dwell_sound read (suc w) few =
    line_sound read [] [] dwell_section (suc w) (omega arith) (omega arith, omega arith) refl (over _ [] tt)

-- ---- the whole

module _ (j : Numbers) (sound : None (checks_question j)) where
  facts : Denied j
  facts = denied_checks j sound

  pub lanes_paired : ByTwos j.network.lanes
  lanes_paired =
      let even : ¬ (length j.network.lanes % 2 ≡ 1) = λ e. facts.moves.network.lanes (inr e) in
      omega arith

  pub nodes_fit : (1 ≤ j.network.nodes) × (j.network.nodes ≤ node_limit)
  nodes_fit =
      let some : ¬ (j.network.nodes < 1) = λ e. facts.moves.network.nodes (inl e) in
      (omega arith, nodes_limit j sound)

  pub lanes_few : lanes_in j.network.lanes ≤ lane_limit
  lanes_few =
      let few : ¬ (lane_limit < length j.network.lanes / 2) = λ e. facts.moves.network.lanes (inl e) in
      omega arith

  pub closed_few : length j.network.closed ≤ node_limit
  closed_few =
      let few : ¬ (node_limit < length j.network.closed) = facts.moves.network.closed_count_lem in
      omega arith

  pub small_lanes : Small j.network.lanes
  small_lanes = pairs_small j.network.lanes lanes_paired (λ k b. (
    node_small j.network.nodes (lower j.network.lanes k) nodes_fit.1
        (λ y. facts.moves.network.lane k b (no_node (inl y))),
    node_small j.network.nodes (higher j.network.lanes k) nodes_fit.1
        (λ y. facts.moves.network.lane k b (no_node (inr y))),
  ))

  pub small_closed : Small j.network.closed
  small_closed = small_by j.network.closed (λ k b.
      node_small j.network.nodes (get_or j.network.closed k 0) nodes_fit.1
      (λ y. facts.moves.network.closed_node_lem k b (no_such_node y)))

  pub small_moves : ByTwos j.moves → Small j.moves
  small_moves paired = pairs_small j.moves paired (λ i b. (
    node_small j.network.nodes (start_in j.moves i) nodes_fit.1 (λ y. facts.moves.no_node i b (inl y)),
    node_small j.network.nodes (goal_in j.moves i) nodes_fit.1 (λ y. facts.moves.no_node i b (inr y)),
  ))

  small_order : Small j.order
  small_order = small_by j.order (λ p b.
      let few = carriers_limit j sound in
      let x : ¬ (job.carriers j ≤ get_or j.order p 0) = λ y. facts.bad_order p b (no_carrier y) in
      omega arith)

  module _ (paired : ByTwos j.moves) where
    -- from the carriers on, behind sections that say how many nodes there are and which are closed, and
    -- nothing of carriers
    carriers_on : (read : List Content) → count_of NODES read ≡ j.network.nodes
        → numbers_of CLOSED read ≡ j.network.closed
        → ((c : Content) → count_of CARRIERS (read ++ (c ∷ [])) ≡ count_of CARRIERS (c ∷ []))
        → Sound read (carriers_section ∷ order_section ∷ dwell_section ∷ [])
        (content CARRIERS (job.carriers j) (pairs j.moves)
        ∷ content ORDER (length j.order) (singles j.order)
        ∷ dwell_contents j.dwell)
    unfolding count_of same_words CARRIERS
    carriers_on read n c none =
        let counts : count_of CARRIERS (read ++ (content CARRIERS (job.carriers j) (pairs j.moves) ∷ []))
        ≡ job.carriers j = none (content CARRIERS (job.carriers j) (pairs j.moves)) in
        carriers_sound read _ _ j.moves paired (small_moves paired) (carriers_limit j sound)
        (λ i b. rw (n, c) (facts.moves.no_node i b, (facts.moves.same_ends i b, (facts.moves.closed_end i b, tt))))
        (order_sound _ _ _ j.order small_order (order_length j sound ∙ sym counts)
        (omega (arith, order_length j sound, carriers_limit j sound))
        (λ p b. rw counts (facts.bad_order p b, tt)) (dwell_sound _ j.dwell (dwell_within j sound)))

    closed_on : (l : List ℕ) → l ≡ j.network.closed
        → Sound
        (content NODES j.network.nodes []
        ∷ content LANES (lanes_in j.network.lanes) (pairs j.network.lanes)
        ∷ [])
        (closed_section ∷ carriers_section ∷ order_section ∷ dwell_section ∷ [])
        (closed_contents l
        ++ (content CARRIERS (job.carriers j) (pairs j.moves)
        ∷ content ORDER (length j.order) (singles j.order)
        ∷ dwell_contents j.dwell))
    unfolding count_of numbers_of same_words NODES LANES CLOSED CARRIERS
    closed_on [] e = passed_over closed_section refl (carriers_on _ refl e (λ c. refl))
    closed_on (v ∷ l) e =
        closed_sound _ _ _ (v ∷ l) (subst Small (sym e) small_closed) (omega arith)
        (subst (λ (x : List ℕ). length x ≤ node_limit) (sym e) closed_few)
        (subst (λ (x : List ℕ). (k : ℕ) → k < length x → ¬ ClosedFault j.network.nodes x k) (sym e)
        facts.moves.network.closed_node_lem)
        (carriers_on _ refl (singles_back (v ∷ l) ∙ e) (λ c. refl))

    pub contents_sound : Sound [] job_text (contents_of j)
    unfolding count_of same_words NODES LANES
    contents_sound =
        let few = nodes_fit.1 in
        line_sound [] _ _ nodes_section j.network.nodes (omega arith) nodes_fit refl
        (lanes_sound _ _ _ j.network.lanes lanes_paired small_lanes lanes_few facts.moves.network.lane
        (closed_on j.network.closed refl))

pub written_sound : (t : List ℕ) (j : Numbers) → WrittenJob t j → WrittenForm job_text t (contents_of j)
written_sound t j w = record { writes = w.writes; sound = contents_sound j w.sound w.paired }

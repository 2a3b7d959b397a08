-- The walk from its first sweep to its last. After n sweeps the label of a node is at most the length of each
-- walk of up to n lanes: a sweep lets labels fall along every lane between open nodes. A distance is below
-- the number of nodes, so after one sweep less than there are nodes no label falls any more, and one sweep
-- later the walk has ended: that bounds the sweeps, and is why the loop ends. At the end every lane is calm,
-- so no walk is shorter than the label at its end, and that label is the length of a walk; which is what the
-- hall's certificate asks for, `Labels`. Another walk has the same certificate to show. A closed node is in
-- no walk and has the mark. From a closed source there is no walk, so every label is a mark. Assumes nothing.
--     Walking            the row after some sweeps, and the lanes that the next one has to look at
--     walking_first      before the first sweep
--     walking_swept      a sweep
--     walking_done       after the last, and once what is not reached has the mark for "no walk"
use mathlib.Core.Path.{◌≡◌, refl, ◌∙◌}
use mathlib.Core.Logic.{◌⊎◌, inl, inr, ◌≢◌}
use mathlib.Core.Bool.{Bool, false, not}
use mathlib.Core.List.{List}
use Prim.Native.Nat.{ℕ, ◌+◌, ◌≤◌, ◌<◌}
use native.Mathlib.Decide.{dec_lt}
use native.Mathlib.Omega.{arith}
use lib.ListN.{length, get_or}
use Rattle.hall.specs.Limits.{no_walk_mark}
use Rattle.hall.specs.Floor.{Walk, here, step, Dist, NoWalk, DistanceIs, no_walk, Lane, Network, Open, floor, lanes_in, lower, higher}
use Rattle.hall.proofs.Walks.{reverse, begins_on_node, ends_on_node, lanes_symmetric}
use Rattle.hall.proofs.Pigeon.{dist_below}
use Rattle.hall.proofs.Decide.{node_below, open?, joined_or_not}
use Rattle.hall.proofs.Labels.{Labels, Before, labels_are}
use Rattle.walk.specs.Row.{RowServed, RowFilled}
use Rattle.walk.specs.Sweep.{unreached_mark, Settled, NearAt, Labelled, unreached, reached, shut, AllLabelled, Sweepable, Fell, LanesSwept}
use Rattle.walk.proofs.WalkBegun.{Unswept}
use Rattle.walk.proofs.WalkFalls.{labelled_bound}
use Rattle.walk.proofs.WalkSweep.{lanes_left_some}

pub record Walking (N : Network) (source : ℕ) (row₀ row : List ℕ) (sweeps : ℕ) (back : Bool) (todo : ℕ) : Type 0 where
  -- what is no node's is as it came
  pub size : length row ≡ length row₀
  pub beyond : (v : ℕ) → N.nodes ≤ v → get_or row v 0 ≡ get_or row₀ v 0
  -- each label is a mark or the length of some walk
  pub labelled : AllLabelled N source row
  -- and at most that of each walk of at most as many lanes as there were sweeps
  pub within : (v m : ℕ) → m ≤ sweeps → Walk (floor N) v source m → get_or row v 0 ≤ m
  -- the next sweep
  pub sweepable : Sweepable N.nodes N.lanes back todo row
  -- how many sweeps there were, and that one more is not too many if it has lanes
  pub few : sweeps ≤ N.nodes
  pub more : 0 < todo → sweeps < N.nodes

-- an open node has no label of a closed one
open_label : {N : Network} {source v label : ℕ} → Open N v → Labelled N source v label → label < no_walk_mark
open_label o (unreached o' e) = omega arith
open_label o (reached small w) = omega arith
open_label o (shut n e) = absurd (n o)

-- along a lane between open nodes, from the ends of the lanes of the list
near_lane : {N : Network} {source : ℕ} {row left : List ℕ} → AllLabelled N source row → ((k : ℕ) → k < lanes_in N.lanes → NearAt N.nodes N.lanes row left k)
    → (a b : ℕ) → Open N a → Open N b → Lane N.lanes a b → get_or left b 0 ≤ get_or row a 0 + 1
near_lane {N} {source} {row} {left} all near a b h i l = ends l.ends
  where
    open_a : get_or row a 0 < no_walk_mark
    open_a = open_label h (all a h.numbered)

    open_b : get_or row b 0 < no_walk_mark
    open_b = open_label i (all b i.numbered)

    ends : ((lower N.lanes l.k ≡ a) × (higher N.lanes l.k ≡ b)) ⊎ ((lower N.lanes l.k ≡ b) × (higher N.lanes l.k ≡ a))
        → get_or left b 0 ≤ get_or row a 0 + 1
    ends (inl e) = rw (e.0, e.1) at (near l.k l.inside (rw e.0 h.numbered) (rw e.1 i.numbered) (rw e.0 open_a) (rw e.1 open_b)).second
    ends (inr e) = rw (e.0, e.1) at (near l.k l.inside (rw e.0 i.numbered) (rw e.1 h.numbered) (rw e.0 open_b) (rw e.1 open_a)).first

-- ---- the beginning

module _ {N : Network} {source : ℕ} {row₀ row : List ℕ} (served : RowServed N source row₀) (start : Unswept N source row₀ row) where
  first_within : (v m : ℕ) → m ≤ 0 → Walk (floor N) v source m → get_or row v 0 ≤ m
  first_within v m h (here n) = omega (arith, start.source_zero n)
  first_within v m h (step n l w) = absurd (let z : ⊥ = omega arith in z)

  pub walking_first : Walking N source row row 0 false (lanes_in N.lanes)
  walking_first = record {
    size = refl;
    beyond = λ v h. refl;
    labelled = start.labelled;
    within = first_within;
    sweepable = record {
      wide = omega (arith, start.size, served.wide);
      few = omega arith;
      calm = λ k h i. absurd (let z : ⊥ = omega arith in z);
    };
    few = omega arith;
    more = λ h. omega (arith, served.numbered);
  }

-- ---- a sweep

module _ {N : Network} {source : ℕ} {row₀ row left : List ℕ} {sweeps : ℕ} {back : Bool} {todo next : ℕ}
    (w : Walking N source row₀ row sweeps back todo) (s : LanesSwept N.nodes N.lanes back row left next) where
  swept_within : (v m : ℕ) → m ≤ sweeps + 1 → Walk (floor N) v source m → get_or left v 0 ≤ m
  swept_within v m h (here n) = omega (arith, s.only.fallen v, w.within v 0 (omega arith) (here n))
  swept_within v m h (step {b = b} {n = m'} n l rest) =
      let near = near_lane w.labelled s.near b v (begins_on_node rest) n (lanes_symmetric N v b l) in
      omega (arith, near, w.within b m' (omega arith) rest)

  -- a label that fell was not that of a distance yet
  fell_early : Fell row left → sweeps + 1 < N.nodes
  fell_early f = on_node (dec_lt f.node N.nodes)
    where
      short : {r : ℕ} → Dist (floor N) source f.node r → Walk (floor N) source f.node (get_or left f.node 0) → sweeps + 1 < N.nodes
      short {r} d walk = cases (dec_lt (sweeps + 1) N.nodes)
        where
          cases : Dec (sweeps + 1 < N.nodes) → sweeps + 1 < N.nodes
          cases (yes h) = h
          cases (no h) =
              let below = dist_below N.nodes (node_below N) d in
              let already = w.within f.node r (omega arith) (reverse (lanes_symmetric N) d.walk) in
              absurd (let z : ⊥ = omega (arith, already, d.least (get_or left f.node 0) walk, f.less) in z)

      joined : ((r : ℕ) × Dist (floor N) source f.node r) ⊎ NoWalk (floor N) source f.node → Walk (floor N) source f.node (get_or left f.node 0) → sweeps + 1 < N.nodes
      joined (inl d) walk = short d.1 walk
      joined (inr none) walk = absurd (none (get_or left f.node 0) walk)

      fell_to : Labelled N source f.node (get_or left f.node 0) → Labelled N source f.node (get_or row f.node 0) → sweeps + 1 < N.nodes
      fell_to (unreached o e) old = absurd (let bound = open_label o old in let z : ⊥ = omega (arith, f.less) in z)
      fell_to (reached h walk) old = joined (joined_or_not N source f.node) walk
      fell_to (shut n e) old = absurd (let bound = labelled_bound old in let z : ⊥ = omega (arith, f.less) in z)

      on_node : Dec (f.node < N.nodes) → sweeps + 1 < N.nodes
      on_node (no h) = absurd (let z : ⊥ = omega (arith, s.only.beyond f.node (omega arith), f.less) in z)
      on_node (yes h) = fell_to (s.only.labelled N.closed source w.labelled f.node h) (w.labelled f.node h)

  pub walking_swept : 0 < todo → Walking N source row₀ left (sweeps + 1) (not back) next
  walking_swept going = record {
    size = s.only.size ∙ w.size;
    beyond = λ v h. s.only.beyond v h ∙ w.beyond v h;
    labelled = s.only.labelled N.closed source w.labelled;
    within = swept_within;
    sweepable = s.sweepable;
    few = omega (arith, w.more going);
    more = λ h. fell_early (s.fell h);
  }

-- ---- the end

module _ {N : Network} {source : ℕ} {row₋ row₀ row : List ℕ} {sweeps : ℕ} {back : Bool} {todo : ℕ} (served : RowServed N source row₋)
    (w : Walking N source row₀ row sweeps back todo) (all : todo ≡ 0) where
  abbrev label : ℕ → ℕ
  label v = get_or row v 0

  done_calm : (a b : ℕ) → Open N a → Open N b → Lane N.lanes a b → label b ≤ label a + 1
  done_calm = near_lane w.labelled (λ k h. w.sweepable.calm k h (rw all (lanes_left_some (lanes_in N.lanes) back k h)))

  done_source : Open N source → label source ≡ 0
  done_source o = omega (arith, w.within source 0 (omega arith) (here o))

  done_along : {a v m : ℕ} → Walk (floor N) a v m → label v ≤ label a + m
  done_along (here n) = omega arith
  done_along (step {a = a} {b = b} n l rest) = omega (arith, done_along rest, done_calm a b n (begins_on_node rest) l)

  done_walk : (v : ℕ) → v < N.nodes → label v < unreached_mark → Walk (floor N) source v (label v)
  done_walk v h f = cases (w.labelled v h)
    where
      cases : Labelled N source v (label v) → Walk (floor N) source v (label v)
      cases (unreached o e) = absurd (let z : ⊥ = omega arith in z)
      cases (reached small walk) = walk
      cases (shut n e) = absurd (let z : ⊥ = omega arith in z)

  done_dist : (v : ℕ) → v < N.nodes → label v < unreached_mark → Dist (floor N) source v (label v)
  done_dist v h f = let walk = done_walk v h f in record { walk = walk; least = λ n x. omega (arith, done_along x, done_source (begins_on_node walk)) }

  done_small : (v : ℕ) → v < N.nodes → label v < unreached_mark → label v ≤ 1023
  done_small v h f = omega (arith, dist_below N.nodes (node_below N) (done_dist v h f), served.few)

  -- once what is not reached has the mark for "no walk"
  module _ {left : List ℕ} (settled : Settled N.nodes row left) where
    abbrev last : ℕ → ℕ
    last v = get_or left v 0

    last_kept : (v : ℕ) → label v < unreached_mark → last v ≡ label v
    last_kept v f = settled.kept v (λ e. let z : ⊥ = omega arith in z)

    -- an open node without that mark is reached, and has its label still
    last_reached : (v : ℕ) → Open N v → last v ≢ no_walk_mark → (label v < unreached_mark) × (last v ≡ label v)
    last_reached v o f = cases (w.labelled v o.numbered)
      where
        cases : Labelled N source v (label v) → (label v < unreached_mark) × (last v ≡ label v)
        cases (unreached o' e) = absurd (f (settled.marked v o.numbered e))
        cases (reached small walk) = (small, last_kept v small)
        cases (shut n e) = absurd (n o)

    last_near : (a b : ℕ) → Open N a → Open N b → Lane N.lanes a b → last a ≢ no_walk_mark → (last b ≢ no_walk_mark) × (last b ≤ last a + 1)
    last_near a b h i l f =
        let at_a = last_reached a h f in
        let n = done_calm a b h i l in
        let small = done_small a h.numbered at_a.0 in
        let at_b = last_kept b (omega arith) in
        ((λ e. let z : ⊥ = omega arith in z), omega (arith, at_a.1))

    last_small : (v : ℕ) → Open N v → last v ≢ no_walk_mark → last v ≤ 1023
    last_small v h f = let at_v = last_reached v h f in omega (arith, done_small v h.numbered at_v.0, at_v.1)

    -- the node before the last of a walk that is as long as the label
    before_last : {u v n : ℕ} → Walk (floor N) v u n → u ≡ source → label v ≡ n → label v < unreached_mark → (v ≡ source) ⊎ Before (floor N) last v
    before_last (here x) e long small = inl e
    before_last {v = v} (step {b = b} {n = n} x l rest) e long small =
        let lane = lanes_symmetric N v b l in
        let stands = begins_on_node rest in
        let back = reverse (lanes_symmetric N) (rw e at rest) in
        let near = done_calm b v stands x lane in
        let most = done_along back in
        let zero = done_source (begins_on_node back) in
        let less : label b + 1 ≡ label v = omega (arith, near, most, zero, long) in
        inr (record { node = b; is_node = stands; lane = lane; less = omega (arith, less, last_kept b (omega arith), last_kept v small) })

    last_back : (v : ℕ) → Open N v → last v ≢ no_walk_mark → (v ≡ source) ⊎ Before (floor N) last v
    last_back v h f =
        let at_v = last_reached v h f in
        before_last (reverse (lanes_symmetric N) (done_walk v h.numbered at_v.0)) refl refl at_v.0

    last_source : Open N source → last source ≡ 0
    last_source o = let e = done_source o in omega (arith, last_kept source (omega arith))

    -- the certificate: whatever walk is put in this one's place has this to show
    last_labels : Open N source → Labels (floor N) source last
    last_labels o = record { on_node = o; source = last_source o; near = last_near; small = last_small; back = last_back }

    -- without a walk there is no label but the marks, and the one goes over into the other
    last_none : (v : ℕ) → v < N.nodes → NoWalk (floor N) source v → last v ≡ no_walk_mark
    last_none v h none = cases (w.labelled v h)
      where
        cases : Labelled N source v (label v) → last v ≡ no_walk_mark
        cases (unreached o e) = settled.marked v h e
        cases (reached small walk) = absurd (none (label v) walk)
        cases (shut n e) = settled.kept v (λ f. let z : ⊥ = omega arith in z) ∙ e

    last_holds : (v : ℕ) → v < N.nodes → Dec (Open N source) → Dec (Open N v) → DistanceIs (floor N) source v (last v)
    last_holds v h (yes s) (yes o) = labels_are (last_labels s) v o
    last_holds v h (no s) d = let none : NoWalk (floor N) source v = λ n walk. s (begins_on_node walk) in no_walk (last_none v h none) none
    last_holds v h (yes s) (no o) = let none : NoWalk (floor N) source v = λ n walk. o (ends_on_node walk) in no_walk (last_none v h none) none

    pub walking_done : Unswept N source row₋ row₀ → RowFilled N source row₋ left
    walking_done start = record {
      size = settled.size ∙ w.size ∙ start.size;
      holds = λ v h. last_holds v h (open? N source) (open? N v);
      beyond = λ v h. settled.beyond v h ∙ w.beyond v h ∙ start.beyond v h;
    }

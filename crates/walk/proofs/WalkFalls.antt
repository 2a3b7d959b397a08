-- Labels fall, and nothing else changes: what a look at a lane keeps, and so a round and a sweep. A label
-- that falls is the length of a walk, since the lane goes on from the end of one. Assumes nothing.
--     labelled_bound      a label is no more than the mark of a closed node
--     lowered             the row once one end of a lane lets the label of the other fall
--     lowered_new         the label there
--     lowered_fallen      no label rises
--     lowered_calm        the lane lets none fall any more
--     only_fell_none      labels only fell where nothing changes
--     only_fell_then      and where they only fell, and then again
--     only_fell_lowered   and where one end of a lane lets the label of the other fall
--     lane_up, lane_down  a lane of the list from its first number to its second, and back
--     only_fell_look      and at a look at a lane
use mathlib.Core.Path.{◌≡◌, refl, ◌∙◌, ap}
use mathlib.Core.Logic.{inl, inr, ◌≢◌}
use mathlib.Core.Bool.{Bool}
use mathlib.Core.List.{List}
use Prim.Native.Nat.{ℕ, ◌+◌, ◌≤◌, ◌<◌}
use native.Mathlib.Nat.{le_refl, le_trans}
use native.Mathlib.Decide.{ℕ_discrete}
use native.Mathlib.Numerals.{add-one}
use native.Mathlib.Omega.{arith}
use lib.ListN.{length, get_or, set, length-set}
use lib.Seq.{get_or-set_same, get_or-set_other}
use Rattle.hall.specs.Limits.{no_walk_mark}
use Rattle.hall.specs.Floor.{Lane, Network, network_of, Open, lanes_in, lower, higher}
use Rattle.hall.proofs.Walks.{snoc, ends_on_node}
use Rattle.walk.specs.Sweep.{Near, Looked, kept, second_fell, first_fell, Labelled, unreached, reached, shut, AllLabelled, OnlyFell}

-- ---- labels

-- what holds at the changed place, and at every other
at_set : (P : ℕ → ℕ → Type 0) (row : List ℕ) (b w : ℕ) → b < length row → P b w → ((v : ℕ) → P v (get_or row v 0)) → (v : ℕ) → P v (get_or (set row b w) v 0)
at_set P row b w h p q v = cases (ℕ_discrete v b)
  where
    cases : Dec (v ≡ b) → P v (get_or (set row b w) v 0)
    cases (yes e) = rw (e, get_or-set_same row b w 0 h) p
    cases (no e) = rw (get_or-set_other row b v w 0 e) (q v)

-- a label is no more than the mark of a closed node
pub labelled_bound : {N : Network} {source v label : ℕ} → Labelled N source v label → label ≤ no_walk_mark
labelled_bound (unreached o e) = omega arith
labelled_bound (reached h w) = omega arith
labelled_bound (shut n e) = omega arith

-- a node is open where its label is below that mark
labelled_open : {N : Network} {source v label : ℕ} → Labelled N source v label → label < no_walk_mark → Open N v
labelled_open (unreached o e) h = o
labelled_open (reached small w) h = ends_on_node w
labelled_open (shut n e) h = absurd (let z : ⊥ = omega arith in z)

-- a walk to a, and a lane on to b, whose label is not that of a closed node
labelled_on : {N : Network} {source a b x y : ℕ} → Lane N.lanes a b → x + 1 < y → y < no_walk_mark → Labelled N source a x → Labelled N source b y → Labelled N source b (x + 1)
labelled_on l less below (unreached o e) to = absurd (let z : ⊥ = omega arith in z)
labelled_on l less below (reached small w) to = reached (omega arith) (rw add-one (snoc w l (labelled_open to below)))
labelled_on l less below (shut n e) to = absurd (let z : ⊥ = omega arith in z)

-- ---- one label falls

-- one end of a lane, a, lets the label of the other, b, fall
abbrev pub lowered : List ℕ → ℕ → ℕ → List ℕ
lowered row a b = set row b (get_or row a 0 + 1)

module _ (nodes : ℕ) (row : List ℕ) (wide : nodes ≤ length row) (a b : ℕ) (is_node : b < nodes) (less : get_or row a 0 + 1 < get_or row b 0) where
  inside : b < length row
  inside = omega arith

  pub lowered_new : get_or (lowered row a b) b 0 ≡ get_or row a 0 + 1
  lowered_new = get_or-set_same row b (get_or row a 0 + 1) 0 inside

  lowered_other : (v : ℕ) → v ≢ b → get_or (lowered row a b) v 0 ≡ get_or row v 0
  lowered_other v h = get_or-set_other row b v (get_or row a 0 + 1) 0 h

  ends_differ : a ≢ b
  ends_differ e = let x : get_or row a 0 ≡ get_or row b 0 = ap (λ (v : ℕ). get_or row v 0) e in let z : ⊥ = omega arith in z

  pub lowered_fallen : (v : ℕ) → get_or (lowered row a b) v 0 ≤ get_or row v 0
  lowered_fallen = at_set (λ v x. x ≤ get_or row v 0) row b (get_or row a 0 + 1) inside (omega arith) (λ v. le_refl (get_or row v 0))

  lowered_beyond : (v : ℕ) → nodes ≤ v → get_or (lowered row a b) v 0 ≡ get_or row v 0
  lowered_beyond v h = lowered_other v (λ e. let z : ⊥ = omega arith in z)

  lowered_labelled : (lanes closed : List ℕ) (source : ℕ) → a < nodes → Lane lanes a b → get_or row b 0 < no_walk_mark → AllLabelled (network_of nodes lanes closed) source row
      → AllLabelled (network_of nodes lanes closed) source (lowered row a b)
  lowered_labelled lanes closed source h l below all =
      at_set (λ v x. v < nodes → Labelled (network_of nodes lanes closed) source v x) row b (get_or row a 0 + 1) inside (λ _. labelled_on l less below (all a h) (all b is_node)) all

  pub lowered_calm : Near (lowered row a b) (lowered row a b) a b
  lowered_calm = let x = lowered_other a ends_differ in let y = lowered_new in record { second = omega arith; first = omega arith }

-- ---- only labels fall

pub only_fell_none : {nodes : ℕ} {lanes row : List ℕ} → OnlyFell nodes lanes row row
only_fell_none {row = row} = record { size = refl; beyond = λ v h. refl; labelled = λ closed source all. all; fallen = λ v. le_refl (get_or row v 0) }

pub only_fell_then : {nodes : ℕ} {lanes row now left : List ℕ} → OnlyFell nodes lanes row now → OnlyFell nodes lanes now left → OnlyFell nodes lanes row left
only_fell_then f g = record {
  size = g.size ∙ f.size;
  beyond = λ v h. g.beyond v h ∙ f.beyond v h;
  labelled = λ closed source all. g.labelled closed source (f.labelled closed source all);
  fallen = λ v. le_trans (g.fallen v) (f.fallen v);
}

pub only_fell_lowered : {nodes : ℕ} {lanes row : List ℕ} → nodes ≤ length row → (a b : ℕ) → a < nodes → b < nodes → Lane lanes a b → get_or row a 0 + 1 < get_or row b 0 → get_or row b 0 < no_walk_mark
    → OnlyFell nodes lanes row (lowered row a b)
only_fell_lowered {nodes} {lanes} {row} wide a b a-node b-node lane less below = record {
  size = length-set row b (get_or row a 0 + 1);
  beyond = lowered_beyond nodes row wide a b b-node less;
  labelled = λ closed source. lowered_labelled nodes row wide a b b-node less lanes closed source a-node lane below;
  fallen = lowered_fallen nodes row wide a b b-node less;
}

pub lane_up : (lanes : List ℕ) (k : ℕ) → k < lanes_in lanes → Lane lanes (lower lanes k) (higher lanes k)
lane_up lanes k h = record { k = k; inside = h; ends = inl (refl, refl) }

pub lane_down : (lanes : List ℕ) (k : ℕ) → k < lanes_in lanes → Lane lanes (higher lanes k) (lower lanes k)
lane_down lanes k h = record { k = k; inside = h; ends = inr (refl, refl) }

pub only_fell_look : {nodes : ℕ} {lanes row left : List ℕ} {r : Bool} → nodes ≤ length row → (k : ℕ) → k < lanes_in lanes → Looked nodes (lower lanes k) (higher lanes k) row left r → OnlyFell nodes lanes row left
only_fell_look wide k h (kept calm e) = rw e only_fell_none
only_fell_look {lanes = lanes} wide k h (second_fell i j less below e) = rw e (only_fell_lowered wide (lower lanes k) (higher lanes k) i j (lane_up lanes k h) less below)
only_fell_look {lanes = lanes} wide k h (first_fell i j less below e) = rw e (only_fell_lowered wide (higher lanes k) (lower lanes k) j i (lane_down lanes k h) less below)

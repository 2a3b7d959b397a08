-- Computed tests of a network by itself and of a single move on it (rule 8.24, without 9): 2, 3, 12, 4, 5 and
-- 13, and 8 by labels. The labels from every open node are guessed and tested to be the distances; where they
-- are, whether a number is the distance of two nodes is a computed question, and so is whether a walk is
-- missing. Assumes nothing.
--     label N s v     the number guessed for the distance from s to v
--     Rows N          the labels from each open node of the network are its distances
--     Told            s and g are open, and the label is the number d and not the mark: d is their distance
use mathlib.Core.Path.{◌≡◌, subst}
use mathlib.Core.Logic.{◌≢◌}
use mathlib.Core.List.{[], ◌∷◌}
use Prim.Native.Nat.{ℕ, ◌<◌}
use native.Mathlib.Omega.{arith}
use lib.ListN.{length, get_or}
use Rattle.hall.specs.declared.Fault.TheVariants.{Unreachable}
use Rattle.hall.specs.Limits.{no_walk_mark}
use Rattle.hall.specs.Floor.{Dist, NoWalk, DistanceIs, no_walk, distance, Network, Open, floor}
use Rattle.hall.specs.Stages.{Stage, asked, only_at}
use Rattle.hall.specs.Questions.{ends, network_question, move_ends, move_question}
use Rattle.hall.proofs.Walks.{begins_on_node, ends_on_node, dist_unique, true_distance}
use Rattle.hall.proofs.Labels.{Labels, labels_are}
use Rattle.hall.proofs.Test.{Test, le?, eq?, not?, ◌and?◌, ◌or?◌, ◌implies?◌, map?, all?}
use Rattle.hall.proofs.StageTests.{ChecksAt, TestedAll, once?, both?}
use Rattle.hall.proofs.FaultTests.{nodes-count?, lanes-count?, closed-count?, each-lane?, each-closed?}
use Rattle.hall.proofs.FloorTests.{closed?, open?, guess, labels?, no_walk_is, is_no_walk}

-- ---- 2, 3, 12, 4, 5 and 13

abbrev pub network? : (N : Network) → TestedAll (network_question N)
network? N = (
  nodes-count? N.nodes,
  (
    lanes-count? (length N.lanes),
    (
      closed-count? (length N.closed),
      (each-lane? N.nodes N.lanes, (each-closed? N.nodes N.closed, tt)),
    ),
  ),
)

-- the checks of a stage at one place
abbrev pub only? : (i : ℕ) (s : Stage) → ChecksAt s i → TestedAll (only_at i s)
only? i [] t = tt
only? i (c ∷ s) t = (once? {n = c.number} {i = i} {P = c.At i} t.0, only? i s t.1)

module _ (N : Network) where
  abbrev pub ends? : (s g : ℕ) → ChecksAt (ends N.nodes N.closed (λ i. s) (λ i. g)) 0
  ends? s g = (
    le? N.nodes s or? le? N.nodes g,
    (eq? s g, (closed? N.closed s or? closed? N.closed g, tt)),
  )

  abbrev pub move-ends? : (s g : ℕ) → TestedAll (move_ends N s g)
  move-ends? s g =
      let stage = ends N.nodes N.closed (λ i. s) (λ i. g) in
      both? (network_question N) (only_at 0 stage) (network? N) (only? 0 stage (ends? s g))

  -- ---- distances

  abbrev pub label : ℕ → ℕ → ℕ
  label s v = get_or (guess N s) v no_walk_mark

  abbrev pub Rows : Type 0
  Rows = (s : ℕ) → Open N s → Labels (floor N) s (label s)

  abbrev pub rows? : Test Rows
  rows? =
      map? {A = (s : ℕ) → s < N.nodes → Open N s → Labels (floor N) s (label s)}
      (λ h s o. h s o.numbered o) (λ h s l o. h s o)
      (all? (λ s. open? N s implies? labels? N s (label s)) N.nodes)

  module _ (rows : Rows) where
    pub distance_is : (s g : ℕ) → Open N s → Open N g → DistanceIs (floor N) s g (label s g)
    distance_is s g o p = labels_are (rows s o) g p

    abbrev pub no-walk? : (s g : ℕ) → Test (NoWalk (floor N) s g)
    no-walk? s g =
        map? (no_walk_is N s g (label s g) (distance_is s g)) (is_no_walk N s g (label s g) (distance_is s g))
        (not? (open? N s) or? not? (open? N g) or? eq? (label s g) no_walk_mark)

    -- ---- 8 too

    abbrev pub move? : (s g : ℕ) → TestedAll (move_question N s g)
    move? s g =
        both? (move_ends N s g) (asked Unreachable 0 (NoWalk (floor N) s g) ∷ []) (move-ends? s g) (once? (no-walk? s g), tt)

    -- ---- whether a number is a distance

    module _ (s g d : ℕ) where
      abbrev pub Told : Type 0
      Told = (Open N s × Open N g) × ((label s g ≡ d) × (label s g ≢ no_walk_mark))

      pub told_dist : Told → Dist (floor N) s g d
      told_dist h =
          subst (Dist (floor N) s g) h.1.0 (true_distance (distance_is s g h.0.0 h.0.1) h.1.1)

      pub dist_told : Dist (floor N) s g d → Told
      dist_told h = (ends, cases (distance_is s g ends.0 ends.1))
        where
          ends : Open N s × Open N g
          ends = (begins_on_node h.walk, ends_on_node h.walk)

          cases : DistanceIs (floor N) s g (label s g) → (label s g ≡ d) × (label s g ≢ no_walk_mark)
          cases (no_walk e none) = absurd (none d h.walk)
          cases (distance small k) = (dist_unique k h, λ e. omega arith)

      abbrev pub dist? : Test (Dist (floor N) s g d)
      dist? =
          map? told_dist dist_told
          ((open? N s and? open? N g) and? (eq? (label s g) d and? not? (eq? (label s g) no_walk_mark)))

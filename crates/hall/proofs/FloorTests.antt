-- Computed tests of labels on the floor of a network, and labels to test. The labels are guessed by sweeping
-- the lanes between open nodes once for each node; nothing is proved of the guess, since labels that pass are
-- the distances (`labels_are`). Assumes nothing.
use mathlib.Core.Path.{◌≡◌}
use mathlib.Core.Logic.{◌⊎◌, inl, inr, ◌≢◌}
use mathlib.Core.List.{List, [], ◌∷◌}
use mathlib.Core.Bool.{cond}
use Prim.Native.Nat.{ℕ, zero, suc, ◌+◌, ◌≤◌, ◌<◌, min}
use native.Mathlib.Omega.{arith}
use lib.ListN.{length, get_or, set, replicate}
use Rattle.hall.specs.Floor.{NoWalk, DistanceIs, no_walk, distance, lanes_in, lower, higher, Lane}
use Rattle.hall.specs.Floor.{Network, Closed, Open, floor}
use Rattle.hall.proofs.Walks.{begins_on_node, ends_on_node}
use Rattle.hall.proofs.Labels.{Before, Labels}
use Rattle.hall.proofs.Test.{Test, dec, Some, le?, lt?, eq?, not?, ◌and?◌, ◌or?◌, ◌implies?◌, map?, all?, any?}

-- ---- open nodes

abbrev pub closed? : (closed : List ℕ) (v : ℕ) → Test (Closed closed v)
closed? closed v =
    map? {A = Some (λ k. get_or closed k 0 ≡ v) (length closed)}
    (λ h. record { k = h.k; inside = h.below; is = h.is }) (λ c. record { k = c.k; below = c.inside; is = c.is })
    (any? (λ k. eq? (get_or closed k 0) v) (length closed))

abbrev pub open? : (N : Network) (v : ℕ) → Test (Open N v)
open? N v =
    map? {A = (v < N.nodes) × (¬ Closed N.closed v)}
    (λ h. record { numbered = h.0; not_closed = h.1 }) (λ o. (o.numbered, o.not_closed))
    (lt? v N.nodes and? not? (closed? N.closed v))

-- ---- the guess

abbrev pub open_lanes : (closed lanes : List ℕ) → List ℕ
open_lanes closed [] = []
open_lanes closed (a ∷ []) = []
open_lanes closed (a ∷ b ∷ rest) =
    cond (closed? closed a).pass (open_lanes closed rest)
    (cond (closed? closed b).pass (open_lanes closed rest) (a ∷ b ∷ open_lanes closed rest))

abbrev pub sweep : List ℕ → List ℕ → List ℕ
sweep [] l = l
sweep (a ∷ []) l = l
sweep (a ∷ b ∷ rest) l =
    let l₁ : List ℕ = set l b (min (get_or l b 65535) (get_or l a 65535 + 1)) in
    sweep rest (set l₁ a (min (get_or l₁ a 65535) (get_or l₁ b 65535 + 1)))

abbrev pub sweeps : ℕ → List ℕ → List ℕ → List ℕ
sweeps zero lanes l = l
sweeps (suc n) lanes l = sweeps n lanes (sweep lanes l)

abbrev pub guess : (N : Network) (s : ℕ) → List ℕ
guess N s = sweeps N.nodes (open_lanes N.closed N.lanes) (set (replicate N.nodes 65535) s 0)

-- ---- the tests

abbrev pub Ends : (lanes : List ℕ) (a b k : ℕ) → Type 0
Ends lanes a b k = ((lower lanes k ≡ a) × (higher lanes k ≡ b)) ⊎ ((lower lanes k ≡ b) × (higher lanes k ≡ a))

abbrev pub lane? : (lanes : List ℕ) (a b : ℕ) → Test (Lane lanes a b)
lane? lanes a b =
    map? {A = Some (Ends lanes a b) (lanes_in lanes)} (λ h. record { k = h.k; inside = h.below; ends = h.is }) (λ l. record { k = l.k; below = l.inside; is = l.ends })
    (any? (λ k. (eq? (lower lanes k) a and? eq? (higher lanes k) b) or? (eq? (lower lanes k) b and? eq? (higher lanes k) a)) (lanes_in lanes))

module _ (N : Network) (s : ℕ) (label : ℕ → ℕ) where
  abbrev pub before? : (v : ℕ) → Test (Before (floor N) label v)
  before? v =
      map? {A = Some (λ u. Open N u × (Lane N.lanes u v × (label u + 1 ≡ label v))) N.nodes}
      (λ h. record { node = h.k; is_node = h.is.0; lane = h.is.1.0; less = h.is.1.1 }) (λ b. record { k = b.node; below = b.is_node.numbered; is = (b.is_node, (b.lane, b.less)) })
      (any? (λ u. open? N u and? lane? N.lanes u v and? eq? (label u + 1) (label v)) N.nodes)

  abbrev pub Near : ℕ → ℕ → Type 0
  Near a b = Lane N.lanes a b → label a ≢ 65535 → (label b ≢ 65535) × (label b ≤ label a + 1)

  abbrev pub near? : (a b : ℕ) → Test (Near a b)
  near? a b = lane? N.lanes a b implies? not? (eq? (label a) 65535) implies? (not? (eq? (label b) 65535) and? le? (label b) (label a + 1))

  abbrev pub Labelled-node : ℕ → Type 0
  Labelled-node v = label v ≢ 65535 → (label v ≤ 1023) × ((v ≡ s) ⊎ Before (floor N) label v)

  abbrev pub labels? : Test (Labels (floor N) s label)
  labels? =
      map? {A = Open N s × ((label s ≡ 0) × (((a : ℕ) → a < N.nodes → Open N a → (b : ℕ) → b < N.nodes → Open N b → Near a b) × ((v : ℕ) → v < N.nodes → Open N v → Labelled-node v)))}
      (λ h. record { on_node = h.0; source = h.1.0; near = λ a b l m. h.1.1.0 a l.numbered l b m.numbered m; small = λ v l m. (h.1.1.1 v l.numbered l m).0; back = λ v l m. (h.1.1.1 v l.numbered l m).1 })
      (λ l. (l.on_node, (l.source, ((λ a x h b y m. l.near a b h m), λ v x h m. (l.small v h m, l.back v h m)))))
      (open? N s and? eq? (label s) 0 and? all? (λ a. open? N a implies? all? (λ b. open? N b implies? near? a b) N.nodes) N.nodes and? all? (λ v. open? N v implies? not? (eq? (label v) 65535) implies? (le? (label v) 1023 and? (eq? v s or? before? v))) N.nodes)

-- ---- no walk

module _ (N : Network) (s g r : ℕ) (is : Open N s → Open N g → DistanceIs (floor N) s g r) where
  no_walk_if : DistanceIs (floor N) s g r → r ≡ 65535 → NoWalk (floor N) s g
  no_walk_if (no_walk e f) x = f
  no_walk_if (distance small d) x = absurd (let y : ⊥ = omega arith in y)

  mark_if : DistanceIs (floor N) s g r → NoWalk (floor N) s g → r ≡ 65535
  mark_if (no_walk e f) x = e
  mark_if (distance small d) x = absurd (x r d.walk)

  pub no_walk_is : (¬ Open N s) ⊎ ((¬ Open N g) ⊎ (r ≡ 65535)) → NoWalk (floor N) s g
  no_walk_is (inl h) k w = h (begins_on_node w)
  no_walk_is (inr (inl h)) k w = h (ends_on_node w)
  no_walk_is (inr (inr e)) k w = no_walk_if (is (begins_on_node w) (ends_on_node w)) e k w

  pub is_no_walk : NoWalk (floor N) s g → (¬ Open N s) ⊎ ((¬ Open N g) ⊎ (r ≡ 65535))
  is_no_walk f = cases (dec (open? N s)) (dec (open? N g))
    where
      cases : Dec (Open N s) → Dec (Open N g) → (¬ Open N s) ⊎ ((¬ Open N g) ⊎ (r ≡ 65535))
      cases (no h) d = inl h
      cases (yes h) (no l) = inr (inl l)
      cases (yes h) (yes l) = inr (inr (mark_if (is h l) f))

-- A certificate: labels that are the distances from a source. It names no search, so that whatever finds the
-- labels has these five facts to show and nothing else. Along a walk the label rises by one a lane at the
-- most, so no walk is shorter than the label; going back from node to node, each label one less, gives a walk
-- as long as the label. Assumes nothing.
--     Before     a labelled node from which a lane goes to v, labelled one less
--     Labels     the certificate; 65,535 marks what no walk reaches
use mathlib.Core.Path.{◌≡◌}
use mathlib.Core.Logic.{◌⊎◌, inl, inr, ◌≢◌}
use Prim.Native.Nat.{ℕ, zero, suc, ◌+◌, ◌≤◌, ◌<◌}
use native.Mathlib.Nat.{not-suc-le-zero, le_refl}
use native.Mathlib.Decide.{ℕ_discrete}
use native.Mathlib.Omega.{arith}
use Rattle.hall.specs.Floor.{Floor, Walk, here, step, DistanceIs, no_walk, distance}
use Rattle.hall.proofs.Walks.{snoc, begins_on_node}

pub record Before (F : Floor) (label : ℕ → ℕ) (v : ℕ) : Type 0 where
  pub node : ℕ
  pub is_node : F.Node node
  pub lane : F.Joined node v
  pub less : label node + 1 ≡ label v

pub record Labels (F : Floor) (s : ℕ) (label : ℕ → ℕ) : Type 0 where
  -- the source is a node, and is labelled 0
  pub on_node : F.Node s
  pub source : label s ≡ 0
  -- along a lane a labelled node leads to a labelled one, at most one further
  pub near : (a b : ℕ) → F.Node a → F.Node b → F.Joined a b → label a ≢ 65535 → (label b ≢ 65535) × (label b ≤ label a + 1)
  -- a label is a distance or the mark
  pub small : (v : ℕ) → F.Node v → label v ≢ 65535 → label v ≤ 1023
  -- each labelled node but the source has one before it
  pub back : (v : ℕ) → F.Node v → label v ≢ 65535 → (v ≡ s) ⊎ Before F label v

module _ {F : Floor} {s : ℕ} {label : ℕ → ℕ} (l : Labels F s label) where
  label_below : {a b n : ℕ} → Walk F a b n → label a ≢ 65535 → (label b ≢ 65535) × (label b ≤ label a + n)
  label_below (here n) h = (h, omega arith)
  label_below (step {a = a} {b = b} n e w) h =
      let r = l.near a b n (begins_on_node w) e h in
      let q = label_below w r.0 in
      (q.0, omega arith)

  at_source : (v : ℕ) → v ≡ s → Walk F s v (label v)
  at_source v e = rw (e, l.source) (here l.on_node)

  -- k bounds the label
  walk_back : (k v : ℕ) → F.Node v → label v < k → label v ≢ 65535 → Walk F s v (label v)
  walk_back zero v n h f = absurd (not-suc-le-zero h)
  walk_back (suc k) v n h f = cases (walk_back k) (l.back v n f)
    where
      cases : ((u : ℕ) → F.Node u → label u < k → label u ≢ 65535 → Walk F s u (label u)) → (v ≡ s) ⊎ Before F label v → Walk F s v (label v)
      cases shorter (inl e) = at_source v e
      cases shorter (inr b) =
          let e : suc (label b.node) ≡ label v = omega (arith, b.less) in
          rw (← e) (snoc (shorter b.node b.is_node (omega arith) (omega (arith, l.small v n f))) b.lane n)

  pub labels_are : (v : ℕ) → F.Node v → DistanceIs F s v (label v)
  labels_are v n = cases (ℕ_discrete (label v) 65535)
    where
      source_labelled : label s ≢ 65535
      source_labelled e = omega (arith, l.source)

      cases : Dec (label v ≡ 65535) → DistanceIs F s v (label v)
      cases (yes e) = no_walk e (λ k w. (label_below w source_labelled).0 e)
      cases (no e) = distance (l.small v n e) (record {
        walk = walk_back (suc (label v)) v n (le_refl (suc (label v))) e;
        least = λ k w. let r = label_below w source_labelled in omega (arith, l.source);
      })

-- Pair safety (source document 000, Theorem 5, "⇐"; with dwell, request k), once over every dwell w from 0
-- up: at a permitted difference no two shortest paths of the two carriers meet or cross. Carriers that meet
-- have gone a and b lanes and stood at most w ticks each, so D is at most w away from where it would be had
-- both gone on, and the stretch is wider by that. Carriers that cross go along a lane both, and one that goes
-- has not stood yet, so D is in the stretch of carriers that do not wait, and at none of its ends. Assumes
-- nothing.
--     Steps        a carrier goes along a lane from a tick to the next
--     meet_at, cross_at    where two paths share a node, or exchange two, at one tick, D is forbidden
use mathlib.Core.Path.{◌≡◌, sym, ◌∙◌, ap}
use mathlib.Core.Logic.{◌⊎◌, inl, inr, ◌≢◌}
use mathlib.Core.List.{List}
use Prim.Native.Nat.{ℕ, ◌+◌, ◌-◌, ◌≤◌}
use native.Mathlib.Decide.{ℕ_discrete}
use native.Mathlib.Omega.{arith}
use lib.ListN.{length, get_or}
use lib.IntN.{pos, ◌-ℤ◌}
use Rattle.hall.specs.Floor.{Floor, Symmetric, Walk, DistanceIs, no_walk, distance}
use Rattle.hall.specs.Rule.{Pair, Permitted, Forbidden⁺}
use Rattle.hall.specs.Path.{PathOf, At, Meet, Cross}
use Rattle.hall.specs.Plan.{DistancesOf}
use Rattle.hall.proofs.Walks.{join, reverse}
use Rattle.hall.proofs.Paths.{from_start, to_goal}
use Rattle.hall.proofs.Rules.{forbidden_iff}

-- a walk bounds the number that stands for the distance, and shows that it is a distance
pub bounded : {F : Floor} {a b r n : ℕ} → DistanceIs F a b r → Walk F a b n → (r ≤ n) × (r ≢ 65535)
bounded {n = n} (no_walk e none) w = absurd (none n w)
bounded {n = n} (distance small d) w = (d.least n w, omega arith)

-- ---- from one tick to the next

-- a carrier goes along one lane, and has not stood before
record Steps {w : ℕ} {l : List ℕ} {t x u v : ℕ} (h : At w l t x u) (k : At w l t (x + 1) v) : Type 0 where
  stands_not : h.stood ≡ 0
  goes_on : k.gone ≡ h.gone + 1

-- so does one that is on another node at the next tick: where it stands still, it is on the same
steps : {w : ℕ} {l : List ℕ} {t x u v : ℕ} (h : At w l t x u) (k : At w l t (x + 1) v) → u ≢ v → Steps h k
steps {l = l} h k moved = cases h.waits_at_goal k.waits_at_goal
  where
    still : h.gone ≡ k.gone → Steps h k
    still e = absurd (moved (sym h.node ∙ ap (λ (n : ℕ). get_or l n 0) e ∙ k.node))

    cases : (h.stood ≡ 0) ⊎ (h.gone + 1 ≡ length l) → (k.stood ≡ 0) ⊎ (k.gone + 1 ≡ length l) → Steps h k
    cases (inl a) (inl b) = record { stands_not = a; goes_on = omega (arith, h.time, k.time) }
    cases (inl a) (inr b) = rest (ℕ_discrete k.stood 0)
      where
        rest : Dec (k.stood ≡ 0) → Steps h k
        rest (yes c) = record { stands_not = a; goes_on = omega (arith, h.time, k.time) }
        rest (no c) = still (omega (arith, h.time, k.time, h.present))
    cases (inr a) (inl b) = still (omega (arith, h.time, k.time, k.present))
    cases (inr a) (inr b) = still (omega arith)

-- ---- two carriers

module _ {F : Floor} (both_ways : Symmetric F) {si gi sj gj : ℕ} {p : Pair} (six : DistancesOf F si gi sj gj p)
    {path path' : List ℕ} (P : PathOf F si gi p.ii path) (Q : PathOf F sj gj p.jj path') where
  -- a node that is a lanes along the first path and b lanes along the second
  pub shared : (a b : ℕ) → a ≤ p.ii → b ≤ p.jj → get_or path a 0 ≡ get_or path' b 0
      → (p.ss ≤ a + b) × (p.ss ≢ 65535) × (p.gg ≤ (p.ii - a) + (p.jj - b)) × (p.ij ≤ a + (p.jj - b)) × (p.ji ≤ b + (p.ii - a))
  shared a b ha hb e = ((bounded six.starts ss).0, (bounded six.starts ss).1, (bounded six.goals gg).0, (bounded six.i_to_j ij).0, (bounded six.j_to_i ji).0)
    where
      i_in : Walk F si (get_or path' b 0) a
      i_in = rw e at (from_start P a ha)

      i_out : Walk F (get_or path' b 0) gi (p.ii - a)
      i_out = rw e at (to_goal P a ha)

      ss : Walk F si sj (a + b)
      ss = join i_in (reverse both_ways (from_start Q b hb))

      gg : Walk F gi gj ((p.ii - a) + (p.jj - b))
      gg = join (reverse both_ways i_out) (to_goal Q b hb)

      ij : Walk F si gj (a + (p.jj - b))
      ij = join i_in (to_goal Q b hb)

      ji : Walk F sj gi (b + (p.ii - a))
      ji = join (from_start Q b hb) i_out

  module _ (w ti tj : ℕ) where
    -- the same node at the same tick: the first has gone a lanes and stood e ticks, the second b and f
    pub meet_at : (a e b f : ℕ) → ti + a + e ≡ tj + b + f → e ≤ w → f ≤ w → a ≤ p.ii → b ≤ p.jj
        → get_or path a 0 ≡ get_or path' b 0 → Forbidden⁺ w p ti tj
    meet_at a e b f time he hf ha hb same =
        let n = shared a b ha hb same in
        record { joined = n.1; gap_not_above = omega arith; low = omega arith; high = omega arith; not_excepted = λ z x. omega arith }

    -- nodes exchanged: at its a-th node the first is where the second is at its (b + 1)-th, and the other way
    -- round. Both go along a lane, so neither has stood yet
    pub cross_at : (a b : ℕ) → ti + a ≡ tj + b → a + 1 ≤ p.ii → b + 1 ≤ p.jj
        → get_or path a 0 ≡ get_or path' (b + 1) 0 → get_or path (a + 1) 0 ≡ get_or path' b 0 → Forbidden⁺ w p ti tj
    cross_at a b time ha hb e e' =
        let f = shared a (b + 1) (omega arith) hb e in
        let f' = shared (a + 1) b ha (omega arith) e' in
        record { joined = f.1; gap_not_above = omega arith; low = omega arith; high = omega arith; not_excepted = λ z x. inside f f' x.at_an_end }
      where
        inside : (p.ss ≤ a + (b + 1)) × (p.ss ≢ 65535) × (p.gg ≤ (p.ii - a) + (p.jj - (b + 1))) × (p.ij ≤ a + (p.jj - (b + 1))) × (p.ji ≤ (b + 1) + (p.ii - a))
            → (p.ss ≤ (a + 1) + b) × (p.ss ≢ 65535) × (p.gg ≤ (p.ii - (a + 1)) + (p.jj - b)) × (p.ij ≤ (a + 1) + (p.jj - b)) × (p.ji ≤ b + (p.ii - (a + 1)))
            → (ti + p.ij ≡ tj + p.jj) ⊎ (tj + p.ji ≡ ti + p.ii) → ⊥
        inside f f' (inl x) = omega arith
        inside f f' (inr x) = omega arith

    on_path : {t x v : ℕ} {l : List ℕ} {d : ℕ} (h : At w l t x v) → length l ≡ d + 1 → h.gone ≤ d
    on_path h e = omega (arith, h.present)

    meet_forbidden : Meet w path ti path' tj → Forbidden⁺ w p ti tj
    meet_forbidden m =
        let i = m.first in
        let j = m.second in
        meet_at i.gone i.stood j.gone j.stood (i.time ∙ sym j.time)
        (omega (arith, i.within_dwell)) (omega (arith, j.within_dwell))
        (on_path i P.size) (on_path j Q.size) (i.node ∙ sym j.node)

    cross_forbidden : Cross w path ti path' tj → Forbidden⁺ w p ti tj
    cross_forbidden c =
        cross_at a b (omega (arith, i.stands_not, j.stands_not, c.first_before.time, c.second_before.time))
        (omega (arith, i.goes_on, on_path c.first_after P.size)) (omega (arith, j.goes_on, on_path c.second_after Q.size))
        (c.first_before.node ∙ sym c.second_after.node ∙ ap (λ n. get_or path' n 0) j.goes_on)
        (ap (λ n. get_or path n 0) (sym i.goes_on) ∙ c.first_after.node ∙ sym c.second_before.node)
      where
        a : ℕ
        a = c.first_before.gone

        b : ℕ
        b = c.second_before.gone

        i : Steps c.first_before c.first_after
        i = steps c.first_before c.first_after c.different

        j : Steps c.second_before c.second_after
        j = steps c.second_before c.second_after (λ e. c.different (sym e))

    pub pair_safe : Permitted w p (pos tj -ℤ pos ti) → (Meet w path ti path' tj → ⊥) × (Cross w path ti path' tj → ⊥)
    pair_safe free = (
      (λ m. free ((forbidden_iff w p ti tj).1 (meet_forbidden m))),
      λ c. free ((forbidden_iff w p ti tj).1 (cross_forbidden c)),
    )

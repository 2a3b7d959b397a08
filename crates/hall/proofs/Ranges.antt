-- How large the signed values of the rule can be (rules 4.3 and 4.4): a lead is from −1,023 to 1,023, the gap
-- from −2,046 to 2,046. If a walk joins the two starts then walks join all four ends, through each other, so
-- none of the six numbers is the mark, and each is at most 1,023; the values are differences and sums of
-- these. Then rules 4.5, 4.6 and 4.9, each from one part of `Forbidden`. Assumes nothing.
--     Joined6           all six numbers of a pair are distances, at most 1,023
--     network_joined    those of two moves on a network are, if a walk joins the starts
use mathlib.Core.Path.{◌≡◌}
use mathlib.Core.Logic.{◌≢◌}
use Prim.Native.Nat.{ℕ, ◌+◌, ◌≤◌, ◌<◌}
use native.Mathlib.Omega.{arith}
use lib.IntN.{ℤ, pos, neg_ℤ}
use lib.Signed.{◌≤ℤ◌}
use Rattle.hall.specs.Limits.{node_limit, no_walk_mark}
use Rattle.hall.specs.Floor.{Floor, Symmetric, Walk, Network, floor}
use Rattle.hall.specs.Rule.{Pair, lead_i, lead_j, gap, low_end, high_end, Permitted}
use Rattle.hall.specs.Plan.{DistancesOf}
use Rattle.hall.proofs.Ints.{up, down, up_pos, down_pos, up_neg, down_neg, le_law}
use Rattle.hall.proofs.Walks.{join, reverse, true_distance, distance_small, lanes_symmetric}
use Rattle.hall.proofs.Pigeon.{dist_below}
use Rattle.hall.proofs.Rules.{lead_i_law, lead_j_law, gap_law}
use Rattle.hall.proofs.Decide.{node_below}
use Rattle.hall.proofs.Safe.{bounded}

pub record Joined6 (p : Pair) : Type 0 where
  pub ss : p.ss ≤ 1023
  pub gg : p.gg ≤ 1023
  pub ii : p.ii ≤ 1023
  pub jj : p.jj ≤ 1023
  pub ij : p.ij ≤ 1023
  pub ji : p.ji ≤ 1023

-- on a floor of at most 1,024 nodes
module _ {F : Floor} (both_ways : Symmetric F) (n : ℕ) (finite : (v : ℕ) → F.Node v → v < n) (limit : n ≤ 1024) {si gi sj gj : ℕ} {p : Pair} (six : DistancesOf F si gi sj gj p) where
  pub all_joined : p.ss ≢ 65535 → Joined6 p
  all_joined h = record {
    ss = distance_small six.starts h;
    gg = distance_small six.goals (bounded six.goals (join (reverse both_ways i) (join s j))).1;
    ii = let l = dist_below n finite six.own_i in omega arith;
    jj = let l = dist_below n finite six.own_j in omega arith;
    ij = distance_small six.i_to_j (bounded six.i_to_j (join s j)).1;
    ji = distance_small six.j_to_i (bounded six.j_to_i (join (reverse both_ways s) i)).1;
  }
    where
      s : Walk F si sj p.ss
      s = (true_distance six.starts h).walk

      i : Walk F si gi p.ii
      i = six.own_i.walk

      j : Walk F sj gj p.jj
      j = six.own_j.walk

-- and so of two moves on a network
pub network_joined : (N : Network) → N.nodes ≤ node_limit → {si gi sj gj : ℕ} {p : Pair}
    → DistancesOf (floor N) si gi sj gj p → p.ss ≢ no_walk_mark → Joined6 p
network_joined N limit six = all_joined (lanes_symmetric N) N.nodes (node_below N) limit six

-- ---- the ranges

-- z lies within −b .. b where its ups and downs do
within : (b : ℕ) (z : ℤ) → up z ≤ b + down z → down z ≤ b + up z → (neg_ℤ (pos b) ≤ℤ z) × (z ≤ℤ pos b)
within b z h k = (
  (le_law (neg_ℤ (pos b)) z).1 (omega (arith, up_neg (pos b), down_neg (pos b), up_pos b, down_pos b)),
  (le_law z (pos b)).1 (omega (arith, up_pos b, down_pos b)),
)

module _ (p : Pair) (small : Joined6 p) where
  pub lead_i_range : (neg_ℤ (pos 1023) ≤ℤ lead_i p) × (lead_i p ≤ℤ pos 1023)
  lead_i_range = within 1023 (lead_i p) (omega (arith, lead_i_law p)) (omega (arith, lead_i_law p))

  pub lead_j_range : (neg_ℤ (pos 1023) ≤ℤ lead_j p) × (lead_j p ≤ℤ pos 1023)
  lead_j_range = within 1023 (lead_j p) (omega (arith, lead_j_law p)) (omega (arith, lead_j_law p))

  pub gap_range : (neg_ℤ (pos 2046) ≤ℤ gap p) × (gap p ≤ℤ pos 2046)
  gap_range = within 2046 (gap p) (omega (arith, gap_law p)) (omega (arith, gap_law p))

-- ---- sentences of the rule

module _ (w : ℕ) (p : Pair) (D : ℤ) where
  -- rule 4.5
  pub unjoined_permitted : p.ss ≡ 65535 → Permitted w p D
  unjoined_permitted e f = f.joined e

  -- rule 4.6
  pub gap_permitted : ¬ (gap p ≤ℤ pos 0) → Permitted w p D
  gap_permitted h f = h f.gap_not_above

  -- rule 4.9
  pub empty_stretch_permitted : ¬ (low_end w p ≤ℤ high_end w p) → Permitted w p D
  empty_stretch_permitted h f =
      h ((le_law (low_end w p) (high_end w p)).1
      (omega (arith, (le_law (low_end w p) D).0 f.low, (le_law D (high_end w p)).0 f.high)))

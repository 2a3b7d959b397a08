-- The rule in signed numbers and the rule with additions only are one rule. Assumes nothing.
use mathlib.Core.Path.{◌≡◌}
use mathlib.Core.Logic.{◌↔◌, ◌⊎◌, inl, inr}
use Prim.Native.Nat.{ℕ, ◌+◌, ◌%◌, ◌≤◌}
use native.Mathlib.Omega.{arith}
use lib.IntN.{ℤ, pos, neg_ℤ, ◌-ℤ◌}
use lib.Signed.{◌≤ℤ◌}
use Rattle.hall.specs.Rule.{Pair, lead_i, lead_j, gap, low_end, high_end, Odd, Excepted, Forbidden}
use Rattle.hall.specs.Rule.{Excepted⁺, Forbidden⁺}
use Rattle.hall.proofs.Ints.{up, down, up_pos, down_pos, up_neg, down_neg, sum_law, minus_law, diff_law}
use Rattle.hall.proofs.Ints.{le_law, eq_law, abs_law}

module _ (p : Pair) where
  pub lead_i_law : up (lead_i p) + p.ji ≡ p.ii + down (lead_i p)
  unfolding lead_i
  lead_i_law = diff_law p.ii p.ji

  pub lead_j_law : up (lead_j p) + p.ij ≡ p.jj + down (lead_j p)
  unfolding lead_j
  lead_j_law = diff_law p.jj p.ij

  pub gap_law : up (gap p) + (p.ii + p.jj) ≡ (p.ss + p.gg) + down (gap p)
  unfolding gap up down
  gap_law = omega (arith, minus_law (pos (p.ss + p.gg) -ℤ pos p.ii) (pos p.jj), diff_law (p.ss + p.gg) p.ii)

  -- the ends of the stretch with the dwell w
  pub low_law : (w : ℕ) → up (low_end w p) + (p.jj + w) ≡ p.ij + down (low_end w p)
  unfolding low_end
  low_law w =
      omega (arith, minus_law (neg_ℤ (lead_j p)) (pos w), up_pos w, down_pos w, up_neg (lead_j p), down_neg (lead_j p), lead_j_law)

  pub high_law : (w : ℕ) → up (high_end w p) + p.ji ≡ p.ii + w + down (high_end w p)
  unfolding high_end
  high_law w = omega (arith, sum_law (lead_i p) (pos w), up_pos w, down_pos w, lead_i_law)

  module _ (ti tj : ℕ) where
    abbrev D : ℤ
    D = pos tj -ℤ pos ti

    gap_zero : (gap p ≡ pos 0) ↔ (p.ss + p.gg ≡ p.ii + p.jj)
    unfolding up down
    gap_zero = ((λ h. let k = (eq_law (gap p) (pos 0)).0 h in omega (arith, gap_law)), λ h. (eq_law (gap p) (pos 0)).1 (omega (arith, gap_law)))

    gap_le : (gap p ≤ℤ pos 0) ↔ (p.ss + p.gg ≤ p.ii + p.jj)
    unfolding up down
    gap_le = ((λ h. let k = (le_law (gap p) (pos 0)).0 h in omega (arith, gap_law)), λ h. (le_law (gap p) (pos 0)).1 (omega (arith, gap_law)))

    low_le : (w : ℕ) → (low_end w p ≤ℤ D) ↔ (ti + p.ij ≤ tj + p.jj + w)
    low_le w = (
      (λ h. let k = (le_law (low_end w p) D).0 h in omega (arith, low_law w, diff_law tj ti)),
      λ h. (le_law (low_end w p) D).1 (omega (arith, low_law w, diff_law tj ti)),
    )

    low_eq : (D ≡ neg_ℤ (lead_j p)) ↔ (ti + p.ij ≡ tj + p.jj)
    low_eq = (
      (λ h. let k = (eq_law D (neg_ℤ (lead_j p))).0 h in omega (arith, lead_j_law, diff_law tj ti, up_neg (lead_j p), down_neg (lead_j p))),
      λ h. (eq_law D (neg_ℤ (lead_j p))).1 (omega (arith, lead_j_law, diff_law tj ti, up_neg (lead_j p), down_neg (lead_j p))),
    )

    high_le : (w : ℕ) → (D ≤ℤ high_end w p) ↔ (tj + p.ji ≤ ti + p.ii + w)
    high_le w = (
      (λ h. let k = (le_law D (high_end w p)).0 h in omega (arith, high_law w, diff_law tj ti)),
      λ h. (le_law D (high_end w p)).1 (omega (arith, high_law w, diff_law tj ti)),
    )

    high_eq : (D ≡ lead_i p) ↔ (tj + p.ji ≡ ti + p.ii)
    high_eq = (
      (λ h. let k = (eq_law D (lead_i p)).0 h in omega (arith, lead_i_law, diff_law tj ti)),
      λ h. (eq_law D (lead_i p)).1 (omega (arith, lead_i_law, diff_law tj ti)),
    )

    odd_law : Odd (D -ℤ pos p.ss) ↔ ((ti + tj + p.ss) % 2 ≡ 1)
    unfolding Odd up down
    odd_law = (
      (λ h. omega (arith, h, abs_law (D -ℤ pos p.ss), minus_law D (pos p.ss), diff_law tj ti)),
      λ h. omega (arith, h, abs_law (D -ℤ pos p.ss), minus_law D (pos p.ss), diff_law tj ti),
    )

    excepted_iff : Excepted p D ↔ Excepted⁺ p ti tj
    excepted_iff = (
      (λ e. record { gap_zero = gap_zero.0 e.gap_zero; at_an_end = there e.at_an_end; odd = odd_law.0 e.odd }),
      λ e. record { gap_zero = gap_zero.1 e.gap_zero; at_an_end = back e.at_an_end; odd = odd_law.1 e.odd },
    )
      where
        there : (D ≡ neg_ℤ (lead_j p)) ⊎ (D ≡ lead_i p) → (ti + p.ij ≡ tj + p.jj) ⊎ (tj + p.ji ≡ ti + p.ii)
        there (inl h) = inl (low_eq.0 h)
        there (inr h) = inr (high_eq.0 h)

        back : (ti + p.ij ≡ tj + p.jj) ⊎ (tj + p.ji ≡ ti + p.ii) → (D ≡ neg_ℤ (lead_j p)) ⊎ (D ≡ lead_i p)
        back (inl h) = inl (low_eq.1 h)
        back (inr h) = inr (high_eq.1 h)

    -- the equivalence
    module _ (w : ℕ) where
      there : Forbidden w p D → Forbidden⁺ w p ti tj
      there f = record {
        joined = f.joined;
        gap_not_above = gap_le.0 f.gap_not_above;
        low = (low_le w).0 f.low;
        high = (high_le w).0 f.high;
        not_excepted = λ z e. f.not_excepted (omega arith) (excepted_iff.1 e);
      }

      back : Forbidden⁺ w p ti tj → Forbidden w p D
      back f = record {
        joined = f.joined;
        gap_not_above = gap_le.1 f.gap_not_above;
        low = (low_le w).1 f.low;
        high = (high_le w).1 f.high;
        not_excepted = λ z e. f.not_excepted (omega arith) (excepted_iff.0 e);
      }

pub forbidden_iff : (w : ℕ) (p : Pair) (ti tj : ℕ) → Forbidden w p (pos tj -ℤ pos ti) ↔ Forbidden⁺ w p ti tj
forbidden_iff w p ti tj = (there p ti tj w, back p ti tj w)

-- The pair rule (rules 4.1 to 4.12; source document 000, Theorem 5, on safe delays; with dwell, request k):
-- i is earlier in the order, j later. The rule sees six distances, the dwell w, which is the number of ticks
-- that a carrier stands on its goal after its goal tick, and the difference of two start ticks, and nothing
-- else. What it comes to without dwell, in the words of page 01, is in NoDwell.antt.
--     Pair         the six distances of a pair
--     lead_i       the lead of i over j: i's own distance minus that from j's start to i's goal (rule 4.3)
--     lead_j       the lead of j over i: j's own distance minus that from i's start to j's goal
--     gap          what the ways between the starts and between the goals have over the two own distances
--                  (rule 4.4)
--     low_end       the lower end of the stretch: the lead of j over i with its sign changed, moved down by
--                  the dwell (rule 4.7)
--     high_end      the upper end: the lead of i over j, moved up by the dwell
--     Odd          a signed number is odd
--     Excepted     the exception: the gap is 0, D is minus the lead of j or the lead of i, and D and the
--                  distance of the starts differ by an odd number (rule 4.8). It counts without dwell only,
--                  and then these two are the ends
--     Forbidden w  D, j's start tick minus i's, is forbidden where carriers have the dwell w
--     Permitted w  D is not forbidden
--     Excepted⁺, Forbidden⁺   the same for two start ticks, with additions only; `forbidden_iff`
--                             (proofs/Rules.antt) says that they are the same
--     pair6        a pair from its six distances, in the order of its fields
--     Answers      a yes or no tells whether a statement holds: of the rule, and of every other question that
--                  is answered so in the crates above, which cite it from here
use Rattle.std.specs.Prelude.{◌≡◌, ◌⊎◌, ◌≢◌, Bool, true, false, ℕ, ◌+◌, ◌%◌, ◌≤◌, ℤ, pos, neg_ℤ, ◌+ℤ◌, ◌-ℤ◌, nat_abs, ◌≤ℤ◌}
use Rattle.hall.specs.Limits.{no_walk_mark}

pub record Pair : Type 0 where
  -- between the two starts, and between the two goals
  pub ss : ℕ
  pub gg : ℕ
  -- the carriers' own
  pub ii : ℕ
  pub jj : ℕ
  -- from i's start to j's goal, and from j's start to i's goal
  pub ij : ℕ
  pub ji : ℕ

unfoldable pub lead_i : Pair → ℤ
lead_i p = pos p.ii -ℤ pos p.ji

unfoldable pub lead_j : Pair → ℤ
lead_j p = pos p.jj -ℤ pos p.ij

unfoldable pub gap : Pair → ℤ
gap p = pos p.ss +ℤ pos p.gg -ℤ pos p.ii -ℤ pos p.jj

unfoldable pub low_end : (w : ℕ) → Pair → ℤ
low_end w p = neg_ℤ (lead_j p) -ℤ pos w

unfoldable pub high_end : (w : ℕ) → Pair → ℤ
high_end w p = lead_i p +ℤ pos w

unfoldable pub Odd : ℤ → Type 0
Odd z = nat_abs z % 2 ≡ 1

pub record Excepted (p : Pair) (D : ℤ) : Type 0 where
  pub gap_zero : gap p ≡ pos 0
  pub at_an_end : (D ≡ neg_ℤ (lead_j p)) ⊎ (D ≡ lead_i p)
  pub odd : Odd (D -ℤ pos p.ss)

pub record Forbidden (w : ℕ) (p : Pair) (D : ℤ) : Type 0 where
  -- where no walk joins the two starts, everything is permitted (rule 4.5)
  pub joined : p.ss ≢ no_walk_mark
  -- where the gap is above 0, everything is permitted (rule 4.6)
  pub gap_not_above : gap p ≤ℤ pos 0
  -- from the lower end to the upper, both included (rule 4.7). Where the lower end exceeds the upper no D is
  -- (rule 4.9)
  pub low : low_end w p ≤ℤ D
  pub high : D ≤ℤ high_end w p
  -- but for the exception, which there is without dwell only (rule 4.8)
  pub not_excepted : w ≡ 0 → ¬ Excepted p D

abbrev pub Permitted : (w : ℕ) → Pair → ℤ → Type 0
Permitted w p D = ¬ Forbidden w p D

-- ---- the same with additions only, for the start ticks ti and tj

pub record Excepted⁺ (p : Pair) (ti tj : ℕ) : Type 0 where
  pub gap_zero : p.ss + p.gg ≡ p.ii + p.jj
  pub at_an_end : (ti + p.ij ≡ tj + p.jj) ⊎ (tj + p.ji ≡ ti + p.ii)
  pub odd : (ti + tj + p.ss) % 2 ≡ 1

pub record Forbidden⁺ (w : ℕ) (p : Pair) (ti tj : ℕ) : Type 0 where
  pub joined : p.ss ≢ no_walk_mark
  pub gap_not_above : p.ss + p.gg ≤ p.ii + p.jj
  pub low : ti + p.ij ≤ tj + p.jj + w
  pub high : tj + p.ji ≤ ti + p.ii + w
  pub not_excepted : w ≡ 0 → ¬ Excepted⁺ p ti tj

abbrev pub pair6 : ℕ → ℕ → ℕ → ℕ → ℕ → ℕ → Pair
pair6 ss gg ii jj ij ji = record { ss = ss; gg = gg; ii = ii; jj = jj; ij = ij; ji = ji }

abbrev pub Answers : Bool → Type 0 → Type 0
Answers true A = A
Answers false A = ¬ A

-- The pair rule, start ticks, the place of a carrier at a tick, demand 3 and the limits for a hall where
-- nobody waits, in the words of page 01, which knows no dwell (rules 3.4 to 3.6, 4.5 to 4.9, 4.12, 5.1 to 5.7
-- and 12.3 with w = 0). No promise cites this file: it is what the definitions with a dwell are held against.
-- With dwell 0 they say the same, each by a theorem (proofs/NoDwell.antt; of the limits
-- proofs/DwellLimits.antt).
--     PlainForbidden     D is forbidden: a walk joins the starts, the gap is 0 or less, D lies from minus the
--                        lead of j to the lead of i, and the exception does not hold
--     PlainStartTicks    each carrier in the order's turn has the least tick, counted from 0, that is
--                        forbidden against none of those before it
--     PlainAt            a carrier is on the floor from its start tick to its goal tick, a lane a tick
--     PlainMeet, PlainCross    of two such carriers; PlainApart they do neither
--     PlainDemand3       demand 3: no two meet or cross; each stands at its goal exactly its distance after
--                        its start and at no other tick; it is on the floor until then; the first starts at
--                        0, and no other more than one tick behind the latest goal tick before it
--     PlainWithin        start ticks of at most 64,512, goal ticks of at most 65,535, a cost of at most
--                        4,194,240
use Rattle.std.specs.Prelude.{◌≡◌, ◌≢◌, List, ℕ, ◌+◌, ◌≤◌, ◌<◌, length, get_or, ℤ, pos, neg_ℤ, ◌-ℤ◌, ◌≤ℤ◌}
use Rattle.hall.specs.Limits.{no_walk_mark}
use Rattle.hall.specs.Floor.{Floor, Dist}
use Rattle.hall.specs.Rule.{Pair, lead_i, lead_j, gap, Excepted}
use Rattle.hall.specs.Ticks.{SmallestFrom, Tables, own, pair_of, goal_tick, latest}

pub record PlainForbidden (p : Pair) (D : ℤ) : Type 0 where
  pub joined : p.ss ≢ no_walk_mark
  pub gap_not_above : gap p ≤ℤ pos 0
  pub low : neg_ℤ (lead_j p) ≤ℤ D
  pub high : D ≤ℤ lead_i p
  pub not_excepted : ¬ Excepted p D

pub record PlainStartTicks (t : Tables) (order : List ℕ) (tick : ℕ → ℕ) : Type 0 where
  pub smallest : (q : ℕ) → q < length order →
      SmallestFrom 0
      (λ x. (p : ℕ) → p < q →
      ¬ PlainForbidden (pair_of t (get_or order p 0) (get_or order q 0)) (pos x -ℤ pos (tick (get_or order p 0))))
      (tick (get_or order q 0))

pub record PlainAt (path : List ℕ) (t x v : ℕ) : Type 0 where
  pub gone : ℕ
  pub time : t + gone ≡ x
  pub present : gone < length path
  pub node : get_or path gone 0 ≡ v

pub record PlainMeet (path : List ℕ) (t : ℕ) (path' : List ℕ) (t' : ℕ) : Type 0 where
  pub tick : ℕ
  pub node : ℕ
  pub first : PlainAt path t tick node
  pub second : PlainAt path' t' tick node

pub record PlainCross (path : List ℕ) (t : ℕ) (path' : List ℕ) (t' : ℕ) : Type 0 where
  pub tick : ℕ
  pub node : ℕ
  pub other : ℕ
  pub different : node ≢ other
  pub first_before : PlainAt path t tick node
  pub first_after : PlainAt path t (tick + 1) other
  pub second_before : PlainAt path' t' tick other
  pub second_after : PlainAt path' t' (tick + 1) node

abbrev pub PlainApart : (path : ℕ → List ℕ) (tick : ℕ → ℕ) → ℕ → ℕ → Type 0
PlainApart path tick i j =
    (¬ PlainMeet (path i) (tick i) (path j) (tick j)) × (¬ PlainCross (path i) (tick i) (path j) (tick j))

pub record PlainDemand3 (F : Floor) (k : ℕ) (start goal : ℕ → ℕ) (t : Tables) (order : List ℕ)
    (tick : ℕ → ℕ) (path : ℕ → List ℕ) : Type 0 where
  pub apart : (i j : ℕ) → i < k → j < k → i ≢ j → PlainApart path tick i j
  pub distances : (i : ℕ) → i < k → Dist F (start i) (goal i) (own t i)
  pub at_goal : (i : ℕ) → i < k → PlainAt (path i) (tick i) (tick i + own t i) (goal i)
  pub only_then : (i : ℕ) → i < k → (x : ℕ) → PlainAt (path i) (tick i) x (goal i) → x ≡ tick i + own t i
  pub present : (i : ℕ) → i < k → (x : ℕ) → tick i ≤ x → x ≤ tick i + own t i →
      (v : ℕ) × PlainAt (path i) (tick i) x v
  pub absent : (i : ℕ) → i < k → (x v : ℕ) → PlainAt (path i) (tick i) x v →
      (tick i ≤ x) × (x ≤ tick i + own t i)
  pub first_at_0 : 0 < length order → tick (get_or order 0 0) ≡ 0
  pub bound : (q : ℕ) → q < length order → tick (get_or order q 0) ≤ latest order (goal_tick t tick) q + 1

pub record PlainWithin (k : ℕ) (t : Tables) (tick : ℕ → ℕ) (cost : ℕ) : Type 0 where
  pub start_ticks : (i : ℕ) → i < k → tick i ≤ 64512
  pub goal_ticks : (i : ℕ) → i < k → goal_tick t tick i ≤ 65535
  pub cost_limit_lem : cost ≤ 4194240

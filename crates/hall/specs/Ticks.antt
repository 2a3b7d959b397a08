-- Start ticks (rules 5.1 to 5.5 and 5.9). They speak of distances, an order and a dwell, and of no network.
--     SmallestFrom        x is the smallest of the permitted ticks that are not before a given tick, with any
--                         statement of what is permitted
--     PermittedBy w       tick x is permitted, where carriers have the dwell w, against the first n of some
--                         carriers that are already placed, each with the pair that it makes with the new one
--                         (the placed one is i, the new one j) and with its own start tick
--     Tables              the three tables of distances by the numbers of two carriers: between their
--                         starts, from the start of the first to the goal of the second, between their goals
--     own                 a carrier's own distance
--     pair_of t i j        the six distances of carriers i and j
--     PermittedAt         the same for the carrier at place q of an order, against those at the places before
--                         q
--     StartTicks          each carrier in the order's turn has the least tick, counted from 0, that every
--                         carrier placed before it permits. That the first starts at tick 0 follows:
--                         `first_at_zero` (proofs/Ticks.antt)
--     goal_tick            start tick plus distance: the tick at which a carrier comes to its goal
--     last_tick            goal tick plus dwell: the last tick at which it is on the floor
--     latest              the latest of some ticks of the carriers at the places before q, 0 if q is 0
--     total, cost_of       the cost is the sum of the goal ticks (source document 000, Definition 2: the sum
--                         over the agents of their arrival times)
use Rattle.std.specs.Prelude.{List, ℕ, zero, suc, ◌+◌, ◌≤◌, ◌<◌, max, length, get_or, pos, ◌-ℤ◌}
use Rattle.hall.specs.Rule.{Pair, Permitted}

pub record SmallestFrom (from : ℕ) (Permits : ℕ → Type 0) (x : ℕ) : Type 0 where
  pub not_before : from ≤ x
  pub permitted : Permits x
  pub least : (y : ℕ) → from ≤ y → Permits y → x ≤ y

unfoldable pub PermittedBy : (w n : ℕ) (pair : ℕ → Pair) (tick : ℕ → ℕ) → ℕ → Type 0
PermittedBy w n pair tick x = (p : ℕ) → p < n → Permitted w (pair p) (pos x -ℤ pos (tick p))

pub record Tables : Type 0 where
  pub ss : ℕ → ℕ → ℕ
  pub sg : ℕ → ℕ → ℕ
  pub gg : ℕ → ℕ → ℕ

abbrev pub own : Tables → ℕ → ℕ
own t i = t.sg i i

abbrev pub pair_of : Tables → ℕ → ℕ → Pair
pair_of t i j = record {
  ss = t.ss i j;
  gg = t.gg i j;
  ii = t.sg i i;
  jj = t.sg j j;
  ij = t.sg i j;
  ji = t.sg j i;
}

-- tick x is permitted to the carrier at place q against every carrier placed before it; `tick i` is carrier
-- i's start tick
abbrev pub PermittedAt : (w : ℕ) (t : Tables) (order : List ℕ) (tick : ℕ → ℕ) → ℕ → ℕ → Type 0
PermittedAt w t order tick q =
    PermittedBy w q (λ p. pair_of t (get_or order p 0) (get_or order q 0)) (λ p. tick (get_or order p 0))

pub record StartTicks (w : ℕ) (t : Tables) (order : List ℕ) (tick : ℕ → ℕ) : Type 0 where
  pub smallest : (q : ℕ) → q < length order →
      SmallestFrom 0 (PermittedAt w t order tick q) (tick (get_or order q 0))

abbrev pub goal_tick : Tables → (ℕ → ℕ) → ℕ → ℕ
goal_tick t tick i = tick i + own t i

abbrev pub last_tick : (w : ℕ) → Tables → (ℕ → ℕ) → ℕ → ℕ
last_tick w t tick i = goal_tick t tick i + w

unfoldable pub latest : (order : List ℕ) (tick : ℕ → ℕ) → ℕ → ℕ
latest order tick zero = 0
latest order tick (suc q) = max (latest order tick q) (tick (get_or order q 0))

unfoldable pub total : ℕ → (ℕ → ℕ) → ℕ
total zero f = 0
total (suc k) f = total k f + f k

abbrev pub cost_of : Tables → (ℕ → ℕ) → ℕ → ℕ
cost_of t tick k = total k (goal_tick t tick)

-- How late the first permitted tick can be, for callers that have to know that it fits (rule 5.7). A tick
-- past the last ticks of all held carriers is permitted by each of them, so the smallest permitted tick is no
-- later, unless the search began later. Assumes nothing.
use mathlib.Core.List.{List}
use Prim.Native.Nat.{ℕ, ◌+◌, ◌≤◌, ◌<◌}
use lib.ListN.{length}
use Rattle.hall.specs.Rule.{Pair}
use Rattle.hall.specs.Ticks.{SmallestFrom, PermittedBy}
use Rattle.hall.proofs.Ticks.{past_last}
use Rattle.rule.specs.declared.Held.{Held}
use Rattle.rule.specs.Held.{held_at, held_pair, held_tick}

pub first_tick_bound : (w n : ℕ) (pair : ℕ → Pair) (tick : ℕ → ℕ) {from x : ℕ} (b : ℕ)
    → SmallestFrom from (PermittedBy w n pair tick) x
    → ((p : ℕ) → p < n → tick p + (pair p).ii + w < b) → from ≤ b → x ≤ b
unfolding PermittedBy
first_tick_bound w n pair tick b s lasts h = s.least b h (λ p l. past_last w (pair p) (tick p) b (lasts p l))

-- the same for the list of held carriers, by the start tick and the own distance of each
pub held_bound : (w : ℕ) (held : List Held) {from x : ℕ} (b : ℕ)
    → SmallestFrom from (PermittedBy w (length held) (held_pair held) (held_tick held)) x
    → ((p : ℕ) → p < length held → (held_at held p).tick + (held_at held p).pair.ii + w < b)
    → from ≤ b → x ≤ b
unfolding held_pair held_tick
held_bound w held b s lasts h = first_tick_bound w (length held) (held_pair held) (held_tick held) b s lasts h

-- What a tick on the way to the first permitted one (rule 5.3) satisfies. Inner functions promise these; no
-- public promise cites them.
--     latest_tick        12,884,901,886: one past the latest last tick that a start tick, a distance and a
--                        dwell of 32 bits can make. No later tick comes up
--     TickReached        x is no earlier than a given tick, and no tick from that one up and before x is
--                        permitted
--     PermittedByHeld    tick x is permitted by the first n held carriers, where carriers have the dwell w;
--                        so for the dwell w in what follows
--     PassedOne          between a given tick and x a held carrier was passed for good: it does not permit
--                        some tick from the given one up, and permits every tick from x up
--     RoundMade          x is where a round of all held carriers moves a given tick: TickReached against
--                        all of them; if it is that very tick, it is permitted by all, and if it is later,
--                        PassedOne; and it is at most latest_tick
use Rattle.std.specs.Prelude.{◌≡◌, List, ℕ, ◌≤◌, ◌<◌, length, pos, ◌-ℤ◌}
use Rattle.hall.specs.Rule.{Permitted}
use Rattle.hall.specs.Ticks.{PermittedBy}
use Rattle.rule.specs.declared.Held.{Held}
use Rattle.rule.specs.Held.{held_pair, held_tick}

abbrev pub latest_tick : ℕ
latest_tick = 12884901886

pub record TickReached (from : ℕ) (Permits : ℕ → Type 0) (x : ℕ) : Type 0 where
  pub not_before : from ≤ x
  pub none_before : (y : ℕ) → from ≤ y → Permits y → x ≤ y

abbrev pub PermittedByHeld : (w : ℕ) → List Held → ℕ → ℕ → Type 0
PermittedByHeld w held n = PermittedBy w n (held_pair held) (held_tick held)

pub record PassedOne (w : ℕ) (held : List Held) (from x : ℕ) : Type 0 where
  pub place : ℕ
  pub inside : place < length held
  pub tick : ℕ
  pub not_before : from ≤ tick
  pub held_up : ¬ Permitted w (held_pair held place) (pos tick -ℤ pos (held_tick held place))
  pub free_on : (y : ℕ) → x ≤ y → Permitted w (held_pair held place) (pos y -ℤ pos (held_tick held place))

pub record RoundMade (w : ℕ) (held : List Held) (from x : ℕ) : Type 0 where
  pub reached : TickReached from (PermittedByHeld w held (length held)) x
  pub still : x ≡ from → PermittedByHeld w held (length held) from
  pub passed : from < x → PassedOne w held from x
  pub within : x ≤ latest_tick

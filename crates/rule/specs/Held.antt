-- The carriers against which a start tick has to be permitted (rule 5.2), as one list. For each held carrier
-- it has the start tick, and the pair that it makes with the new carrier (rule 4.2). The held carrier is i of
-- the rule, the new one j (rule 4.1).
--     pair_in p          the rule's pair of six numbers of src/
--     held_as t p        a held carrier of src/: its start tick and its pair with the new carrier
--     nobody             what stands past the end of a list: a carrier whose seven numbers are all zero
--     held_at held k     the carrier held at place k
--     held_tick held k   its start tick
--     held_pair held k   its pair with the new carrier: start to start, goal to goal, its own distance, the
--                        new carrier's own, from its start to the new carrier's goal, from the new carrier's
--                        start to its goal
--     held_with          the list with a carrier written at a place: its start tick, then its pair with the
--                        new carrier
--     CarrierHeld        the list has that place, and the carrier was written there
--     HoldUntouched      the list does not have that place, and is as it came
--     Holding            the promise of writing a carrier: the one or the other
use Rattle.std.specs.Prelude.{◌≡◌, Bool, true, false, List, ℕ, ◌<◌, length, get_or, set}
use Rattle.hall.specs.Rule.{Pair, pair6}
use Rattle.rule.specs.declared.Held.{Held}
use Rattle.rule.specs.declared.Pair.{Pair as Six}

abbrev pub pair_in : Six → Pair
pair_in p = pair6 p.ss p.gg p.ii p.jj p.ij p.ji

abbrev pub held_as : ℕ → Pair → Held
held_as tick p = record {
  tick = tick;
  pair = record { ss = p.ss; gg = p.gg; ii = p.ii; jj = p.jj; ij = p.ij; ji = p.ji };
}

abbrev pub nobody : Held
nobody = held_as 0 (pair6 0 0 0 0 0 0)

abbrev pub held_at : List Held → ℕ → Held
held_at held k = get_or held k nobody

unfoldable pub held_tick : List Held → ℕ → ℕ
held_tick held k = (held_at held k).tick

unfoldable pub held_pair : List Held → ℕ → Pair
held_pair held k = pair_in (held_at held k).pair

unfoldable pub held_with : List Held → ℕ → ℕ → Pair → List Held
held_with held place tick p = set held place (held_as tick p)

pub record CarrierHeld (held held' : List Held) (place tick : ℕ) (p : Pair) : Type 0 where
  pub served : place < length held
  pub written : held' ≡ held_with held place tick p

pub record HoldUntouched (held held' : List Held) (place : ℕ) : Type 0 where
  pub unserved : ¬ (place < length held)
  pub kept : held' ≡ held

abbrev pub Holding : (held held' : List Held) (place tick : ℕ) → Pair → Bool → Type 0
Holding held held' place tick p true = CarrierHeld held held' place tick p
Holding held held' place tick p false = HoldUntouched held held' place

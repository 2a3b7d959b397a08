-- Of a network and a move that pass the checks before 8 (proofs/SoundMove.antt of crate `network`) only 8 is
-- left to be looked for: it is given exactly if no walk joins start and goal, which the row of distances to
-- the goal tells. Assumes nothing.
use mathlib.Core.Path.{◌≡◌}
use mathlib.Core.Logic.{◌≢◌}
use mathlib.Core.Bool.{Bool}
use mathlib.Core.List.{List}
use Prim.Native.Nat.{ℕ, ◌<◌}
use native.Mathlib.Omega.{arith}
use lib.ListN.{length, get_or, take}
use lib.Seq.{get_or-take, length-take-le}
use Rattle.hall.specs.declared.Fault.TheVariants.{Unreachable}
use Rattle.std.specs.Prelude.{Ok, Err}
use Rattle.hall.specs.Limits.{node_limit, no_walk_mark}
use Rattle.hall.specs.Floor.{Network}
use Rattle.hall.specs.Stages.{None}
use Rattle.hall.specs.Questions.{move_ends}
use Rattle.hall.proofs.Walks.{reverse, lanes_symmetric, marked_none}
use Rattle.hall.proofs.Compose.{none_at_all, none_append, first_after}
use Rattle.hall.proofs.Places.{asked_here, asked_clear}
use Rattle.network.proofs.SoundMove.{MoveSound, move_sound}
use Rattle.walk.specs.Row.{RowFilled, Rowed}
use Rattle.walk.proofs.WalkRow.{rowed_served}
use Rattle.path.specs.Steps.{Downhill, MoveReached}
use Rattle.path.proofs.Downhill.{start_distance}

module _ (N : Network) (s g : ℕ) (sound : None (move_ends N s g)) where
  facts : MoveSound N s g
  facts = move_sound N s g sound

  -- the start has a place in a row
  pub start_inside : s < node_limit
  start_inside = omega (arith, facts.start_open.numbered, facts.few_nodes)

  -- the walk is served, so it has filled the row
  pub row_filled : {row left : List ℕ} {r : Bool} → length row ≡ node_limit → Rowed N g row left r →
      RowFilled N g row left
  row_filled size told =
      (rowed_served
      (record {
        few = facts.few_nodes;
        numbered = facts.goal_open.numbered;
        wide = omega (arith, facts.few_nodes, size);
      })
      told).1

  -- ---- what the distances to the goal tell

  module _ {row left : List ℕ} (filled : RowFilled N g row left) where
    pub walk_missing : get_or left s 0 ≡ no_walk_mark
        → MoveReached N s g left (Err (record { fault = Unreachable; place = 0 }))
    walk_missing e =
        let marked = marked_none (filled.holds s facts.start_open.numbered) e in
        first_after sound (asked_here (λ n w. marked n (reverse (lanes_symmetric N) w)))

    pub walk_there : length row ≡ node_limit → get_or left s 0 ≢ no_walk_mark → MoveReached N s g left (Ok tt)
    walk_there size h =
        let there = (start_distance down).walk in
        (none_append sound (asked_clear (λ none. none (get_or (take N.nodes left) s 0) there) none_at_all), down, sized)
      where
        -- each node has its place in the part of the row that has as many places
        as_filled : (v : ℕ) → v < N.nodes → get_or (take N.nodes left) v 0 ≡ get_or left v 0
        as_filled v l = get_or-take N.nodes left v 0 l

        sized : length (take N.nodes left) ≡ N.nodes
        sized = length-take-le N.nodes left (omega (arith, facts.few_nodes, filled.size))

        down : Downhill N s g (take N.nodes left)
        down = record {
          few = facts.few_nodes;
          wide = omega (arith, sized);
          distances = λ v l. rw (as_filled v l) (filled.holds v l);
          numbered = facts.start_open.numbered;
          reached = rw (as_filled s facts.start_open.numbered) h;
        }

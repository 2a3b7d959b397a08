-- What a network and a move that pass the checks before 8 are like: each part is the denial of one check,
-- read off the list of stages. Assumes nothing.
--     MoveSound N s g    at most 1,024 nodes; s and g are open nodes of the network, and differ
use mathlib.Core.Logic.{inl, inr, ◌≢◌}
use Prim.Native.Nat.{ℕ, suc, ◌≤◌}
use native.Mathlib.Omega.{arith}
use Rattle.hall.specs.Limits.{node_limit}
use Rattle.hall.specs.Floor.{Network, Open}
use Rattle.hall.specs.Stages.{Stage, None, ClearAt, only_at}
use Rattle.hall.specs.Questions.{ends, network_question, move_ends}
use Rattle.hall.proofs.Compose.{none_split}
use Rattle.hall.proofs.Places.{none_only_at}
use Rattle.hall.proofs.Sound.{not_above, DeniedNetwork, network_denied}

pub record MoveSound (N : Network) (s g : ℕ) : Type 0 where
  pub few_nodes : N.nodes ≤ node_limit
  pub start_open : Open N s
  pub goal_open : Open N g
  pub ends_differ : s ≢ g

pub move_sound : (N : Network) (s g : ℕ) → None (move_ends N s g) → MoveSound N s g
move_sound N s g sound = record {
  few_nodes = not_above node_limit N.nodes (λ h. denied.nodes (inr h));
  start_open = record {
    numbered = not_above N.nodes (suc s) (λ h. denied_ends.0 (inl (omega arith)));
    not_closed = λ c. denied_ends.1.1.0 (inl c);
  };
  goal_open = record {
    numbered = not_above N.nodes (suc g) (λ h. denied_ends.0 (inr (omega arith)));
    not_closed = λ c. denied_ends.1.1.0 (inr c);
  };
  ends_differ = denied_ends.1.0;
}
  where
    -- 4, 5 and 13 of the move
    move_checks_lem : Stage
    move_checks_lem = ends N.nodes N.closed (λ i. s) (λ i. g)

    denied : DeniedNetwork N
    denied = network_denied N (none_split (network_question N) (only_at 0 move_checks_lem) sound).0

    denied_ends : ClearAt move_checks_lem 0
    denied_ends = none_only_at move_checks_lem 0 (none_split (network_question N) (only_at 0 move_checks_lem) sound).1

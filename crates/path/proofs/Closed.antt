-- No path stands on a closed node, from the promises as they stand: each node of a path is open (`PathOf`),
-- so a list that is found sound and a house path have no closed node. A list with one is no shortest path, so
-- it is refused with 11 if neither the network nor the move is at fault. Assumes nothing.
--     OnClosed          the number at the place k of the list is that of a closed node
--     sound_open        a list that is found sound stands on no closed node
--     closed_refused    a list that stands on one is refused with 11
--     house_open        a house path stands on no closed node
use mathlib.Core.Path.{◌≡◌}
use mathlib.Core.List.{List}
use Prim.Native.Nat.{ℕ, ◌<◌}
use native.Mathlib.Omega.{arith}
use lib.ListN.{length, get_or, take}
use Rattle.hall.specs.declared.Fault.TheVariants.{NotShortest}
use Rattle.std.specs.Prelude.{Result, Ok}
use Rattle.hall.specs.declared.Refusal.{Refusal}
use Rattle.hall.specs.Floor.{Network, Closed, floor}
use Rattle.hall.specs.Path.{PathOf}
use Rattle.hall.specs.Numbers.{number_of}
use Rattle.hall.specs.Stages.{None}
use Rattle.hall.specs.Said.{refused, said_checked}
use Rattle.hall.specs.Questions.{move_question}
use Rattle.hall.proofs.Compose.{first_after}
use Rattle.hall.proofs.Places.{asked_here}
use Rattle.path.specs.Paths.{HouseAnswer, ListAnswer}
use Rattle.path.proofs.Agree.{sound_passes}
use Rattle.path.proofs.Exactly.{list_refused_exactly}

pub record OnClosed (N : Network) (list : List ℕ) : Type 0 where
  pub k : ℕ
  pub inside : k < length list
  pub closed_node_lem : Closed N.closed (get_or list k 0)

none_closed : {N : Network} {s g d : ℕ} {list : List ℕ} → PathOf (floor N) s g d list → ¬ OnClosed N list
none_closed p c = (p.nodes c.k (omega (arith, c.inside, p.size))).not_closed c.closed_node_lem

module _ {N N' : Network} {s g : ℕ} {list list' : List ℕ} where
  pub sound_open : ListAnswer N N' s g list list' (Ok tt) → ¬ OnClosed N list
  sound_open a = none_closed (sound_passes (λ i. Ok tt) a).shortest.is_path

  pub closed_refused : (r : Result Unit Refusal) → None (move_question N s g) → OnClosed N list
      → ListAnswer N N' s g list list' r → said_checked r ≡ refused (number_of NotShortest) 0
  closed_refused r none c a =
      (list_refused_exactly r a (number_of NotShortest) 0).1
      (first_after none (asked_here (λ p. none_closed p.is_path c)))

pub house_open : {N N' : Network} {s g : ℕ} {path path' : List ℕ} {count : ℕ} →
    HouseAnswer N N' s g path path' (Ok count) → ¬ OnClosed N (take count path')
house_open a = none_closed a.given.1.is_house_path.is_path

-- The questions about one carrier of a job agree, from the promises of `house` and `judge` as they stand in
-- the source (rules 6.1 to 6.4). A list is found sound exactly if neither the job nor the carrier number is
-- at fault and the list is a shortest path of the carrier's move. The house path is one, so `judge` finds
-- sound what `house` leaves, and of all shortest paths it is the first when compared node by node. The laws
-- are those of the crate path. Assumes nothing.
--     house_sound                        what `house` leaves passes `judge`
--     sound_shortest, shortest_sound     a list is found sound exactly if it is a shortest path, in a job
--                                        without faults
--     house_shortest, house_least        the house path is a shortest path, and the first of them node by
--                                        node
use mathlib.Core.Path.{◌≡◌}
use mathlib.Core.List.{List, [], ◌∷◌}
use Prim.Native.Nat.{ℕ}
use lib.ListN.{take}
use Rattle.std.proofs.Common.{Result, Ok}
use Rattle.hall.specs.declared.Refusal.{Refusal}
use Rattle.hall.specs.Floor.{Network, floor}
use Rattle.hall.specs.Job.{Numbers, start, goal}
use Rattle.hall.specs.Path.{ShortestPath}
use Rattle.hall.specs.Stages.{None}
use Rattle.hall.specs.Questions.{unfit, asked_question, list_of_job}
use Rattle.hall.proofs.Stages.{judged_unique}
use Rattle.hall.proofs.Compose.{none_split, none_append, none_at_all}
use Rattle.hall.proofs.Places.{none_asked, asked_clear}
use Rattle.records.specs.declared.Record.{Record}
use Rattle.path.specs.Paths.{Unfit, NodeByNode}
use Rattle.path.proofs.Agree.{house_first}
use Rattle.path.proofs.Listed.{none_passes}
use Rattle.asks.proofs.OneOfJob.{move_sound}
use Rattle.recorded.specs.Job.{record_job}
use Rattle.recorded.specs.Asking.{HouseOfRecords, ListOfRecords}

module _ (N : Network) (records : List Record) (order : List ℕ) (dwell c : ℕ) where
  abbrev j : Numbers
  j = record_job N records order dwell

  abbrev Shortest : List ℕ → Type 0
  Shortest list = ShortestPath (floor N) (start j c) (goal j c) list

  abbrev unfitFor : List ℕ → Type 0
  unfitFor list = Unfit N (start j c) (goal j c) list

  -- ---- the question about one list

  module _ (M : Network) (rs : List Record) (o list list' : List ℕ) where
    pub sound_none : ListOfRecords N M records rs order o dwell c list list' (Ok tt) → None (asked_question j c)
    sound_none a = (none_split (asked_question j c) (unfit (unfitFor list) ∷ []) a.given).0

    pub sound_shortest : ListOfRecords N M records rs order o dwell c list list' (Ok tt) → Shortest list
    sound_shortest a =
        (none_passes N (start j c) (goal j c) list
        (none_append (move_sound j c (sound_none a)) (none_split (asked_question j c) (unfit (unfitFor list) ∷ []) a.given).1)
        ).shortest

    pub shortest_sound : (r : Result Unit Refusal) → None (asked_question j c) → Shortest list →
        ListOfRecords N M records rs order o dwell c list list' r → r ≡ Ok tt
    shortest_sound r none s a =
        judged_unique (list_of_job j c (unfitFor list)) r (Ok tt) a.given
        (none_append none (asked_clear (λ u. u s) none_at_all))

  -- ---- the house path

  module _ (M : Network) (rs : List Record) (o path path' : List ℕ) (count : ℕ)
      (a : HouseOfRecords N M records rs order o dwell c path path' (Ok count)) where
    pub house_shortest : Shortest (take count path')
    house_shortest =
        let house = a.given.1.is_house_path in
        record { d = a.given.1.d; short = house.short; is_path = house.is_path }

    pub house_least : (other : List ℕ) → Shortest other → NodeByNode (take count path') other
    house_least other s = house_first a.given.1.is_house_path s

    pub house_sound : (O : Network) (qs : List Record) (p list' : List ℕ) (r : Result Unit Refusal) →
        ListOfRecords N O records qs order p dwell c (take count path') list' r → r ≡ Ok tt
    house_sound O qs p list' r b =
        shortest_sound O qs p (take count path') list' r (none_asked a.given.0).1 house_shortest b

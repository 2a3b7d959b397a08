-- What the functions of this crate promise one another. No public question cites them.
--     StaleAt          17 of one slot: it holds a carrier whose last tick is t or later, and whose distance
--                      on the network is not the one held
--     StandsFrom       a slot with this start holds a carrier whose last tick is t or later
--     StandsBefore     some slot before place i does
--     OffRow           the row from a carrier's start, which has a place for each node, does not tell the
--                      distance held: there is none, since the walk was refused; the goal is no node; or the
--                      row has another number there
--     StaleBy          a slot with this start stands so, and the row from there does not tell its distance
--     LowestBy         the lowest such slot from the place `from` on and before the place `end`, if there is
--                      one
--     Sieved           no slot below `lowest` that has the start of a standing slot before place i is stale,
--                      and `lowest` is stale, or 64
--     starts_for       the distance between the starts, by the row from a move's start; the mark for "no
--                      walk" at a free slot, which then forbids nothing
--     pair_for         the pair of a slot and a move, by the rows from the move's start and from its goal
--     OnRows           the ends of every slot have a place in a row
--     TickFor          the smallest tick from a given one up that the pairs of all slots permit
--     Blocking         the pair of a slot forbids the tick
--     LowestBlocking   the number of the lowest slot of which that holds, if there is one
--     Settled          what is asked of a book, a clock value and a network passes, whatever the move: 16,
--                      14, the network's checks and 17
--     Settles          so it does for the next call, at the same clock value on the same network, where an
--                      admission is accepted
--     RowsFrom         the rows have the distances from the start and from the goal of a move
--     Reached          the checks of a network and a move, and the rows that they leave where none holds
--     Called           the checks of a call, and the rows that they leave where none holds
--     Riding           the moves of a trolley: the start ticks of those admitted stand in front of the list,
--                      and the rest of it is as it came
use Rattle.std.specs.Prelude.{◌≡◌, ◌≢◌, Bool, true, false, Option, Some, None, Result, Ok, List, [], ◌∷◌, ◌++◌, ℕ, ◌≤◌, ◌<◌, length, get_or, drop, pos, ◌-ℤ◌}
use Rattle.hall.specs.declared.Refusal.{Refusal}
use Rattle.hall.specs.Limits.{node_limit, no_walk_mark}
use Rattle.hall.specs.Floor.{Dist, DistanceIs, Network, floor}
use Rattle.hall.specs.Rule.{Pair, pair6, Forbidden}
use Rattle.hall.specs.Ticks.{SmallestFrom, PermittedBy}
use Rattle.hall.specs.Stages.{None as NothingOf}
use Rattle.hall.specs.Said.{Said, accepted, refused, Judged}
use Rattle.hall.specs.Questions.{network_question, move_question}
use Rattle.slots.specs.declared.Slot.{Slot}
use Rattle.slots.specs.declared.Book.{Book}
use Rattle.slots.specs.Record.{slot_count, slot_is_free, slot_at, StandsAt}
use Rattle.slots.specs.Questions.{book_question}
use Rattle.admission.specs.declared.Entry.{Entry}
use Rattle.admission.specs.declared.rows.Rows.{Rows}
use Rattle.admission.specs.Questions.{stale_slots, call_question}
use Rattle.admission.specs.Trolley.{Ending, Rides}

-- ---- 17

pub record StaleAt (N : Network) (w t : ℕ) (c : Slot) : Type 0 where
  pub stands : StandsAt w t c
  pub other : ¬ Dist (floor N) c.start c.goal c.distance

pub record StandsFrom (w t start : ℕ) (c : Slot) : Type 0 where
  pub stands : StandsAt w t c
  pub from_there : c.start ≡ start

pub record StandsBefore (w t : ℕ) (slots : List Slot) (start i : ℕ) : Type 0 where
  pub place : ℕ
  pub earlier : place < i
  pub there : StandsFrom w t start (slot_at slots place)

pub data OffRow (c : Slot) : Option (List ℕ) → Type 0 where
  no_row : OffRow c None
  no_goal : {row : List ℕ} → length row ≤ c.goal → OffRow c (Some row)
  other_number : {row : List ℕ} → get_or row c.goal 0 ≢ c.distance → OffRow c (Some row)

pub record StaleBy (row : Option (List ℕ)) (start w t : ℕ) (c : Slot) : Type 0 where
  pub there : StandsFrom w t start c
  pub off : OffRow c row

pub data LowestBy (row : Option (List ℕ)) (start w t : ℕ) (slots : List Slot) (from end : ℕ) :
    Option ℕ → Type 0 where
  stale : {r : ℕ} → r < end → StaleBy row start w t (slot_at slots r)
      → ((p : ℕ) → p < r → from ≤ p → ¬ StaleBy row start w t (slot_at slots p))
      → LowestBy row start w t slots from end (Some r)
  none_stale : ((p : ℕ) → p < end → from ≤ p → ¬ StaleBy row start w t (slot_at slots p))
      → LowestBy row start w t slots from end None

pub record Sieved (N : Network) (w t : ℕ) (slots : List Slot) (i lowest : ℕ) : Type 0 where
  pub most : lowest ≤ slot_count
  pub stale : lowest < slot_count → StaleAt N w t (slot_at slots lowest)
  pub clear : (j p : ℕ) → j < i → p < lowest → StandsAt w t (slot_at slots j)
      → (slot_at slots p).start ≡ (slot_at slots j).start → ¬ StaleAt N w t (slot_at slots p)

-- ---- the tick

abbrev pub starts_for : Bool → ℕ → ℕ
starts_for true d = no_walk_mark
starts_for false d = d

unfoldable pub pair_for : (rows : Rows) (own : ℕ) → Slot → Pair
pair_for rows own c =
    pair6
    (starts_for (slot_is_free c) (get_or rows.outward c.start 0))
    (get_or rows.inward c.goal 0)
    c.distance
    own
    (get_or rows.inward c.start 0)
    (get_or rows.outward c.goal 0)

pub record OnRows (slots : List Slot) : Type 0 where
  pub starts : (i : ℕ) → i < slot_count → (slot_at slots i).start < node_limit
  pub goals : (i : ℕ) → i < slot_count → (slot_at slots i).goal < node_limit

abbrev pub TickFor : (rows : Rows) (own w from : ℕ) → List Slot → ℕ → Type 0
TickFor rows own w from slots =
    SmallestFrom from
    (PermittedBy w slot_count (λ i. pair_for rows own (slot_at slots i)) (λ i. (slot_at slots i).tick))

-- ---- may it go

abbrev pub Blocking : (rows : Rows) (own w t : ℕ) → List Slot → ℕ → Type 0
Blocking rows own w t slots i =
    Forbidden w (pair_for rows own (slot_at slots i)) (pos t -ℤ pos (slot_at slots i).tick)

pub data LowestBlocking (rows : Rows) (own w t : ℕ) (slots : List Slot) : Option ℕ → Type 0 where
  blocking : {i : ℕ} → i < slot_count → Blocking rows own w t slots i
      → ((j : ℕ) → j < i → ¬ Blocking rows own w t slots j) → LowestBlocking rows own w t slots (Some i)
  none_blocks : ((j : ℕ) → j < slot_count → ¬ Blocking rows own w t slots j)
      → LowestBlocking rows own w t slots None

-- ---- the checks

pub record Settled (N : Network) (b : Book) (t : ℕ) : Type 0 where
  pub of_book : NothingOf (book_question b t)
  pub of_network : NothingOf (network_question N)
  pub of_slots : NothingOf (stale_slots N b.dwell t b.slots ∷ [])

abbrev pub Settles : Network → (now : ℕ) → Said Entry → Book → Type 0
Settles N now (accepted e) left = Settled N left now
Settles N now (refused n p) left = Unit

pub record RowsFrom (N : Network) (s g : ℕ) (rows : Rows) : Type 0 where
  pub of_start : (v : ℕ) → v < N.nodes → DistanceIs (floor N) s v (get_or rows.outward v 0)
  pub of_goal : (v : ℕ) → v < N.nodes → DistanceIs (floor N) g v (get_or rows.inward v 0)

pub record Reached (N : Network) (s g : ℕ) (left : Rows) (r : Result Unit Refusal) : Type 0 where
  pub judged : Judged (move_question N s g) r
  pub rows : r ≡ Ok tt → RowsFrom N s g left

pub record Called (N : Network) (b : Book) (t s g : ℕ) (left : Rows) (r : Result Unit Refusal) : Type 0 where
  pub judged : Judged (call_question N b t s g) r
  pub rows : r ≡ Ok tt → RowsFrom N s g left

-- ---- the trolley

pub record Riding (N : Network) (b : Book) (now : ℕ) (moves ticks : List ℕ) (end : Ending) (left : Book)
    (ticks' : List ℕ) : Type 0 where
  pub starts : List ℕ
  pub rides : Rides N b now moves end starts left
  pub written : ticks' ≡ starts ++ drop (length starts) ticks

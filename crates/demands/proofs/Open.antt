-- Open nodes (rules 2.7, 2.8, 7.16 and 12.1 to 12.3), as theorems that start from the promises as these stand
-- in the source. The floor of a network has its open nodes alone, so that the demands of Demands.antt,
-- Program.antt and Written.antt speak of open nodes as they stand. Here stands what that comes to: the ends
-- of an accepted job are open, and no shortest path stands on a closed node at any tick; a list that does is
-- refused with 11; and the closed nodes come back from the text of a job. Assumes nothing.
--     nodes_open            the nodes of a shortest path are open; stands_open so is each that a carrier
--                           stands on at a tick, whatever its start tick
--     accepted_ends_open    the start and the goal of each carrier of an accepted job are open
--     accepted_open         the carriers of an accepted job stand on open nodes alone, whatever shortest
--                           paths they take; planned_open those of a job that the program plans
--     house_open, sound_open    so do the house path, and a list that is found sound
--     closed_list_refused   in a job without faults a list that stands on a closed node is refused with 11
--     numbers_closed_come_back, closed_come_back    the closed nodes of a job that was written are read
use mathlib.Core.Path.{◌≡◌, ap, subst}
use mathlib.Core.List.{List}
use Prim.Native.Nat.{ℕ, ◌<◌}
use native.Mathlib.Omega.{arith}
use lib.ListN.{length, get_or, take}
use Rattle.std.proofs.Common.{Result, Ok}
use Rattle.hall.specs.declared.Job.{Job}
use Rattle.hall.specs.declared.Refusal.{Refusal}
use Rattle.hall.specs.Floor.{Network, Closed, Open, floor}
use Rattle.hall.specs.Job.{Numbers, carriers, start, goal}
use Rattle.hall.specs.Stages.{None}
use Rattle.hall.specs.Said.{refused, said_checked}
use Rattle.hall.specs.Questions.{asked_question}
use Rattle.hall.specs.Ticks.{Tables}
use Rattle.hall.specs.Path.{ShortestPath, At}
use Rattle.hall.proofs.Compose.{first_after}
use Rattle.hall.proofs.Places.{asked_here}
use Rattle.hall.proofs.Sound.{ends_on}
use Rattle.records.specs.declared.Record.{Record}
use Rattle.reader.specs.Reading.{said_read, AnyShort, ReadInto}
use Rattle.writer.specs.Writing.{said_written, Writing}
use Rattle.recorded.specs.Job.{record_job}
use Rattle.recorded.specs.Reading.{LentShort, ReadLeft}
use Rattle.recorded.specs.Planning.{tick_of, RecordPlanning}
use Rattle.recorded.specs.Asking.{HouseOfRecords, ListOfRecords}
use Rattle.recorded.specs.Writing.{RecordWriting}
use Rattle.recorded.proofs.Unique.{planned_sound}
use Rattle.recorded.proofs.PathAnswers.{house_shortest, sound_shortest}
use Rattle.demands.specs.Owed.{PlannedAs}
use Rattle.demands.proofs.Demands.{list_refused_exactly}
use Rattle.demands.proofs.Written.{numbers_come_back, job_comes_back}

-- ---- where carriers stand

module _ (N : Network) (s g : ℕ) (path : List ℕ) (shortest : ShortestPath (floor N) s g path) where
  pub nodes_open : (k : ℕ) → k < length path → Open N (get_or path k 0)
  nodes_open k h = shortest.is_path.nodes k (omega (arith, shortest.is_path.size))

  pub stands_open : (w t x v : ℕ) → At w path t x v → Open N v
  stands_open w t x v a = subst (Open N) a.node (nodes_open a.gone a.present)

module _ (N N' : Network) (records records' : List Record) (order order' : List ℕ) (dwell : ℕ)
    (table table' : List ℕ) (cost : ℕ)
    (promise : RecordPlanning N N' records records' order order' dwell table table' (Ok cost)) where
  abbrev accepted_job : Numbers
  accepted_job = record_job N records order dwell

  pub accepted_ends_open : (i : ℕ) → i < carriers accepted_job →
      Open N (start accepted_job i) × Open N (goal accepted_job i)
  accepted_ends_open i h =
      let ends = ends_on accepted_job (planned_sound accepted_job table promise.given.no_fault) in
      (ends.starts i h, ends.goals i h)

  pub accepted_open : (path : ℕ → List ℕ) →
      ((i : ℕ) → i < carriers accepted_job →
      ShortestPath (floor N) (start accepted_job i) (goal accepted_job i) (path i)) →
      (i : ℕ) → i < carriers accepted_job → (x v : ℕ) → At dwell (path i) (tick_of records' i) x v → Open N v
  accepted_open path shortest i h x v =
      stands_open N (start accepted_job i) (goal accepted_job i) (path i) (shortest i h) dwell (tick_of records' i) x v

pub planned_open : {text : List ℕ} {j : Numbers} {t : Tables} {tick : ℕ → ℕ} {cost : ℕ} →
    PlannedAs text j t tick cost → (path : ℕ → List ℕ) →
    ((i : ℕ) → i < carriers j → ShortestPath (floor j.network) (start j i) (goal j i) (path i)) →
    (i : ℕ) → i < carriers j → (x v : ℕ) → At j.dwell (path i) (tick i) x v → Open j.network v
planned_open {j = j} {tick = tick} a path shortest i h x v =
    stands_open j.network (start j i) (goal j i) (path i) (shortest i h) j.dwell (tick i) x v

module _ (N N' : Network) (records records' : List Record) (order order' : List ℕ) (dwell c : ℕ) where
  abbrev its_job : Numbers
  its_job = record_job N records order dwell

  pub house_open : (path path' : List ℕ) (count : ℕ) →
      HouseOfRecords N N' records records' order order' dwell c path path' (Ok count) →
      (k : ℕ) → k < length (take count path') → Open N (get_or (take count path') k 0)
  house_open path path' count a =
      nodes_open N (start its_job c) (goal its_job c) (take count path')
      (house_shortest N records order dwell c N' records' order' path path' count a)

  module _ (list list' : List ℕ) where
    pub sound_open : ListOfRecords N N' records records' order order' dwell c list list' (Ok tt) →
        (k : ℕ) → k < length list → Open N (get_or list k 0)
    sound_open a =
        nodes_open N (start its_job c) (goal its_job c) list
        (sound_shortest N records order dwell c N' records' order' list list' a)

    pub closed_list_refused : (r : Result Unit Refusal) → ListOfRecords N N' records records' order order' dwell c list list' r →
        None (asked_question its_job c) → (k : ℕ) → k < length list → Closed N.closed (get_or list k 0) →
        said_checked r ≡ refused 11 0
    closed_list_refused r a none k h shut =
        (list_refused_exactly N records order dwell c N' records' order' list list' r a 11 0).1
        (first_after none
        (asked_here (λ s. (nodes_open N (start its_job c) (goal its_job c) list s k h).not_closed shut)))

-- ---- there and back

pub numbers_closed_come_back : (lanes closed moves order lanes' closed' moves' order' : List ℕ) (j : Numbers)
    (out out' : List ℕ) (size : ℕ) (r : Result Job Refusal) →
    Writing j out out' (said_written (Ok size)) →
    ¬ AnyShort lanes closed moves order →
    ReadInto (take size out') lanes closed moves order lanes' closed' moves' order' (said_read r) →
    take (length j.network.closed) closed' ≡ j.network.closed
numbers_closed_come_back lanes closed moves order lanes' closed' moves' order' j out out' size r a long b =
    let back =
    numbers_come_back lanes closed moves order lanes' closed' moves' order' j out out' size r a long b in
    ap (λ (k : Numbers). k.network.closed) back.1

pub closed_come_back : {N N' : Network} {records records' : List Record} {order order' : List ℕ} {dwell : ℕ} {out out' : List ℕ}
    {text' lanes₀ lanes₁ closed₀ closed₁ : List ℕ} {records₀ records₁ : List Record} {order₀ order₁ : List ℕ}
    (size : ℕ) (r : Result Job Refusal) →
    RecordWriting N N' records records' order order' dwell out out' (Ok size) →
    ¬ LentShort lanes₀ closed₀ records₀ order₀ →
    ReadLeft (take size out') text' lanes₀ lanes₁ closed₀ closed₁ records₀ records₁ order₀ order₁ r →
    take (length N.closed) closed₁ ≡ N.closed
closed_come_back size r a long b = ap (λ (k : Numbers). k.network.closed) (job_comes_back size r a long b).1

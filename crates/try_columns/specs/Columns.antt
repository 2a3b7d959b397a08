-- Records as numbers and numbers as records, in four columns of 80: starts, goals, distances, ticks (rule
-- 3.10).
--     lendable        80: how many records are made, and how long a column is
--     half_of          a number as a record holds a node or a distance: what is above 65,535 counts as 65,535
--     number_in        the number at a place of a list, and 0 past its end
--     record_from      the record of carrier i: a number from each column
--     records_from     the records of the n carriers from i on
--     made_of          the 80 records of a list of numbers
--     tell_to          the numbers once a record is written to its place in each column that the list has
--     told_from        the numbers once the records of the carriers from i on are written
--     told_to          the numbers once all records are written, from carrier 0 on
use Rattle.std.specs.Prelude.{List, [], ◌∷◌, ℕ, zero, suc, ◌+◌, ◌*◌, min, get_or, set}
use Rattle.records.specs.declared.Record.{Record}

abbrev pub lendable : ℕ
lendable = 80

-- ---- numbers as records

abbrev pub half_of : ℕ → ℕ
half_of x = min x 65535

abbrev pub number_in : List ℕ → ℕ → ℕ
number_in fields at = get_or fields at 0

abbrev pub record_from : List ℕ → ℕ → Record
record_from fields i = record {
  start = half_of (number_in fields i);
  goal = half_of (number_in fields (i + lendable));
  distance = half_of (number_in fields (i + 2 * lendable));
  tick = number_in fields (i + 3 * lendable);
}

abbrev pub records_from : List ℕ → (n i : ℕ) → List Record
records_from fields zero i = []
records_from fields (suc n) i = record_from fields i ∷ records_from fields n (suc i)

unfoldable pub made_of : List ℕ → List Record
made_of fields = records_from fields lendable 0

-- ---- records as numbers

unfoldable pub tell_to : Record → ℕ → List ℕ → List ℕ
tell_to r i fields =
    set
    (set (set (set fields i r.start) (i + lendable) r.goal) (i + 2 * lendable) r.distance)
    (i + 3 * lendable)
    r.tick

abbrev pub told_from : ℕ → List Record → List ℕ → List ℕ
told_from i [] fields = fields
told_from i (r ∷ rs) fields = told_from (suc i) rs (tell_to r i fields)

abbrev pub told_to : List Record → List ℕ → List ℕ
told_to rs fields = told_from 0 rs fields

-- The carriers' records as one list, by carrier number; a record has the start, the goal, the distance and
-- the start tick of its carrier (rule 3.10).
--     blank              what stands past the end of the list
--     record_at           the record of a carrier number, and `blank` past the end of the list
--     with_times          a record with another distance and another tick, and all else the same (rule 9.7)
--     fresh              the record of a move that is not planned: distance and tick are zero (rule 9.5)
--     moves_of            the starts and goals of all records, by turns (rule 1.7)
--     moved rs ms        the numbers ms once the moves of rs are written over their front, as many as have
--                        room whole
--     timed n rs ds ks   the records rs once the first n have the distances ds and the ticks ks; none is
--                        changed that lacks either
--     placed n rs ms     the records rs once the first n are those of the moves ms, unplanned; none is
--                        changed that has no move
use Rattle.std.specs.Prelude.{ℕ, zero, suc, List, [], ◌∷◌, get_or}
use Rattle.records.specs.declared.Record.{Record}

abbrev pub blank : Record
blank = record { start = 0; goal = 0; distance = 0; tick = 0 }

abbrev pub record_at : List Record → ℕ → Record
record_at rs i = get_or rs i blank

abbrev pub with_times : Record → ℕ → ℕ → Record
with_times r d k = record { start = r.start; goal = r.goal; distance = d; tick = k }

abbrev pub fresh : ℕ → ℕ → Record
fresh s g = record { start = s; goal = g; distance = 0; tick = 0 }

abbrev pub moves_of : List Record → List ℕ
moves_of [] = []
moves_of (r ∷ rs) = r.start ∷ r.goal ∷ moves_of rs

abbrev pub moved : List Record → List ℕ → List ℕ
moved [] ms = ms
moved (r ∷ rs) [] = []
moved (r ∷ rs) (a ∷ []) = a ∷ []
moved (r ∷ rs) (a ∷ b ∷ ms) = r.start ∷ r.goal ∷ moved rs ms

abbrev pub timed : ℕ → List Record → List ℕ → List ℕ → List Record
timed zero rs ds ks = rs
timed (suc n) [] ds ks = []
timed (suc n) (r ∷ rs) [] ks = r ∷ rs
timed (suc n) (r ∷ rs) (d ∷ ds) [] = r ∷ rs
timed (suc n) (r ∷ rs) (d ∷ ds) (k ∷ ks) = with_times r d k ∷ timed n rs ds ks

abbrev pub placed : ℕ → List Record → List ℕ → List Record
placed zero rs ms = rs
placed (suc n) [] ms = []
placed (suc n) (r ∷ rs) [] = r ∷ rs
placed (suc n) (r ∷ rs) (s ∷ []) = r ∷ rs
placed (suc n) (r ∷ rs) (s ∷ g ∷ ms) = fresh s g ∷ placed n rs ms

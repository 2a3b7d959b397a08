-- What reading the next case leaves. Which case it is, and which bytes its payload has, comes from standard
-- input: no contract says what is read, so no promise can fix it.
--     payload_room     how many bytes the room for a payload has; no payload of a batch has more
--     CaseRead space space' case
--                     a case's payload takes no more bytes than the space has, and the space is as long as
--                     it came; at the end of the batch the space is as it came
use Rattle.std.specs.Prelude.{◌≡◌, List, ℕ, ◌≤◌, length, Option, Some, None}
use Rattle.try_batch.specs.declared.Case.{Case}

abbrev pub payload_room : ℕ
payload_room = 262144

abbrev pub CaseRead : (space space' : List ℕ) → Option Case → Type 0
CaseRead space space' (Some case) = (case.count ≤ length space) × (length space' ≡ length space)
CaseRead space space' None = space' ≡ space

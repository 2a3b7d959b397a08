-- The numbers and lists of a payload, lowest byte first (second/README.md, "Batch format"), for every payload
-- and every place: past its end there are zeros. s is a payload or the rest of one.
--     byte_in s at           the byte at a place
--     short_in s at          the number of two bytes at a place
--     long_in s at           the number of four bytes at a place
--     shorts_in s n          the first n numbers of two bytes each
--     shorts_over s n list   what a list holds once these are loaded over its front, or as many of them as it
--                           has places; what it held behind them stays
--     list_room              how many places the room for a list has: the most that two bytes can count
--     list_in s room         the list that stands at the front, or as much of it as there is room for: two
--                           bytes count its numbers, which stand behind
--     behind_list s          what stands behind that list
--     job_room               how many places the room for a list of a job has: no more of it are taken
--     body_in s              what stands behind the four numbers and the two lists of a payload: a text, or a
--                           job from numbers
use Rattle.std.specs.Prelude.{List, [], ◌∷◌, ◌++◌, ℕ, zero, suc, ◌+◌, ◌*◌, min, length, get_or, drop}

abbrev pub byte_in : List ℕ → (at : ℕ) → ℕ
byte_in s at = get_or s at 0

unfoldable pub short_in : List ℕ → (at : ℕ) → ℕ
short_in s at = byte_in s at + 256 * byte_in s (at + 1)

unfoldable pub long_in : List ℕ → (at : ℕ) → ℕ
long_in s at = short_in s at + 65536 * short_in s (at + 2)

unfoldable pub shorts_in : List ℕ → (n : ℕ) → List ℕ
shorts_in s zero = []
shorts_in s (suc n) = shorts_in s n ++ short_in s (2 * n) ∷ []

unfoldable pub shorts_over : List ℕ → (n : ℕ) (list : List ℕ) → List ℕ
shorts_over s n list = shorts_in s (min n (length list)) ++ drop n list

abbrev pub list_room : ℕ
list_room = 65535

abbrev pub list_in : List ℕ → (room : ℕ) → List ℕ
list_in s room = shorts_in (drop 2 s) (min (short_in s 0) room)

abbrev pub behind_list : List ℕ → List ℕ
behind_list s = drop (2 + 2 * short_in s 0) s

abbrev pub job_room : ℕ
job_room = 16384

abbrev pub body_in : List ℕ → List ℕ
body_in s = behind_list (behind_list (drop 8 s))

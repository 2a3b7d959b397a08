-- A list's numbers in rows of one size, as the lines of a section have them (rules 7.2 and 7.3). The promise of
-- writing does not speak of them: form's `pairs` and `singles` are the rows of two and of one.
--     rows       so many rows of a list, from its front
--     rows_of    all rows of a list; last numbers that are too few for a row are in none (rule 1.7)
use Rattle.std.specs.Prelude.{List, [], ◌∷◌, ℕ, zero, suc, ◌/◌, length, take, drop}

unfoldable pub rows : (size count : ℕ) → List ℕ → List (List ℕ)
rows size zero l = []
rows size (suc count) l = take size l ∷ rows size count (drop size l)

abbrev pub rows_of : (size : ℕ) → List ℕ → List (List ℕ)
rows_of size l = rows size (length l / size) l

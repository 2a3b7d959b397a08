-- The words of the sections, by their letters' bytes (rules 7.1, 7.17 and 7.18).
use Rattle.std.specs.Prelude.{List, [], ◌∷◌, ℕ}

unfoldable pub NODES : List ℕ
NODES = 78 ∷ 79 ∷ 68 ∷ 69 ∷ 83 ∷ []

unfoldable pub LANES : List ℕ
LANES = 76 ∷ 65 ∷ 78 ∷ 69 ∷ 83 ∷ []

unfoldable pub CLOSED : List ℕ
CLOSED = 67 ∷ 76 ∷ 79 ∷ 83 ∷ 69 ∷ 68 ∷ []

unfoldable pub CARRIERS : List ℕ
CARRIERS = 67 ∷ 65 ∷ 82 ∷ 82 ∷ 73 ∷ 69 ∷ 82 ∷ 83 ∷ []

unfoldable pub ORDER : List ℕ
ORDER = 79 ∷ 82 ∷ 68 ∷ 69 ∷ 82 ∷ []

unfoldable pub DWELL : List ℕ
DWELL = 68 ∷ 87 ∷ 69 ∷ 76 ∷ 76 ∷ []

-- The texts that the program prints (rules 10.1, 10.2 and 10.4), as lists of bytes. Their lines are those of
-- a job text (form/specs/Lines), with numbers of as many digits as they need.
--     print_room           2,048 bytes, which hold the text of any plan
--     PLAN, COST, REFUSED    the words, by their letters' bytes
--     carrier_line         a carrier's line: its number, its start tick, its distance and its goal tick, which
--                         is the sum of the two before
--     carrier_lines        the lines of the carriers below k, by rising number
--     plan_text            the text of a plan: `PLAN k`, the carriers' lines, `COST c`
--     refused_text         the text of a refusal: `REFUSED r l`, with the listed number and the line
use Rattle.std.specs.Prelude.{ℕ, zero, suc, ◌+◌, List, [], ◌∷◌, ◌++◌}
use Rattle.form.specs.Lines.{further, entry_line, count_line}

abbrev pub print_room : ℕ
print_room = 2048

abbrev pub PLAN : List ℕ
PLAN = 80 ∷ 76 ∷ 65 ∷ 78 ∷ []

abbrev pub COST : List ℕ
COST = 67 ∷ 79 ∷ 83 ∷ 84 ∷ []

abbrev pub REFUSED : List ℕ
REFUSED = 82 ∷ 69 ∷ 70 ∷ 85 ∷ 83 ∷ 69 ∷ 68 ∷ []

unfoldable pub carrier_line : (carrier tick distance : ℕ) → List ℕ
carrier_line carrier tick distance = entry_line (carrier ∷ tick ∷ distance ∷ (tick + distance) ∷ [])

unfoldable pub carrier_lines : (k : ℕ) (tick distance : ℕ → ℕ) → List ℕ
carrier_lines zero tick distance = []
carrier_lines (suc k) tick distance = carrier_lines k tick distance ++ carrier_line k (tick k) (distance k)

unfoldable pub plan_text : (k : ℕ) (tick distance : ℕ → ℕ) (cost : ℕ) → List ℕ
plan_text k tick distance cost = count_line PLAN k ++ (carrier_lines k tick distance ++ count_line COST cost)

unfoldable pub refused_text : (number line : ℕ) → List ℕ
refused_text number line = REFUSED ++ further (number ∷ line ∷ [])

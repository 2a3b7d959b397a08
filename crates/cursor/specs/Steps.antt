-- What a cursor's methods answer, said of the lines of the form (crate form, specs/Lines.antt): each takes
-- one line off the front of what is left of the text, or tells that no such line stands there.
--     line_limit     lines are counted up to here; as far as a reader of a job text comes there are fewer
--                   (`reached_within` of crate form), since each line has a byte
--     Behind        the next cursor stands behind a line: in the text or at its end, so that the rest tells
--                   where it stands, and one line further, up to that limit
--     CountTaken    a line of the word and this count was taken, and the word's letters are capital letters;
--                   `Counting` what the question for it answers
--     EntryTaken    a line of these numbers was taken; `Entering` and `EnteringTwo` what the questions for a
--                   line of one and of two numbers answer
use Rattle.std.specs.Prelude.{◌≡◌, List, [], ◌∷◌, Option, None, Some, ℕ, suc, ◌≤◌, min, length, drop}
use Rattle.form.specs.Lines.{Counted, Entered}
use Rattle.cursor.specs.Bytes.{Capitals}
use Rattle.cursor.specs.declared.Cursor.{Cursor}

abbrev pub line_limit : ℕ
line_limit = 100000

pub record Behind (text : List ℕ) (c next : Cursor) (rest : List ℕ) : Type 0 where
  pub within : next.at ≤ length text
  pub is_rest : rest ≡ drop next.at text
  pub next_line : next.line ≡ min (suc c.line) line_limit

pub record CountTaken (text word : List ℕ) (c : Cursor) (n : ℕ) (next : Cursor) : Type 0 where
  pub capitals : Capitals word
  pub taken : Counted word (drop c.at text)
  pub is_count : taken.n ≡ n
  pub behind : Behind text c next taken.rest

abbrev pub Counting : (text word : List ℕ) (c : Cursor) → Option (ℕ × Cursor) → Type 0
Counting text word c (Some (n, next)) = CountTaken text word c n next
Counting text word c None = Capitals word → ¬ Counted word (drop c.at text)

pub record EntryTaken (text : List ℕ) (c : Cursor) (e : List ℕ) (next : Cursor) : Type 0 where
  pub taken : Entered (length e) (drop c.at text)
  pub is_entry : taken.e ≡ e
  pub behind : Behind text c next taken.rest

abbrev pub Entering : (text : List ℕ) (c : Cursor) → Option (ℕ × Cursor) → Type 0
Entering text c (Some (n, next)) = EntryTaken text c (n ∷ []) next
Entering text c None = ¬ Entered 1 (drop c.at text)

abbrev pub EnteringTwo : (text : List ℕ) (c : Cursor) → Option (ℕ × ℕ × Cursor) → Type 0
EnteringTwo text c (Some (a, b, next)) = EntryTaken text c (a ∷ b ∷ []) next
EnteringTwo text c None = ¬ Entered 2 (drop c.at text)

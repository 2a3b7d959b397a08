-- Sections as data, and what has been read of them (rules 7.1 and 8.2). Which sections a job text has is said
-- in JobText.antt, which checks an entry has in Entries.antt, and what a job says in each in Jobs.antt; to
-- add a section is to add to these, with its word (Words.antt) and the kind of its entries (`Entry`).
--     Limits         which counts fit: from a least to a greatest one; or the count of an earlier section, at
--                    most a greatest one
--     Entry          what the entries of a section are: there are none, or lanes, closed nodes, moves, places
--                    of the order
--     Section        its word; how many numbers a line has, none for a section without lines; whether it may
--                    be missing; the limits of its count; and what its entries are
--     Form           the sections of a text, in their order
--     Content        what a text says in a section: its word, its count, and its entries, each a list of
--                    numbers
--     content        the content of a word, a count and entries
--     numbers_in      the numbers of entries in one list
--     same_words       two words are the same, as a test
--     count_of        the count of the section with a word among the sections read; 0 if it is missing
--     numbers_of      the numbers of the section with a word among the sections read; none if it is missing
--     due            how many lines of entries belong to a count; `due_by` by how many numbers a line has
--     CountFits      a count fits, so that refusal 2 does not hold of it
use Rattle.std.specs.Prelude.{◌≡◌, List, [], ◌∷◌, ◌++◌, Bool, true, false, cond, ℕ, zero, suc, ◌≤◌, eqb}

pub data Limits : Type 0 where
  between : (least most : ℕ) → Limits
  like : (word : List ℕ) (most : ℕ) → Limits

pub data Entry : Type 0 where
  none : Entry
  lane : Entry
  closed_node : Entry
  move : Entry
  place : Entry

pub record Section : Type 0 where
  pub word : List ℕ
  pub size : ℕ
  pub optional : Bool
  pub limits : Limits
  pub entry : Entry

abbrev pub Form : Type 0
Form = List Section

pub record Content : Type 0 where
  pub word : List ℕ
  pub count : ℕ
  pub entries : List (List ℕ)

abbrev pub content : (word : List ℕ) (count : ℕ) (entries : List (List ℕ)) → Content
content word count entries = record { word = word; count = count; entries = entries }

unfoldable pub numbers_in : List (List ℕ) → List ℕ
numbers_in [] = []
numbers_in (e ∷ es) = e ++ numbers_in es

-- ---- sections by their words

unfoldable pub same_words : List ℕ → List ℕ → Bool
same_words [] [] = true
same_words [] (b ∷ v) = false
same_words (a ∷ w) [] = false
same_words (a ∷ w) (b ∷ v) = cond (eqb a b) (same_words w v) false

unfoldable pub count_of : (word : List ℕ) → List Content → ℕ
count_of w [] = 0
count_of w (c ∷ read) = cond (same_words w c.word) c.count (count_of w read)

unfoldable pub numbers_of : (word : List ℕ) → List Content → List ℕ
numbers_of w [] = []
numbers_of w (c ∷ read) = cond (same_words w c.word) (numbers_in c.entries) (numbers_of w read)

-- ---- a section's count

-- a section whose lines would have no numbers has no lines
abbrev pub due_by : (size count : ℕ) → ℕ
due_by zero count = 0
due_by (suc n) count = count

abbrev pub due : Section → (count : ℕ) → ℕ
due s count = due_by s.size count

abbrev pub CountFits : Limits → List Content → (count : ℕ) → Type 0
CountFits (between least most) read n = (least ≤ n) × (n ≤ most)
CountFits (like word most) read n = (n ≡ count_of word read) × (n ≤ most)

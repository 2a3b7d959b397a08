-- How far a text has come: a prefix of its contents, line by line (rule 7.8). Nothing here reads a text: a
-- stand is what fine lines say, and `NextLine` which line may follow.
--     Stand          nothing yet; or behind a line of section s, with the sections before it, what the lines
--                    of s say so far, and the sections left
--     contents       what has been said up to a stand
--     behind         the sections that are left at a stand
--     Whole          the section at hand has all its lines
--     NextLine       a line has the form that is expected at a stand, and this is the stand behind it. Where
--                    the line of a section that may be missing does not stand, that of the next is expected
--     PassesAt       the line before a stand passes its checks
--     Faulty         it does not, and this is the number of the first check that holds
--     Fine           each line up to a stand has its form and passes its checks
--     Ends           a text may end here: no line that must stand is left
use Rattle.std.specs.Prelude.{◌≡◌, List, [], ◌∷◌, ◌++◌, ℕ, ◌<◌, length}
use Rattle.form.specs.Lines.{Small, entry_line, count_line}
use Rattle.form.specs.Sections.{Section, Form, Content, content, due}
use Rattle.form.specs.Contents.{Picks, MayLack, LinePasses, LineFaulty}

pub data Stand : Type 0 where
  start : Stand
  within : (read : List Content) (s : Section) (count : ℕ) (entries : List (List ℕ)) (left : Form) → Stand

abbrev pub contents : Stand → List Content
contents start = []
contents (within read s n es left) = read ++ (content s.word n es ∷ [])

abbrev pub behind : Form → Stand → Form
behind F start = F
behind F (within read s n es left) = left

abbrev pub Whole : Stand → Type 0
Whole start = Unit
Whole (within read s n es left) = length es ≡ due s n

pub data NextLine (F : Form) : Stand → (line : List ℕ) → Stand → Type 0 where
  count : (st : Stand) (s : Section) (n : ℕ) (left : Form) → Whole st → Picks (behind F st) s left
      → n < 10000
      → NextLine F st (count_line s.word n) (within (contents st) s n [] left)
  entry : (read : List Content) (s : Section) (n : ℕ) (es : List (List ℕ)) (left : Form) (e : List ℕ)
      → length es < due s n → length e ≡ s.size → Small e
      → NextLine F (within read s n es left) (entry_line e) (within read s n (es ++ (e ∷ [])) left)

abbrev pub PassesAt : Stand → Type 0
PassesAt start = Unit
PassesAt (within read s n es left) = LinePasses read s n es

abbrev pub Faulty : Stand → (number : ℕ) → Type 0
Faulty start f = ⊥
Faulty (within read s n es left) f = LineFaulty read s n es f

pub data Fine (F : Form) : Stand → Type 0 where
  nothing : Fine F start
  onward : (st to : Stand) (line : List ℕ) → Fine F st → NextLine F st line to → PassesAt to → Fine F to

abbrev pub Ends : Form → Stand → Type 0
Ends F st = Whole st × MayLack (behind F st)

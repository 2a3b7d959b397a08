-- What a text says, its written form, and when it has no fault, section by section (rules 7.1, 7.9, 7.17,
-- 7.18, 8.2 to 8.7, 8.12 and 8.13).
--     written        the written form of contents
--     line_count      how many lines it has
--     Picks          Picks more s left: of the sections `more` the section s may come next, which is the
--                    first of them or stands behind others that may all be missing; `left` are those behind s
--     MayLack        all of these sections may be missing
--     LinePasses     the last line so far of a section passes its checks: its count fits, if it has no
--                    entries yet; otherwise no check holds of its last entry
--     LineFaulty     it does not, and this is the number of the first check that holds
--     EachPasses     each entry has its numbers and passes its checks, in turn behind the entries before it
--     SoundSection   a section without a fault
--     Sound          contents without a fault: the sections that stand come in their order, and none that
--                    must stand is missing
use Rattle.std.specs.Prelude.{◌≡◌, List, [], ◌∷◌, ◌++◌, true, ℕ, ◌+◌, ◌<◌, length}
use Rattle.hall.specs.declared.Fault.TheVariants.{BadCount}
use Rattle.hall.specs.Numbers.{number_of}
use Rattle.hall.specs.Stages.{ClearAt, FirstAt}
use Rattle.form.specs.Lines.{Small, entry_lines, count_line}
use Rattle.form.specs.Sections.{Section, Form, Content, content, CountFits, due, numbers_in}
use Rattle.form.specs.Entries.{checks_of}

unfoldable pub written : List Content → List ℕ
written [] = []
written (c ∷ cs) = (count_line c.word c.count ++ entry_lines c.entries) ++ written cs

unfoldable pub line_count : List Content → ℕ
line_count [] = 0
line_count (c ∷ cs) = 1 + length c.entries + line_count cs

-- ---- the order of the sections

pub data Picks : Form → Section → Form → Type 0 where
  first : (s : Section) (left : Form) → Picks (s ∷ left) s left
  past : (o s : Section) (more left : Form) → o.optional ≡ true → Picks more s left
      → Picks (o ∷ more) s left

abbrev pub MayLack : Form → Type 0
MayLack [] = Unit
MayLack (s ∷ left) = (s.optional ≡ true) × MayLack left

-- ---- the checks of one line, behind the sections read. Of the entries e ∷ es the last is at place
-- `length es`

abbrev pub LinePasses : (read : List Content) (s : Section) (count : ℕ) (entries : List (List ℕ)) → Type 0
LinePasses read s n [] = CountFits s.limits read n
LinePasses read s n (e ∷ es) = ClearAt (checks_of s.entry read (numbers_in (e ∷ es))) (length es)

abbrev pub LineFaulty : (read : List Content) (s : Section) (count : ℕ) (entries : List (List ℕ))
    → (number : ℕ) → Type 0
LineFaulty read s n [] f = (f ≡ number_of BadCount) × ¬ CountFits s.limits read n
LineFaulty read s n (e ∷ es) f = FirstAt (checks_of s.entry read (numbers_in (e ∷ es))) f (length es)

-- ---- contents without a fault

abbrev pub EachPasses : (read : List Content) (s : Section) (count : ℕ) (before entries : List (List ℕ))
    → Type 0
EachPasses read s n before [] = Unit
EachPasses read s n before (e ∷ es) =
    (length e ≡ s.size)
    × Small e
    × LinePasses read s n (before ++ (e ∷ []))
    × EachPasses read s n (before ++ (e ∷ [])) es

pub record SoundSection (read : List Content) (s : Section) (n : ℕ) (es : List (List ℕ)) : Type 0 where
  pub small : n < 10000
  pub fits : CountFits s.limits read n
  pub counted : length es ≡ due s n
  pub passes : EachPasses read s n [] es

pub data Sound : (read : List Content) (left : Form) → List Content → Type 0 where
  over : (read : List Content) (left : Form) → MayLack left → Sound read left []
  stands : (read : List Content) (more left : Form) (s : Section) (n : ℕ) (es : List (List ℕ))
      (cs : List Content)
      → Picks more s left → SoundSection read s n es
      → Sound (read ++ (content s.word n es ∷ [])) left cs
      → Sound read more (content s.word n es ∷ cs)

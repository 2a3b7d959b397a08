-- An accepted text has bytes of four of the five kinds: digits, spaces, line feeds and capital letters (rule
-- 7.5). What the form writes is words, digits, spaces and line feeds, one behind the other. So a byte of any
-- other kind, wherever it stands, is a fault. Assumes nothing.
--     Known              no byte of a list is of the kind "other"
--     accepted_kinds     so it is of the text of a job
use mathlib.Core.Path.{◌≡◌, sym, ◌∙◌, subst}
use mathlib.Core.List.{List, [], ◌∷◌, ◌++◌}
use Prim.Native.Nat.{ℕ, zero, suc}
use native.Mathlib.Omega.{arith}
use Rattle.hall.specs.Job.{Numbers}
use Rattle.put.specs.Digits.{digits}
use Rattle.put.proofs.Digits.{AllDigits, digits_each}
use Rattle.form.specs.Lines.{further, entry_line, count_line, entry_lines}
use Rattle.form.specs.Sections.{Content}
use Rattle.form.specs.Contents.{written}
use Rattle.form.specs.Jobs.{pairs, singles, closed_contents, dwell_contents, contents_of, WrittenJob}
use Rattle.cursor.specs.declared.bytes.Kind.{Kind}
use Rattle.cursor.specs.declared.bytes.Kind.TheVariants.{Digit, Space, LineFeed, Capital, Other}
use Rattle.cursor.specs.Bytes.{kind_of, Capitals}
use Rattle.cursor.proofs.ByteKinds.{kind_digit, kind_space, kind_line_feed, kind_capital}
use Rattle.network.specs.declared.entries.Entries.TheVariants.{Lanes, Closed, Moves, Places}
use Rattle.reader.specs.declared.sections.Sections.TheVariants.{Nodes, Dwell, Listed}
use Rattle.reader.proofs.SectionKinds.{capitals}

abbrev pub Known : List ℕ → Type 0
Known [] = Unit
Known (b ∷ t) = (¬ (kind_of b ≡ Other)) × Known t

-- ---- kinds

abbrev others : Kind → ℕ
others Digit = 0
others Space = 0
others LineFeed = 0
others Capital = 0
others Other = 1

not_other : (b : ℕ) (k : Kind) → others k ≡ 0 → kind_of b ≡ k → ¬ (kind_of b ≡ Other)
not_other b k none is other =
    let same : k ≡ Other = sym is ∙ other in
    let z : others k ≡ 1 = subst (λ (x : Kind). others x ≡ 1) (sym same) (λ i. 1) in
    let y : ⊥ = omega arith in
    y

space_known : ¬ (kind_of 32 ≡ Other)
space_known = not_other 32 Space (λ i. 0) (kind_space 32 (λ i. 32))

feed_known : ¬ (kind_of 10 ≡ Other)
feed_known = not_other 10 LineFeed (λ i. 0) (kind_line_feed 10 (λ i. 10))

-- ---- what the form writes

known_append : (a b : List ℕ) → Known a → Known b → Known (a ++ b)
known_append [] b x y = y
known_append (c ∷ a) b x y = (x.0, known_append a b x.1 y)

all_known : (l : List ℕ) → AllDigits l → Known l
all_known [] x = tt
all_known (b ∷ l) x =
    (not_other b Digit (λ i. 0) (kind_digit b x.0 x.1), all_known l x.2)

word_known : (w : List ℕ) → Capitals w → Known w
word_known [] x = tt
word_known (b ∷ w) x =
    (not_other b Capital (λ i. 0) (kind_capital b x.0 x.1), word_known w x.2)

further_known : (e : List ℕ) → Known (further e)
unfolding further
further_known [] = (feed_known, tt)
further_known (b ∷ e) =
    (space_known, known_append (digits b) (further e) (all_known (digits b) (digits_each b)) (further_known e))

entry_known : (e : List ℕ) → Known (entry_line e)
unfolding entry_line
entry_known [] = further_known []
entry_known (a ∷ e) =
    known_append (digits a) (further e) (all_known (digits a) (digits_each a)) (further_known e)

entries_known : (es : List (List ℕ)) → Known (entry_lines es)
unfolding entry_lines
entries_known [] = tt
entries_known (e ∷ es) = known_append (entry_line e) (entry_lines es) (entry_known e) (entries_known es)

section_known : (w : List ℕ) (n : ℕ) (es : List (List ℕ)) (rest : List ℕ) → Capitals w → Known rest
    → Known ((count_line w n ++ entry_lines es) ++ rest)
unfolding count_line
section_known w n es rest c k =
    let line = known_append w (further (n ∷ [])) (word_known w c) (further_known (n ∷ [])) in
    let whole = known_append (w ++ further (n ∷ [])) (entry_lines es) line (entries_known es) in
    known_append ((w ++ further (n ∷ [])) ++ entry_lines es) rest whole k

closed_known : (closed : List ℕ) (rest : List Content) → Known (written rest)
    → Known (written (closed_contents closed ++ rest))
unfolding written
closed_known [] rest k = k
closed_known (v ∷ l) rest k = section_known _ _ (singles (v ∷ l)) _ (capitals (Listed Closed)) k

dwell_known : (w : ℕ) → Known (written (dwell_contents w))
unfolding written
dwell_known zero = tt
dwell_known (suc w) = section_known _ _ [] [] (capitals Dwell) tt

job_known : (j : Numbers) → Known (written (contents_of j))
unfolding written
job_known j =
    section_known _ _ [] _ (capitals Nodes)
    (section_known _ _ (pairs j.network.lanes) _ (capitals (Listed Lanes))
    (closed_known j.network.closed _
    (section_known _ _ (pairs j.moves) _ (capitals (Listed Moves))
    (section_known _ _ (singles j.order) _ (capitals (Listed Places)) (dwell_known j.dwell)))))

pub accepted_kinds : (t : List ℕ) (j : Numbers) → WrittenJob t j → Known t
accepted_kinds t j w = subst Known (sym w.writes) (job_known j)

-- How long an accepted text can be: each section has room for its line and for as many entries as its limits
-- allow, and each line takes no more than its share. At every stand, what is written and the room for what
-- may still come are within the room of all sections. Assumes nothing.
--     most             the greatest count that fits
--     section_room      the word, a space, four digits and a line feed; and five bytes for each number of the
--                      entries
--     room             the room of sections, a sum
--     RoomAt           what is written up to a stand leaves room for what may still come
--     line_within      the line that comes next keeps within the room, whether it passes its checks or not
--     reached_within   a reader's line number is no greater than the room and 1
--     accepted_room    an accepted text is no longer than the room of the form's sections
use mathlib.Core.Path.{◌≡◌, refl, ◌∙◌, ap}
use mathlib.Core.List.{List, [], ◌∷◌}
use Prim.Native.Nat.{ℕ, zero, suc, ◌+◌, ◌*◌, ◌≤◌, ◌<◌}
use native.Mathlib.Nat.{suc-mul}
use native.Mathlib.Omega.{arith}
use lib.ListN.{length, length-append}
use Rattle.form.specs.Lines.{Small, entry_line, count_line}
use Rattle.form.specs.Sections.{Section, Form, Content, Limits, between, like, CountFits, due_by}
use Rattle.form.specs.Contents.{Picks, first, past, written, line_count}
use Rattle.form.specs.Stands.{Stand, start, within, contents, behind, NextLine, count, entry, PassesAt, Fine}
use Rattle.form.specs.Stands.{nothing, onward}
use Rattle.form.specs.Texts.{WrittenForm}
use Rattle.form.specs.Reached.{Reached}
use Rattle.form.proofs.LineForms.{count_length, entry_length}
use Rattle.form.proofs.SoundTexts.{sound_finished}
use Rattle.form.proofs.Steps.{next_written, next_counted, next_some}

abbrev pub most : Limits → ℕ
most (between a b) = b
most (like w b) = b

abbrev pub section_room : Section → ℕ
section_room s = length s.word + 6 + most s.limits * (5 * s.size)

unfoldable pub room : Form → ℕ
room [] = 0
room (s ∷ left) = section_room s + room left

fits_most : (l : Limits) (read : List Content) (n : ℕ) → CountFits l read n → n ≤ most l
fits_most (between a b) read n h = h.1
fits_most (like w b) read n h = h.1

picks_room : {more left : Form} {s : Section} → Picks more s left
    → section_room s + room left ≤ room more
unfolding room
picks_room (first s left) = omega arith
picks_room (past o s more left h p) = omega (arith, picks_room p)

due_most : (size n m : ℕ) → n ≤ m → due_by size n ≤ m
due_most zero n m h = omega arith
due_most (suc size) n m h = h

line_room : (e : List ℕ) (size n k : ℕ) → k < due_by size n → length e ≡ size → Small e
    → length (entry_line e) ≤ 5 * size
line_room [] zero n k h l s = absurd (let x : ⊥ = omega arith in x)
line_room [] (suc size) n k h l s = absurd (let x : ⊥ = omega arith in x)
line_room (a ∷ e) size n k h l s = omega (arith, entry_length a e s)

-- `spare` entries of the section at hand may still come
pub record Roomy (F : Form) (st : Stand) (s : Section) (n : ℕ) (es : List (List ℕ))
    (left : Form) : Type 0 where
  pub spare : ℕ
  pub counts : spare + length es ≡ most s.limits
  pub within_limits : n ≤ most s.limits
  pub has_room : length (written (contents st)) + (spare * (5 * s.size) + room left) ≤ room F

abbrev pub RoomAt : Form → Stand → Type 0
RoomAt F start = Unit
RoomAt F (within read s n es left) = Roomy F (within read s n es left) s n es left

one_less : (spare k m b : ℕ) → spare + k ≡ m → k < m → (p : ℕ) × (spare ≡ suc p) × (spare * b ≡ p * b + b)
one_less zero k m b e h = absurd (let x : ⊥ = omega arith in x)
one_less (suc p) k m b e h = (p, refl, suc-mul p b)

module _ (F : Form) where
  left_room : (st : Stand) → RoomAt F st
      → length (written (contents st)) + room (behind F st) ≤ room F
  unfolding written
  left_room start r = omega arith
  left_room (within read s n es left) r = omega (arith, r.has_room)

  next_room : {st to : Stand} {line : List ℕ} → NextLine F st line to → PassesAt to → RoomAt F st → RoomAt F to
  next_room (count st s n left w p h) fits r =
      let line = count_line s.word n in
      let grown = ap length (next_written F (count st s n left w p h))
      ∙ length-append (written (contents st)) line in
      let long = count_length s.word n h in
      let fit = picks_room p in
      let so_far = left_room st r in
      record {
        spare = most s.limits;
        counts = omega arith;
        within_limits = fits_most s.limits (contents st) n fits;
        has_room = omega arith;
      }
  next_room (entry read s n es left e lt sz sm) ok r =
      let m = most s.limits in
      let less = one_less r.spare (length es) m (5 * s.size) r.counts
      (omega (arith, due_most s.size n m r.within_limits)) in
      let grown =
      ap length (next_written F (entry read s n es left e lt sz sm))
      ∙ length-append (written (contents (within read s n es left))) (entry_line e) in
      let long = line_room e s.size n (length es) lt sz sm in
      let more = length-append es (e ∷ []) in
      let x = less.1 in
      let y = less.2 in
      let z = r.has_room in
      let c = r.counts in
      record {
        spare = less.0;
        counts = omega arith;
        within_limits = r.within_limits;
        has_room = omega arith;
      }

  -- ---- what is written up to a stand, and the line that comes next, keep within the room

  pub written_within : (st : Stand) → RoomAt F st → length (written (contents st)) ≤ room F
  written_within st r = omega (arith, left_room st r)

  pub line_within : {st to : Stand} {line : List ℕ} → NextLine F st line to → RoomAt F st
      → length (written (contents st)) + length line ≤ room F
  line_within (count st s n left w p h) r =
      omega (arith, count_length s.word n h, picks_room p, left_room st r)
  line_within (entry read s n es left e lt sz sm) r =
      let m = most s.limits in
      let less = one_less r.spare (length es) m (5 * s.size) r.counts
      (omega (arith, due_most s.size n m r.within_limits)) in
      let y = less.2 in
      let z = r.has_room in
      let long = line_room e s.size n (length es) lt sz sm in
      omega arith

  pub fine_room : {st : Stand} → Fine F st → RoomAt F st
  fine_room nothing = tt
  fine_room (onward st to line h x p) = next_room x p (fine_room h)

  -- ---- line numbers are within it too: each line has a byte

  fine_lines : {st : Stand} → Fine F st → line_count (contents st) ≤ length (written (contents st))
  unfolding written line_count
  fine_lines nothing = omega arith
  fine_lines (onward st to line h x p) =
      let more = ap length (next_written F x) ∙ length-append (written (contents st)) line in
      omega (arith, fine_lines h, next_counted F x, next_some F x)

  pub reached_within : {text rest : List ℕ} {st : Stand} {line : ℕ} → Reached F text st rest line
      → line ≤ suc (room F)
  reached_within {st = st} r =
      omega (arith, r.here, fine_lines r.fine, written_within st (fine_room r.fine))

  pub accepted_room : (t : List ℕ) (c : List Content) → WrittenForm F t c → length t ≤ room F
  accepted_room t c w =
      let x = sound_finished F c w.sound in
      let r = left_room x.stand (fine_room x.fine) in
      let e = ap length (w.writes ∙ ap written x.says) in
      omega arith

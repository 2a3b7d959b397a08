-- The text of a job by its parts, as the code puts them: a section's line is its word, a space and a field;
-- lines of entries grow by one behind the others, each by its fields; and the text is its sections one behind
-- the other. Assumes nothing.
--     count_parts                a section's line by its parts
--     PutUpTo                    what is put is all but the rest; up_to_none, up_to_more and up_to_all are the
--                                steps of a loop that puts one part after the other
--     next_number, last_number   a line by its numbers, one behind the other
--     first_row, no_row          lines of one size by the first; what is too short for one is left out
--     rows_of_two, rows_of_one   rows of two numbers are pairs, and rows of one are singles
--     closed_unwritten, closed_written    the section of the closed nodes: nothing, or its line and entries
--     dwell_unwritten, dwell_written      the line of the dwell: nothing, or the line
--     job_parts                  the text of a job by the lines of its sections
use mathlib.Core.Path.{◌≡◌, refl, sym, ◌∙◌, ap}
use mathlib.Core.Logic.{◌≢◌}
use mathlib.Core.List.{List, [], ◌∷◌, ◌++◌, append_assoc, append-nil}
use Prim.Native.Nat.{ℕ, zero, suc, ◌+◌, ◌/◌, ◌<◌}
use native.Mathlib.Numerals.{add-one}
use native.Mathlib.Omega.{arith}
use lib.ListN.{length, drop, get_or}
use Rattle.std.proofs.Math.Nat.{add-div_left, div-eq_of_lt}
use Rattle.std.proofs.Math.Seq.{take-append_seam, drop-append_seam}
use Rattle.std.proofs.lemmas.List.{length-append}
use Rattle.hall.specs.Floor.{lanes_in}
use Rattle.hall.specs.Job.{Numbers, carriers}
use Rattle.put.specs.declared.Out.{Out}
use Rattle.put.specs.Digits.{digits, field}
use Rattle.put.specs.Putting.{Puts}
use Rattle.put.proofs.Putting.{puts_none, puts_then}
use Rattle.form.specs.Lines.{further, entry_line, count_line, entry_lines}
use Rattle.form.specs.Words.{NODES, LANES, CLOSED, CARRIERS, ORDER, DWELL}
use Rattle.form.specs.Contents.{written}
use Rattle.form.specs.Jobs.{pairs, singles, closed_contents, dwell_contents, text_of}
use Rattle.form.proofs.Steps.{written_append}
use Rattle.writer.specs.Rows.{rows, rows_of}

pub count_parts : (word : List ℕ) (count : ℕ) → count_line word count ≡ word ++ ((32 ∷ []) ++ field count 10)
unfolding count_line further field
count_parts word count = refl

-- ---- what is put so far

-- what is put is all but the rest
pub record PutUpTo (before : Out) (whole rest : List ℕ) (after : Out) : Type 0 where
  pub front : List ℕ
  pub puts : Puts before front after
  pub parts : front ++ rest ≡ whole

pub up_to_none : (o : Out) (whole : List ℕ) → PutUpTo o whole whole o
up_to_none o whole = record { front = []; puts = puts_none o; parts = refl }

pub up_to_more : {o p q : Out} {whole rest part rest' : List ℕ}
    → PutUpTo o whole rest p → Puts p part q → rest ≡ part ++ rest' → PutUpTo o whole rest' q
up_to_more {part = part} {rest' = rest'} u more e = record {
  front = u.front ++ part;
  puts = puts_then u.puts more;
  parts = append_assoc u.front part rest' ∙ ap (λ (l : List ℕ). u.front ++ l) (sym e) ∙ u.parts;
}

pub up_to_all : {o p : Out} {whole rest : List ℕ} → PutUpTo o whole rest p → rest ≡ [] → Puts o whole p
up_to_all u e = rw (sym u.parts ∙ ap (λ (l : List ℕ). u.front ++ l) e ∙ append-nil u.front) u.puts

-- ---- a line, number by number

pub next_number : (l : List ℕ) (i : ℕ) (behind : List ℕ) → i + 1 < length l →
    entry_line (drop i l) ++ behind ≡ field (get_or l i 0) 32 ++ (entry_line (drop (i + 1) l) ++ behind)
unfolding entry_line further field
next_number [] i behind h = absurd (let x : ⊥ = omega arith in x)
next_number (a ∷ []) zero behind h = absurd (let x : ⊥ = omega arith in x)
next_number (a ∷ b ∷ l) zero behind h =
    append_assoc (digits a) (further (b ∷ l)) behind
    ∙ sym (append_assoc (digits a) (32 ∷ []) (entry_line (b ∷ l) ++ behind))
next_number (a ∷ l) (suc i) behind h =
    let more = next_number l i behind (omega arith) in rw add-one (rw add-one at more)

pub last_number : (l : List ℕ) (i : ℕ) (behind : List ℕ) → i + 1 ≡ length l →
    entry_line (drop i l) ++ behind ≡ field (get_or l i 0) 10 ++ behind
unfolding entry_line further field
last_number [] i behind h = absurd (let x : ⊥ = omega arith in x)
last_number (a ∷ []) zero behind h = refl
last_number (a ∷ b ∷ l) zero behind h = absurd (let x : ⊥ = omega arith in x)
last_number (a ∷ l) (suc i) behind h = last_number l i behind (omega arith)

-- ---- lines of one size

pub first_row : (n : ℕ) → 0 < n → (l row rest : List ℕ) → l ≡ row ++ rest → length row ≡ n →
    entry_lines (rows_of n l) ≡ entry_line row ++ entry_lines (rows_of n rest)
unfolding entry_lines rows
first_row n some l row rest e h =
    rw (
      e,
      length-append row rest,
      ← h,
      add-div_left (length rest) (rw (← h) at some),
      add-one,
      take-append_seam row rest,
      drop-append_seam row rest,
    ) refl

pub no_row : (n : ℕ) (l : List ℕ) → length l < n → entry_lines (rows_of n l) ≡ []
unfolding entry_lines rows
no_row n l h = rw (div-eq_of_lt h) refl

pub rows_of_two : (l : List ℕ) → rows_of 2 l ≡ pairs l
unfolding rows pairs
rows_of_two [] = refl
rows_of_two (a ∷ []) = refl
rows_of_two (a ∷ b ∷ l) =
    let halves : length (a ∷ b ∷ l) / 2 ≡ suc (length l / 2) = omega arith in
    rw (halves, rows_of_two l) refl

pub rows_of_one : (l : List ℕ) → rows_of 1 l ≡ singles l
unfolding rows singles
rows_of_one [] = refl
rows_of_one (a ∷ l) =
    let all : length (a ∷ l) / 1 ≡ suc (length l / 1) = omega arith in
    rw (all, rows_of_one l) refl

-- ---- the sections

pub closed_unwritten : (l : List ℕ) → length l ≡ 0 → written (closed_contents l) ≡ []
unfolding written
closed_unwritten [] h = refl
closed_unwritten (a ∷ l) h = absurd (let x : ⊥ = omega arith in x)

pub closed_written : (l : List ℕ) → length l ≢ 0 →
    written (closed_contents l) ≡ (count_line CLOSED (length l) ++ entry_lines (singles l)) ++ []
unfolding written
closed_written [] h = absurd (h refl)
closed_written (a ∷ l) h = refl

pub dwell_unwritten : (w : ℕ) → w ≡ 0 → written (dwell_contents w) ≡ []
unfolding written
dwell_unwritten zero h = refl
dwell_unwritten (suc w) h = absurd (let x : ⊥ = omega arith in x)

pub dwell_written : (w : ℕ) → w ≢ 0 → written (dwell_contents w) ≡ (count_line DWELL w ++ []) ++ []
unfolding written entry_lines
dwell_written zero h = absurd (h refl)
dwell_written (suc w) h = refl

pub job_parts : (j : Numbers) →
    text_of j
    ≡ (count_line NODES j.network.nodes ++ [])
    ++ ((count_line LANES (lanes_in j.network.lanes) ++ entry_lines (pairs j.network.lanes))
    ++ (written (closed_contents j.network.closed)
    ++ ((count_line CARRIERS (carriers j) ++ entry_lines (pairs j.moves))
    ++ ((count_line ORDER (length j.order) ++ entry_lines (singles j.order))
    ++ written (dwell_contents j.dwell)))))
unfolding written entry_lines
job_parts j = rw (written_append (closed_contents j.network.closed) _)

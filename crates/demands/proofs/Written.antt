-- A job as its text, and back (rules 7.15, 7.16, 8.30 and 9.14), as theorems that start from the promises of
-- writing and of reading as these stand in the source: from numbers `write_numbers` and `read_numbers`, with
-- records `write_job` and `read_job`. Demand 1 of writing: one answer for every input, refused exactly when
-- the list says, and what the output then holds. It is said of `Writing`, which is the promise of
-- `write_numbers` of the job in its lists, and of `write_job`, by its part `given`, of the job in its
-- records. The round trips: a job without faults of the listed checks is written, and comes back from its
-- text; an accepted text comes back byte for byte. Both promises speak of one written form, and a text is
-- that of one job at most (form's laws). A list with ' or ₁ is as a function leaves it. Assumes nothing.
--     write_refused_exactly    refused with a number at a place exactly when it is the first in the list
--     write_accepted_exactly   accepted exactly when the output is long enough and no listed check holds
--     write_listed             no other number is given than 2 to 5, 7, 9, 12 and 13
--     write_nine_kept, write_other_zeroed, write_filled    what the output holds after 9, after another
--                              refusal, and where the job is written
--     always_written           every job without faults of the listed checks is written into an output that
--                              is long enough; its text has at most 47,110 bytes, as if each number had four
--                              digits
--     write_unreached          a job that planning refuses with 8 is written
--     written_front            the first bytes, as many as the answer says, are the text
--     numbers_come_back, job_comes_back    what was written is read: the job, without an odd last number of
--                              its moves; paired_come_back the job itself where there is none
--     numbers_text_comes_back, text_comes_back    what was read is written: the same bytes, whatever planning
--                              has put into the records meanwhile
--     one_writing, one_record_writing      one answer, and one content of the output
--     one_meaning              with records it is that of their numbers
use mathlib.Core.Path.{◌≡◌, refl, sym, ◌∙◌, ap, subst}
use mathlib.Core.Logic.{◌↔◌, ◌≢◌}
use mathlib.Core.List.{List}
use Prim.Native.Nat.{ℕ, ◌*◌, ◌≤◌, ◌<◌}
use native.Mathlib.Omega.{arith}
use lib.ListN.{length, take}
use Rattle.std.proofs.Common.{Result, Ok, Err}
use Rattle.hall.specs.declared.Job.{Job}
use Rattle.hall.specs.declared.Refusal.{Refusal}
use Rattle.hall.specs.Limits.{text_room, node_limit, lane_numbers, move_numbers, carrier_limit}
use Rattle.hall.specs.Floor.{Network, lanes_in, network_of}
use Rattle.hall.specs.Job.{Numbers, job_of, carriers}
use Rattle.hall.specs.Stages.{First, None}
use Rattle.hall.specs.Said.{Said, accepted, refused, Fits}
use Rattle.hall.specs.Questions.{checks_question, job_question, writing}
use Rattle.hall.specs.Left.{zeroed, filled}
use Rattle.hall.proofs.Stages as stages
use Rattle.hall.proofs.Stages.{none_excludes}
use Rattle.hall.proofs.Places.{asked_here, asked_later, asked_clear, none_asked}
use Rattle.hall.proofs.Left.{filled_front, left_zeroed}
use Rattle.hall.proofs.WellFormed.{well_formed_iff}
use Rattle.hall.proofs.Writing.{writing_numbers, unreached_written}
use Rattle.records.specs.declared.Record.{Record}
use Rattle.records.specs.Table.{moves_of}
use Rattle.records.proofs.Laws.{moves_length}
use Rattle.form.specs.Jobs.{text_of, whole_job, WrittenJob}
use Rattle.form.proofs.WrittenJobs.{lanes_paired}
use Rattle.form.proofs.WholeJobs.{whole_count, whole_paired, whole_written, written_length}
use Rattle.reader.specs.Reading.{said_read, counts_of, numbers_read, AnyShort, ReadInto}
use Rattle.reader.proofs.Unique.{said_read_one}
use Rattle.reader.proofs.Exactly.{accepted_as}
use Rattle.writer.specs.Writing.{said_written, Writing}
use Rattle.writer.proofs.Unique.{writing_unique}
use Rattle.recorded.specs.Job.{record_job}
use Rattle.recorded.specs.Reading.{LentShort, ReadLeft, job_as_read}
use Rattle.recorded.specs.Writing.{RecordWriting}
use Rattle.recorded.proofs.Unique.{write_unique}
use Rattle.demands.proofs.Demands.{accepted_exactly, accepted_text_written}

-- ---- writing, from its promise

-- an answer that says how many bytes there are is that number
said_bytes : (r : Result ℕ Refusal) (n : ℕ) → said_written r ≡ accepted n → r ≡ Ok n
said_bytes (Ok m) n e = let same : m ≡ n = cc in ap Ok same
said_bytes (Err q) n e = absurd (let z : ◌≡◌ {A = ℕ} 1 0 = cc in omega arith)

module _ (j : Numbers) (out out' : List ℕ) where
  abbrev Writes : Said ℕ → Type 0
  Writes s = Writing j out out' s

  fits : (s : Said ℕ) → Writes s → Fits (writing (length out < text_room) j) s
  fits (accepted size) a = a.no_fault
  fits (refused n p) a = a.first

  accepted_so : (s : Said ℕ) → Writes s →
      ((text_room ≤ length out) × None (checks_question j)) ↔ (s ≡ accepted (length (text_of j)))
  accepted_so (accepted size) a = (
    λ h. ap accepted a.is_size,
    λ e. let none = none_asked a.no_fault in (omega (arith, none.0), none.1),
  )
  accepted_so (refused n p) a = (
    λ h. absurd (none_excludes a.first (asked_clear (λ s. omega (arith, h.0)) h.1)),
    λ e. absurd (let z : ◌≡◌ {A = ℕ} 1 0 = cc in omega arith),
  )

  module _ (r : Result ℕ Refusal) (a : Writes (said_written r)) where
    -- refused with a number at a place, and accepted, exactly when the list says

    pub write_refused_exactly : (n p : ℕ) →
        (said_written r ≡ refused n p) ↔ First (writing (length out < text_room) j) n p
    write_refused_exactly = stages.refused_exactly (said_written r) (fits (said_written r) a)

    pub write_accepted_exactly :
        ((text_room ≤ length out) × None (checks_question j)) ↔ (said_written r ≡ accepted (length (text_of j)))
    write_accepted_exactly = accepted_so (said_written r) a

    pub write_listed : {n p : ℕ} → said_written r ≡ refused n p →
        (2 ≤ n) × (n ≤ 13) × (n ≢ 6) × (n ≢ 8) × (n ≢ 10) × (n ≢ 11)
    write_listed {n} {p} e = writing_numbers j ((write_refused_exactly n p).0 e)

    -- what the output holds then

    pub write_nine_kept : length out < text_room → out' ≡ out
    write_nine_kept short = (subst Writes ((write_refused_exactly 9 0).1 (asked_here short)) a).output_left

    pub write_other_zeroed : text_room ≤ length out → {n p : ℕ} → First (checks_question j) n p →
        out' ≡ zeroed text_room out
    write_other_zeroed long {n} {p} first =
        let said = (write_refused_exactly n p).1 (asked_later (λ h. omega arith) first) in
        (subst Writes said a).output_left ∙ left_zeroed (omega arith) first text_room out

    pub write_filled : text_room ≤ length out → None (checks_question j) → out' ≡ filled (text_of j) text_room out
    write_filled long none = (subst Writes (write_accepted_exactly.0 (long, none)) a).output_left

    -- every job without faults of the listed checks is written, and 47,142 bytes are enough for it
    pub always_written : text_room ≤ length out → None (checks_question j) →
        (r ≡ Ok (length (text_of j))) × (length (text_of j) ≤ 47110)
    always_written long none =
        (said_bytes r (length (text_of j)) (write_accepted_exactly.0 (long, none)), written_length j none)

    -- that planning would refuse it with 8 does not matter
    pub write_unreached : text_room ≤ length out → {p : ℕ} → First (job_question j) 8 p →
        r ≡ Ok (length (text_of j))
    write_unreached long unreached =
        let none = unreached_written {Short = length out < text_room} j (λ h. omega arith) unreached in
        (always_written long (none_asked none).1).0

    -- the text of a job is written again: so many bytes, these, and zeros behind them
    written_again : {text : List ℕ} → WrittenJob text j → text_room ≤ length out →
        (r ≡ Ok (length text)) × (take (length text) out' ≡ text) × (out' ≡ filled text text_room out)
    written_again {text} w long =
        let same = sym w.writes in
        let left = write_filled long w.sound ∙ ap (λ (t : List ℕ). filled t text_room out) same in (
          (always_written long w.sound).0 ∙ ap (λ (t : List ℕ). Ok (length t)) same,
          ap (λ (t : List ℕ). take (length text) t) left ∙ filled_front text text_room out (length text) refl,
          left,
        )

  pub written_front : (size : ℕ) → Writes (accepted size) → take size out' ≡ text_of j
  written_front size a =
      ap (λ (l : List ℕ). take size l) a.output_left
      ∙ filled_front (text_of j) text_room out size (sym a.is_size)

-- ---- from numbers

whole_counts : (j : Numbers) → counts_of (whole_job j) ≡ counts_of j
whole_counts j =
    let count = whole_count j.moves in
    λ i. record {
      nodes = j.network.nodes;
      lanes = lanes_in j.network.lanes;
      closed = length j.network.closed;
      carriers = count i;
      dwell = j.dwell;
    }

-- a job whose moves go by twos stands in tables that are filled with its numbers
numbers_filled : (j : Numbers) (lanes closed moves order l v m o : List ℕ) →
    None (checks_question j) → length j.moves ≡ 2 * carriers j →
    l ≡ filled j.network.lanes lane_numbers lanes →
    v ≡ filled j.network.closed node_limit closed →
    m ≡ filled j.moves move_numbers moves →
    o ≡ filled j.order carrier_limit order →
    numbers_read (counts_of j) l v m o ≡ j
numbers_filled j lanes closed moves order l v m o none paired el ev em eo =
    let nodes = j.network.nodes in
    let k = carriers j in
    let as_lanes =
    ap (λ (t : List ℕ). take (2 * lanes_in j.network.lanes) t) el
    ∙ filled_front j.network.lanes lane_numbers lanes _ (lanes_paired j none) in
    let as_closed =
    ap (λ (t : List ℕ). take (length j.network.closed) t) ev
    ∙ filled_front j.network.closed node_limit closed _ refl in
    let as_moves =
    ap (λ (t : List ℕ). take (2 * k) t) em ∙ filled_front j.moves move_numbers moves (2 * k) paired in
    let as_order =
    ap (λ (t : List ℕ). take k t) eo
    ∙ filled_front j.order carrier_limit order k ((well_formed_iff j).0 none).order_count_lem in
    λ i. job_of (network_of nodes (as_lanes i) (as_closed i)) (as_moves i) (as_order i) j.dwell

module _ (lanes closed moves order lanes' closed' moves' order' : List ℕ) where
  -- what was written is read: the same counts, lanes, closed nodes, moves, order and dwell; an odd last
  -- number was in no move
  pub numbers_come_back : (j : Numbers) (out out' : List ℕ) (size : ℕ) (r : Result Job Refusal) →
      Writing j out out' (said_written (Ok size)) →
      ¬ AnyShort lanes closed moves order →
      ReadInto (take size out') lanes closed moves order lanes' closed' moves' order' (said_read r) →
      (r ≡ Ok (counts_of j)) × (numbers_read (counts_of j) lanes' closed' moves' order' ≡ whole_job j)
  numbers_come_back j out out' size r a long b =
      let w = whole_written j (none_asked a.no_fault).1 in
      let front = written_front j out out' size a in
      let read : WrittenJob (take size out') (whole_job j) = rw front w in
      let x =
      accepted_as (take size out') lanes closed moves order lanes' closed' moves' order' long (said_read r) b (whole_job j) read in
      let counts = whole_counts j in
      let stands =
      numbers_filled (whole_job j) lanes closed moves order lanes' closed' moves' order' w.sound w.paired x.1 x.2 x.3
      x.4 in (
        said_read_one r (Ok (counts_of j)) (x.0 ∙ ap accepted counts),
        ap (λ (c : Job). numbers_read c lanes' closed' moves' order') (sym counts) ∙ stands,
      )

  pub paired_come_back : (j : Numbers) (out out' : List ℕ) (size : ℕ) (r : Result Job Refusal) →
      length j.moves ≡ 2 * carriers j →
      Writing j out out' (said_written (Ok size)) →
      ¬ AnyShort lanes closed moves order →
      ReadInto (take size out') lanes closed moves order lanes' closed' moves' order' (said_read r) →
      (r ≡ Ok (counts_of j)) × (numbers_read (counts_of j) lanes' closed' moves' order' ≡ j)
  paired_come_back j out out' size r paired a long b =
      let back = numbers_come_back j out out' size r a long b in
      (back.0, back.1 ∙ ap (λ (ms : List ℕ). job_of j.network ms j.order j.dwell) (whole_paired j.moves paired))

  -- what was read is written: the same bytes
  pub numbers_text_comes_back : (text out out' : List ℕ) (counts : Job) (r : Result ℕ Refusal) →
      ReadInto text lanes closed moves order lanes' closed' moves' order' (said_read (Ok counts)) →
      text_room ≤ length out →
      Writing (numbers_read counts lanes' closed' moves' order') out out' (said_written r) →
      (r ≡ Ok (length text)) × (take (length text) out' ≡ text) × (out' ≡ filled text text_room out)
  numbers_text_comes_back text out out' counts r b long a =
      let w = b.writes in
      let same : numbers_read counts lanes' closed' moves' order' ≡ b.job =
      ap (λ (c : Job). numbers_read c lanes' closed' moves' order') b.is_counts
      ∙ numbers_filled b.job lanes closed moves order lanes' closed' moves' order' w.sound w.paired
      b.lanes_left_lem b.closed_left b.moves_left b.order_left in
      let its = subst (λ (j : Numbers). Writing j out out' (said_written r)) same a in
      written_again b.job out out' r its w long

-- ---- with records

-- what was written is read: the same counts, lanes, closed nodes, moves, order and dwell
pub job_comes_back : {N N' : Network} {records records' : List Record} {order order' : List ℕ} {dwell : ℕ}
    {out out' text' lanes₀ lanes₁ closed₀ closed₁ : List ℕ} {records₀ records₁ : List Record} {order₀ order₁ : List ℕ}
    (size : ℕ) (r : Result Job Refusal) →
    RecordWriting N N' records records' order order' dwell out out' (Ok size) →
    ¬ LentShort lanes₀ closed₀ records₀ order₀ →
    ReadLeft (take size out') text' lanes₀ lanes₁ closed₀ closed₁ records₀ records₁ order₀ order₁ r →
    let j = record_job N records order dwell in
    (r ≡ Ok (counts_of j)) × (job_as_read (counts_of j) lanes₁ closed₁ records₁ order₁ ≡ j)
job_comes_back {N} {records = records} {order = order} {dwell = dwell} {out = out} {out' = out'} size r a long b =
    let j = record_job N records order dwell in
    let twos : length (moves_of records) ≡ 2 * carriers j = omega (arith, moves_length records) in
    let whole = ap (λ (ms : List ℕ). job_of N ms order dwell) (whole_paired (moves_of records) twos) in
    let w = whole_written j (none_asked a.given.no_fault).1 in
    let own : WrittenJob (text_of j) j = rw whole at w in
    let front = written_front j out out' size a.given in
    let read : WrittenJob (take size out') j = rw front own in
    let back = (accepted_exactly b j).0 (long, read) in
    (said_read_one r (Ok (counts_of j)) back.0, back.1)

-- what was read is written: the same bytes. The network and the order that the counts cut out of the tables
-- are lent to writing, the dwell that was answered, and records with the moves that were read, whatever their
-- distances and ticks are
pub text_comes_back : {text text' lanes lanes' closed closed' : List ℕ}
    {records records' planned rs : List Record} {order order' o out out' : List ℕ} {N' : Network} (counts : Job) (r : Result ℕ Refusal) →
    ReadLeft text text' lanes lanes' closed closed' records records' order order' (Ok counts) →
    moves_of planned ≡ moves_of (take counts.carriers records') →
    text_room ≤ length out →
    RecordWriting
    (network_of counts.nodes (take (2 * counts.lanes) lanes') (take counts.closed closed')) N'
    planned rs
    (take counts.carriers order') o
    counts.dwell
    out out' r →
    (r ≡ Ok (length text)) × (take (length text) out' ≡ text) × (out' ≡ filled text text_room out)
text_comes_back {text} {text'} {lanes} {lanes'} {closed} {closed'} {records} {records'} {order = order} {order' = order'} {out = out} {out' = out'} counts r b same long a =
    let w = accepted_text_written text text' lanes lanes' closed closed' records records' order order' counts b in
    let N = network_of counts.nodes (take (2 * counts.lanes) lanes') (take counts.closed closed') in
    let as_read = ap (λ (ms : List ℕ). job_of N ms (take counts.carriers order') counts.dwell) same in
    let its = subst (λ (k : Numbers). Writing k out out' (said_written r)) as_read a.given in
    written_again (job_as_read counts lanes' closed' records' order') out out' r its w long

-- ---- one answer

pub one_writing : (j : Numbers) (out : List ℕ) (r s : Result ℕ Refusal) (a b : List ℕ) →
    Writing j out a (said_written r) → Writing j out b (said_written s) → (r ≡ s) × (a ≡ b)
one_writing = writing_unique

pub one_record_writing : (N M O : Network) (records rs qs : List Record) (order o p : List ℕ) (dwell : ℕ)
    (out a b : List ℕ) (r s : Result ℕ Refusal) →
    RecordWriting N M records rs order o dwell out a r → RecordWriting N O records qs order p dwell out b s →
    ((r ≡ s) × (a ≡ b)) × ((M ≡ O) × (rs ≡ qs) × (o ≡ p))
one_record_writing N M O records rs qs order o p dwell out a b = write_unique N records order dwell M O rs qs o p out a b

-- with records and from their numbers it is one question
pub one_meaning : (N N' : Network) (records rs : List Record) (order o : List ℕ) (dwell : ℕ) (out a b : List ℕ)
    (r s : Result ℕ Refusal) → RecordWriting N N' records rs order o dwell out a r →
    Writing (job_of N (moves_of records) order dwell) out b (said_written s) →
    (r ≡ s) × (a ≡ b)
one_meaning N N' records rs order o dwell out a b r s x y =
    writing_unique (job_of N (moves_of records) order dwell) out r s a b x.given y

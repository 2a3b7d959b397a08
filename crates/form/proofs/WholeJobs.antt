-- Any job without faults of its listed checks has its text, whatever list its moves come from (rules 1.7 and
-- 7.15): an odd last number is in no move, so the list without it has the same moves and the same lines, and
-- it goes by twos, as what is read does. The job is well formed with either list, since the rules speak of
-- moves below the count alone. Assumes nothing.
--     whole_paired     moves that go by twos are whole
--     whole_contents   a job and its whole one say the same, and so have one text
--     whole_written    the text of a job is the written form of its whole one
--     written_length   it has at most 47,110 bytes, and so fits into 47,142: written_fits (rule 7.6)
use mathlib.Core.Path.{◌≡◌, refl, sym, ◌∙◌, ap}
use mathlib.Core.List.{List}
use Prim.Native.Nat.{ℕ, ◌+◌, ◌*◌, ◌≤◌, ◌<◌}
use native.Mathlib.Omega.{arith}
use lib.ListN.{length}
use lib.Seq.{take-length, length-take-le, get_or-take}
use Rattle.hall.specs.Limits.{text_room}
use Rattle.hall.specs.Job.{Numbers, carriers, move_count, start_in, goal_in}
use Rattle.hall.specs.Stages.{None}
use Rattle.hall.specs.Questions.{checks_question}
use Rattle.hall.specs.WellFormed.{WellFormed}
use Rattle.hall.proofs.WellFormed.{well_formed_iff}
use Rattle.form.specs.Contents.{written}
use Rattle.form.specs.Jobs.{contents_of, text_of, whole_moves, whole_job, WrittenJob}
use Rattle.form.proofs.Rows.{pairs_whole}
use Rattle.form.proofs.JobTexts.{accepted_length}

module _ (moves : List ℕ) where
  whole_length : length (whole_moves moves) ≡ 2 * move_count moves
  whole_length = length-take-le (2 * move_count moves) moves (omega arith)

  pub whole_count : move_count (whole_moves moves) ≡ move_count moves
  whole_count = omega (arith, whole_length)

  pub whole_paired : length moves ≡ 2 * move_count moves → whole_moves moves ≡ moves
  whole_paired e = rw (← e) (take-length moves)

  module _ (i : ℕ) (h : i < move_count moves) where
    whole_start : start_in (whole_moves moves) i ≡ start_in moves i
    whole_start = get_or-take (2 * move_count moves) moves (2 * i) 0 (omega arith)

    whole_goal : goal_in (whole_moves moves) i ≡ goal_in moves i
    whole_goal = get_or-take (2 * move_count moves) moves (2 * i + 1) 0 (omega arith)

module _ (j : Numbers) where
  below : {i : ℕ} → i < carriers (whole_job j) → i < carriers j
  below h = omega (arith, whole_count j.moves)

  whole_formed : WellFormed j → WellFormed (whole_job j)
  whole_formed w =
      let count = whole_count j.moves in
      record {
        network_is = w.network_is;
        dwell_few = w.dwell_few;
        carrier_count = omega (arith, w.carrier_count);
        ends_on =
            record {
              starts = λ i h. rw (whole_start j.moves i (below h)) (w.ends_on.starts i (below h));
              goals = λ i h. rw (whole_goal j.moves i (below h)) (w.ends_on.goals i (below h));
            };
        ends_differ = λ i h.
            rw (whole_start j.moves i (below h), whole_goal j.moves i (below h)) (w.ends_differ i (below h));
        order_count_lem = w.order_count_lem ∙ sym count;
        entry = λ p h. rw count (w.entry p h);
        placed = λ c h. w.placed c (below h);
        once = w.once;
      }

  pub whole_contents : contents_of (whole_job j) ≡ contents_of j
  whole_contents =
      let count = whole_count j.moves in
      let rows = pairs_whole (2 * move_count j.moves) j.moves refl in
      rw (rows, count)

  module _ (none : None (checks_question j)) where
    pub whole_written : WrittenJob (text_of j) (whole_job j)
    whole_written = record {
      writes = ap written (sym whole_contents);
      sound = (well_formed_iff (whole_job j)).1 (whole_formed ((well_formed_iff j).0 none));
      paired = omega (arith, whole_length j.moves);
    }

    pub written_length : length (text_of j) ≤ 47110
    written_length = accepted_length (text_of j) (whole_job j) whole_written

    pub written_fits : length (text_of j) ≤ text_room
    written_fits = omega (arith, written_length)

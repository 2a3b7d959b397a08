-- The summit: a job text is accepted as one job, or refused with one number at one line, and never both
-- (rules 7.6 to 7.13 and 8.21). What is shown here of the job text alone is that its words differ, by a test,
-- and how much room it has, by a sum; the rest are the laws of every form. Assumes nothing.
--     job_told          the words of a job text are plain and differ
--     job_room_lem          its sections have room for 47,110 bytes
--     accepted_as       an accepted text is the written form of the job that its contents say
--     job_unique        a text is the written form of one job without faults at most
--     text_unique       a job has one written form
--     never_both        no text is accepted and refused
--     one_refusal       a text is refused with one number at one line at most
--     one_answer        every text is accepted or refused
--     answer_unique     in one way
--     job_read          the job of an accepted text, by the entries of its sections; lanes_counted,
--                       closed_counted, carriers_counted its counts (rule 7.13)
--     job_reading        the answer to a text; `job_reading_exactly` it is what the text says
--     written_read      a job that is written is read as what it was; `read_written` what is read is written
--                       as the text was
--     refused_with      a text is refused with 1 to 5, 7, 12 and 13 only
--     accepted_length   an accepted text has at most 47,110 bytes, and so at most 47,142: within_47142
--                       (rule 7.6)
--     front_job         the first 47,111 bytes or more of a text say what the text says (rule 7.7), and so do
--                       the first 47,143: first_47143
use mathlib.Core.Path.{◌≡◌, refl, sym, ◌∙◌, ap, subst}
use mathlib.Core.Logic.{◌↔◌}
use mathlib.Core.List.{List, ◌∷◌}
use Prim.Native.Nat.{ℕ, ◌≤◌, ◌<◌}
use native.Mathlib.Omega.{arith}
use lib.ListN.{length, take}
use Rattle.hall.specs.Floor.{network_of, lanes_in}
use Rattle.hall.specs.Job.{Numbers, job_of, move_count}
use Rattle.hall.specs.Said.{Said, accepted, refused}
use Rattle.form.specs.Sections.{Content, content, same_words, count_of, numbers_of, numbers_in}
use Rattle.form.specs.Words.{NODES, LANES, CLOSED, CARRIERS, ORDER, DWELL}
use Rattle.form.specs.Contents.{written}
use Rattle.form.specs.Texts.{WrittenForm, Refused, Reads}
use Rattle.form.specs.JobText.{job_text}
use Rattle.form.specs.Jobs.{dwell_contents, contents_of, job_in, WrittenJob, ReadsJob}
use Rattle.form.proofs.Steps.{Told}
use Rattle.form.proofs.WordTests.{plain_test, differs_test, told_test, told_by_test}
use Rattle.form.proofs.Runs.{refusal_unique, not_both, contents_unique}
use Rattle.form.proofs.Checks.{TextNumber}
use Rattle.form.proofs.Reading.{one_or_other, refusal_numbers}
use Rattle.form.proofs.Lengths.{room, accepted_room}
use Rattle.form.proofs.LongTexts.{front_reads}
use Rattle.form.proofs.WrittenJobs.{lanes_paired, written_sound}
use Rattle.form.proofs.JobSections.{carriers_read, job_sections, job_in_lem, closed_count_lem, job_in_contents}
use Rattle.form.proofs.JobSections.{closed_said, carriers_said}
use Rattle.form.proofs.AcceptedJobs.{accepted_job}

pub job_told : Told job_text
unfolding same_words NODES LANES CLOSED CARRIERS ORDER DWELL plain_test differs_test told_test
job_told = told_by_test job_text tt

pub job_room_lem : room job_text ≡ 47110
unfolding NODES LANES CLOSED CARRIERS ORDER DWELL room
job_room_lem = refl

-- ---- one answer

module _ (t : List ℕ) where
  pub accepted_as : (c : List Content) → WrittenForm job_text t c
      → WrittenJob t (job_in c) × (c ≡ contents_of (job_in c))
  accepted_as c w =
      let r = accepted_job c w.sound in
      let same : r.its_job ≡ job_in c =
      sym (job_in_contents r.its_job r.lanes_paired r.moves_paired) ∙ ap job_in (sym r.is) in
      let its : WrittenJob t r.its_job =
      record { writes = w.writes ∙ ap written r.is; sound = r.sound; paired = r.moves_paired } in
      (rw same at its, r.is ∙ ap contents_of same)

  pub job_unique : (i j : Numbers) → WrittenJob t i → WrittenJob t j → i ≡ j
  job_unique i j x y =
      let one = contents_unique job_text job_told t (contents_of i) (contents_of j) (written_sound t i x)
      (written_sound t j y) in
      sym (job_in_contents i (lanes_paired i x.sound) x.paired) ∙ ap job_in one
      ∙ job_in_contents j (lanes_paired j y.sound) y.paired

  pub text_unique : (u : List ℕ) (j : Numbers) → WrittenJob t j → WrittenJob u j → t ≡ u
  text_unique u j x y = x.writes ∙ sym y.writes

  pub never_both : (j : Numbers) (n l : ℕ) → WrittenJob t j → ¬ Refused job_text t n l
  never_both j n l x = not_both job_text job_told t (contents_of j) n l (written_sound t j x)

  pub one_refusal : (n m l k : ℕ) → Refused job_text t n l → Refused job_text t m k → (n ≡ m) × (l ≡ k)
  one_refusal n m l k = refusal_unique job_text job_told t n m l k

  pub refused_with : (n l : ℕ) → Refused job_text t n l → TextNumber n
  refused_with = refusal_numbers job_text t

  pub one_answer : (s : Said Numbers) × ReadsJob t s
  one_answer = cases (one_or_other job_text t)
    where
      cases : (s : Said (List Content)) × Reads job_text t s → (s : Said Numbers) × ReadsJob t s
      cases (accepted c, w) = (accepted (job_in c), (accepted_as c w).0)
      cases (refused n l, r) = (refused n l, r)

  pub answer_unique : (a b : Said Numbers) → ReadsJob t a → ReadsJob t b → a ≡ b
  answer_unique (accepted i) (accepted j) x y = ap accepted (job_unique i j x y)
  answer_unique (accepted i) (refused n l) x y = absurd (never_both i n l x y)
  answer_unique (refused n l) (accepted j) x y = absurd (never_both j n l y x)
  answer_unique (refused n l) (refused m k) x y =
      let e = one_refusal n m l k x y in λ i. refused (e.0 i) (e.1 i)

-- ---- the job of an accepted text, by the entries of its sections

module _ (t : List ℕ) (n m k p w : ℕ) (none lanes shut moves order : List (List ℕ))
    (said : WrittenForm job_text t (job_sections n m k p w none lanes shut moves order)) where
  its : job_in (job_sections n m k p w none lanes shut moves order)
      ≡ job_of (network_of n (numbers_in lanes) (numbers_in shut)) (numbers_in moves) (numbers_in order) w
  its = job_in_lem n m k p w none lanes shut moves order

  pub job_read :
      WrittenJob t
      (job_of (network_of n (numbers_in lanes) (numbers_in shut)) (numbers_in moves) (numbers_in order) w)
  job_read = subst (WrittenJob t) its (accepted_as t _ said).0

  -- the counts of the sections are those of the lists
  pub lanes_counted : m ≡ lanes_in (numbers_in lanes)
  unfolding count_of numbers_of same_words NODES LANES
  lanes_counted =
      ap (λ (c : List Content). count_of LANES c) (accepted_as t _ said).1
      ∙ ap (λ (j : Numbers). lanes_in j.network.lanes) its

  pub closed_counted : length shut ≡ length (numbers_in shut)
  closed_counted =
      sym (closed_count_lem n m k p w none lanes shut moves order)
      ∙ ap (λ (c : List Content). count_of CLOSED c) (accepted_as t _ said).1
      ∙ closed_said (job_in (job_sections n m k p w none lanes shut moves order))
      ∙ ap (λ (j : Numbers). length j.network.closed) its

  pub carriers_counted : k ≡ move_count (numbers_in moves)
  carriers_counted =
      sym (carriers_read n m k none lanes shut moves (content ORDER p order ∷ dwell_contents w))
      ∙ ap (λ (c : List Content). count_of CARRIERS c) (accepted_as t _ said).1
      ∙ carriers_said (job_in (job_sections n m k p w none lanes shut moves order))
      ∙ ap (λ (j : Numbers). move_count j.moves) its

-- ---- the answer alone

pub job_reading : List ℕ → Said Numbers
job_reading t = (one_answer t).0

pub job_reading_exactly : (t : List ℕ) (s : Said Numbers) → (job_reading t ≡ s) ↔ ReadsJob t s
unfolding job_reading
job_reading_exactly t s =
    (λ e. rw e at (one_answer t).1, λ x. answer_unique t (one_answer t).0 s (one_answer t).1 x)

pub written_read : (j : Numbers) → WrittenJob (written (contents_of j)) j
    → job_reading (written (contents_of j)) ≡ accepted j
written_read j w = (job_reading_exactly (written (contents_of j)) (accepted j)).1 w

pub read_written : (t : List ℕ) (j : Numbers) → job_reading t ≡ accepted j → written (contents_of j) ≡ t
read_written t j e = sym ((job_reading_exactly t (accepted j)).0 e).writes

-- ---- long texts

pub accepted_length : (t : List ℕ) (j : Numbers) → WrittenJob t j → length t ≤ 47110
accepted_length t j w = omega (arith, accepted_room job_text t (contents_of j) (written_sound t j w), job_room_lem)

pub within_47142 : (t : List ℕ) (j : Numbers) → WrittenJob t j → length t ≤ 47142
within_47142 t j w = omega (arith, accepted_length t j w)

pub front_job : (n : ℕ) → 47111 ≤ n → (t : List ℕ) (s : Said Numbers) → ReadsJob (take n t) s ↔ ReadsJob t s
front_job n long t s = cases s
  where
    more : room job_text < n
    more = omega (arith, job_room_lem)

    -- the text and its first bytes are the written form of the same contents
    same : {u v : List ℕ} (j : Numbers) → WrittenForm job_text v (contents_of j) → WrittenJob u j → WrittenJob v j
    same j w x = record { writes = w.writes; sound = x.sound; paired = x.paired }

    cases : (s : Said Numbers) → ReadsJob (take n t) s ↔ ReadsJob t s
    cases (refused m l) = front_reads job_text n more t job_told (refused m l)
    cases (accepted j) =
        let iff = front_reads job_text n more t job_told (accepted (contents_of j)) in (
          λ x. same j (iff.0 (written_sound (take n t) j x)) x,
          λ x. same j (iff.1 (written_sound t j x)) x,
        )

pub first_47143 : (t : List ℕ) (s : Said Numbers) → ReadsJob (take 47143 t) s ↔ ReadsJob t s
first_47143 = front_job 47143 (omega arith)

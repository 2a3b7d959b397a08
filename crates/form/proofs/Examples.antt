-- Texts by their bytes, and what the definitions say of them (rules 7.11, 7.12, 7.14, 8.21 and 11.12): the
-- printed example is accepted as its job; a count that does not fit, a leading zero, a lane that falls, a
-- move with two faults, a missing line, a missing line feed and bytes that are left over are refused with
-- their number at their line. Each is a closed case. Texts with closed nodes are in ClosedExamples.antt, with
-- a dwell in DwellExamples.antt.
--     example_text, example_written    the text of rule 7.14, and that it is the written form of its job
--     example_read                     so it is accepted as this job
--     no_nodes, many_nodes             `NODES 0` and `NODES 1025` are 2 at line 1
--     no_second_digit                  a count of two digits does not begin with 0
--     leading_zero                     so `NODES 01` is 1 at line 1, whatever is behind it
--     falling_lane                     the lane `1 0` is 3 at its line
--     many_carriers                    `CARRIERS 65` is 2 at its line
--     both_ends_off                    a move from node 2 to node 2 of nodes 0 and 1 is 4, and not 5
--     order_unlike                     `ORDER 1` behind `CARRIERS 0` is 2 at its line
--     empty_text                       the empty text lacks line 1
--     no_last_feed                     a text without its last line feed is 1 at its last line
--     one_byte_more                    a text with a byte more is 1 at the line that it begins
use mathlib.Core.Path.{◌≡◌, refl, sym, ◌∙◌, ap}
use mathlib.Core.Logic.{inl}
use mathlib.Core.List.{List, [], ◌∷◌, ◌++◌, append_assoc}
use Prim.Native.Nat.{ℕ, ◌≤◌}
use native.Mathlib.Omega.{arith}
use lib.ListN.{length, length-append, get_or}
use Rattle.hall.specs.Floor.{network_of}
use Rattle.hall.specs.Job.{Numbers, job_of}
use Rattle.hall.specs.Said.{accepted}
use Rattle.hall.specs.Stages.{here}
use Rattle.hall.specs.Refusals.{not_below}
use Rattle.hall.specs.Questions.{checks_question}
use Rattle.hall.proofs.StageTests.{none?}
use Rattle.hall.proofs.FaultTests.{checks?}
use Rattle.put.specs.Digits.{digits, digits_up_to}
use Rattle.form.specs.Lines.{further, entry_line, entry_lines, count_line, Counted}
use Rattle.form.specs.Sections.{content, count_of, same_words, numbers_in}
use Rattle.form.specs.Words.{NODES, LANES, CARRIERS, ORDER, DWELL}
use Rattle.form.specs.Contents.{Picks, written, first, past}
use Rattle.form.specs.Stands.{within}
use Rattle.form.specs.Texts.{Refused}
use Rattle.form.specs.JobText.{nodes_section, lanes_section, closed_section, carriers_section}
use Rattle.form.specs.JobText.{order_section, dwell_section, job_text}
use Rattle.form.specs.Jobs.{pairs, singles, WrittenJob}
use Rattle.form.specs.Reached.{Reached}
use Rattle.form.proofs.Cuts.{cut_unique, digits_plain, tail_same, never_empty, zero_alone}
use Rattle.form.proofs.LineForms.{count_some}
use Rattle.form.proofs.LineTests.{front_unique}
use Rattle.form.proofs.Reached.{at_start, past_count, count_refused, entry_refused}
use Rattle.form.proofs.Reached.{first_lacking, left_over}
use Rattle.form.proofs.JobTexts.{job_reading, job_reading_exactly}

-- ---- the example of rule 7.14

pub example_text : List ℕ
example_text =
    78 ∷ 79 ∷ 68 ∷ 69 ∷ 83 ∷ 32 ∷ 53 ∷ 10 ∷
    76 ∷ 65 ∷ 78 ∷ 69 ∷ 83 ∷ 32 ∷ 52 ∷ 10 ∷
    48 ∷ 32 ∷ 49 ∷ 10 ∷
    49 ∷ 32 ∷ 50 ∷ 10 ∷
    50 ∷ 32 ∷ 51 ∷ 10 ∷
    51 ∷ 32 ∷ 52 ∷ 10 ∷
    67 ∷ 65 ∷ 82 ∷ 82 ∷ 73 ∷ 69 ∷ 82 ∷ 83 ∷ 32 ∷ 51 ∷ 10 ∷
    48 ∷ 32 ∷ 52 ∷ 10 ∷
    52 ∷ 32 ∷ 48 ∷ 10 ∷
    50 ∷ 32 ∷ 49 ∷ 10 ∷
    79 ∷ 82 ∷ 68 ∷ 69 ∷ 82 ∷ 32 ∷ 51 ∷ 10 ∷
    48 ∷ 10 ∷
    49 ∷ 10 ∷
    50 ∷ 10 ∷ []

abbrev pub example : Numbers
example =
    job_of (network_of 5 (0 ∷ 1 ∷ 1 ∷ 2 ∷ 2 ∷ 3 ∷ 3 ∷ 4 ∷ []) []) (0 ∷ 4 ∷ 4 ∷ 0 ∷ 2 ∷ 1 ∷ []) (0 ∷ 1 ∷ 2 ∷ []) 0

pub example_written : WrittenJob example_text example
unfolding example_text written count_line entry_lines entry_line further digits digits_up_to pairs singles
    NODES LANES CARRIERS ORDER
example_written =
    record {
      writes = refl;
      sound = (none? (checks_question example) (checks? example)).sound tt;
      paired = refl;
    }

pub example_read : job_reading example_text ≡ accepted example
example_read = (job_reading_exactly example_text (accepted example)).1 example_written

-- ---- line 1

-- a number that begins with 0 is 0, and behind it the line goes on with a space or ends
pub no_second_digit : (word : List ℕ) (digit : ℕ) (rest : List ℕ) → 48 ≤ digit
    → ¬ Counted word (word ++ (32 ∷ 48 ∷ digit ∷ 10 ∷ rest))
unfolding count_line further
no_second_digit word digit rest plain c =
    let behind = front_unique word _ _ (c.begins ∙ append_assoc word (further (c.n ∷ [])) c.rest) in
    let number = tail_same behind ∙ append_assoc (digits c.n) (10 ∷ []) c.rest in
    let same = cut_unique (48 ∷ digit ∷ []) (digits c.n) (10 ∷ rest) (10 ∷ c.rest)
    (omega arith, (omega arith, tt)) (digits_plain c.n) (omega arith) (omega arith)
    number in
    never_empty (zero_alone c.n (digit ∷ []) (sym same.0))

module _ (rest : List ℕ) where
  pub no_nodes : Refused job_text (count_line NODES 0 ++ rest) 2 1
  no_nodes =
      count_refused job_text _ (at_start job_text _) tt nodes_section _ (first nodes_section _)
      (record { n = 0; rest = rest; small = omega arith; begins = refl })
      (λ h. let a = h.0 in let x : ⊥ = omega arith in x)

  pub many_nodes : Refused job_text (count_line NODES 1025 ++ rest) 2 1
  many_nodes =
      count_refused job_text _ (at_start job_text _) tt nodes_section _ (first nodes_section _)
      (record { n = 1025; rest = rest; small = omega arith; begins = refl })
      (λ h. let a = h.1 in let x : ⊥ = omega arith in x)

  pub leading_zero : Refused job_text (NODES ++ (32 ∷ 48 ∷ 49 ∷ 10 ∷ rest)) 1 1
  leading_zero =
      first_lacking job_text _ (at_start job_text _) tt nodes_section _ refl refl
      (no_second_digit NODES 49 rest (omega arith))

pub empty_text : Refused job_text [] 1 1
empty_text = first_lacking job_text [] (at_start job_text []) tt nodes_section _ refl refl
    (λ c. let z = ap length c.begins ∙ length-append (count_line NODES c.n) c.rest in
    let x : ⊥ = omega (arith, count_some NODES c.n) in x)

-- ---- behind `NODES 2`

module _ (rest : List ℕ) where
  abbrev pub two-nodes : List ℕ
  two-nodes = count_line NODES 2 ++ rest

  pub behind_nodes_lem : Reached job_text two-nodes
      (within [] nodes_section 2 []
      (lanes_section ∷ closed_section ∷ carriers_section ∷ order_section ∷ dwell_section ∷ [])) rest 2
  behind_nodes_lem =
      past_count job_text two-nodes (at_start job_text two-nodes) tt nodes_section _ (first nodes_section _)
      (record { n = 2; rest = rest; small = omega arith; begins = refl }) (omega arith, omega arith)

module _ (rest : List ℕ) where
  pub falling_lane : Refused job_text (two-nodes (count_line LANES 1 ++ (entry_line (1 ∷ 0 ∷ []) ++ rest))) 3 3
  unfolding numbers_in
  falling_lane =
      let t = two-nodes (count_line LANES 1 ++ (entry_line (1 ∷ 0 ∷ []) ++ rest)) in
      let lane = past_count job_text t (behind_nodes_lem (count_line LANES 1 ++ (entry_line (1 ∷ 0 ∷ []) ++ rest)))
      refl lanes_section _ (first lanes_section _)
      (record { n = 1; rest = entry_line (1 ∷ 0 ∷ []) ++ rest; small = omega arith; begins = refl })
      (omega arith, omega arith) in
      entry_refused job_text t lane (omega arith)
      (record {
        e = 1 ∷ 0 ∷ [];
        rest = rest;
        sized = refl;
        small = (omega arith, (omega arith, tt));
        begins = refl;
      })
      3 (here (refl, not_below (omega arith)))

  -- ---- behind `LANES 0`

  abbrev pub no_lanes : List ℕ
  no_lanes = two-nodes (count_line LANES 0 ++ rest)

  pub behind_lanes_lem : Reached job_text no_lanes
      (within (content NODES 2 [] ∷ []) lanes_section 0 []
      (closed_section ∷ carriers_section ∷ order_section ∷ dwell_section ∷ [])) rest 3
  behind_lanes_lem =
      past_count job_text no_lanes (behind_nodes_lem (count_line LANES 0 ++ rest)) refl lanes_section _ (first lanes_section _)
      (record { n = 0; rest = rest; small = omega arith; begins = refl }) (omega arith, omega arith)

-- the carriers' section may come next where nothing is closed
past_closed : Picks (closed_section ∷ carriers_section ∷ order_section ∷ dwell_section ∷ []) carriers_section
    (order_section ∷ dwell_section ∷ [])
past_closed =
    past closed_section carriers_section (carriers_section ∷ order_section ∷ dwell_section ∷ [])
    (order_section ∷ dwell_section ∷ []) refl
    (first carriers_section (order_section ∷ dwell_section ∷ []))

module _ (rest : List ℕ) where
  pub many_carriers : Refused job_text (no_lanes (count_line CARRIERS 65 ++ rest)) 2 3
  many_carriers =
      count_refused job_text _ (behind_lanes_lem (count_line CARRIERS 65 ++ rest)) refl carriers_section _
      past_closed
      (record { n = 65; rest = rest; small = omega arith; begins = refl })
      (λ h. let a = h.1 in let x : ⊥ = omega arith in x)

  pub both_ends_off :
      Refused job_text (no_lanes (count_line CARRIERS 1 ++ (entry_line (2 ∷ 2 ∷ []) ++ rest))) 4 4
  unfolding numbers_in count_of same_words NODES LANES
  both_ends_off =
      let t = no_lanes (count_line CARRIERS 1 ++ (entry_line (2 ∷ 2 ∷ []) ++ rest)) in
      let move = past_count job_text t
      (behind_lanes_lem (count_line CARRIERS 1 ++ (entry_line (2 ∷ 2 ∷ []) ++ rest))) refl carriers_section _
      past_closed
      (record { n = 1; rest = entry_line (2 ∷ 2 ∷ []) ++ rest; small = omega arith; begins = refl })
      (omega arith, omega arith) in
      entry_refused job_text t move (omega arith)
      (record {
        e = 2 ∷ 2 ∷ [];
        rest = rest;
        sized = refl;
        small = (omega arith, (omega arith, tt));
        begins = refl;
      })
      4 (here (refl, inl (omega arith)))

  -- ---- behind `CARRIERS 0`

  abbrev pub no-carriers : List ℕ
  no-carriers = no_lanes (count_line CARRIERS 0 ++ rest)

  pub behind_carriers_lem : Reached job_text no-carriers
      (within (content NODES 2 [] ∷ content LANES 0 [] ∷ []) carriers_section 0 []
      (order_section ∷ dwell_section ∷ [])) rest 4
  behind_carriers_lem =
      past_count job_text no-carriers (behind_lanes_lem (count_line CARRIERS 0 ++ rest)) refl carriers_section _
      past_closed
      (record { n = 0; rest = rest; small = omega arith; begins = refl }) (omega arith, omega arith)

module _ (rest : List ℕ) where
  pub order_unlike : Refused job_text (no-carriers (count_line ORDER 1 ++ rest)) 2 4
  unfolding count_of same_words NODES LANES CARRIERS
  order_unlike =
      count_refused job_text _ (behind_carriers_lem (count_line ORDER 1 ++ rest)) refl order_section _ (first order_section _)
      (record { n = 1; rest = rest; small = omega arith; begins = refl })
      (λ h. let a = h.0 in let x : ⊥ = omega arith in x)

pub no_last_feed : Refused job_text (no-carriers (ORDER ++ (32 ∷ 48 ∷ []))) 1 4
unfolding count_line further
no_last_feed = first_lacking job_text _ (behind_carriers_lem (ORDER ++ (32 ∷ 48 ∷ []))) refl order_section _ refl refl none
  where
    none : ¬ Counted ORDER (ORDER ++ (32 ∷ 48 ∷ []))
    none c =
        let behind = front_unique ORDER _ _
        (c.begins ∙ append_assoc ORDER (further (c.n ∷ [])) c.rest) in
        let number = tail_same behind ∙ append_assoc (digits c.n) (10 ∷ []) c.rest in
        let same = cut_unique (48 ∷ []) (digits c.n) [] (10 ∷ c.rest) (omega arith, tt)
        (digits_plain c.n) tt (omega arith) number in
        never_empty (sym same.1)

-- ---- behind `ORDER 0`

module _ (rest : List ℕ) where
  abbrev pub no-places : List ℕ
  no-places = no-carriers (count_line ORDER 0 ++ rest)

  pub behind_order_lem : Reached job_text no-places
      (within (content NODES 2 [] ∷ content LANES 0 [] ∷ content CARRIERS 0 [] ∷ []) order_section 0 []
      (dwell_section ∷ [])) rest 5
  unfolding count_of same_words NODES LANES CARRIERS
  behind_order_lem =
      past_count job_text no-places (behind_carriers_lem (count_line ORDER 0 ++ rest)) refl order_section _
      (first order_section _)
      (record { n = 0; rest = rest; small = omega arith; begins = refl }) (refl, omega arith)

-- one byte is no line of the dwell, whose second letter is none
pub one_byte_more : (b : ℕ) → Refused job_text (no-places (b ∷ [])) 1 5
unfolding count_line DWELL
one_byte_more b =
    left_over job_text _ (behind_order_lem (b ∷ [])) refl (
      λ c. let z : ◌≡◌ {A = ℕ} 0 87 = ap (λ (t : List ℕ). get_or t 1 0) c.begins in
          let x : ⊥ = omega arith in x,
      tt,
    )
    (λ e. never_empty e)

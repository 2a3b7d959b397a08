-- More than 64 carriers are refused, and which they are does not matter. 2 at place 2 holds, so nothing past
-- that count is asked: the first fault is a count of nodes, lanes, closed nodes or carriers, and the first
-- three do not look at the carriers. So two questions that begin with the counts of one network, and have
-- more than 64 carriers each, are answered alike, whatever follows; and so are they with one stage before
-- both, as 9 stands. A caller that lends a longer list of records may therefore put the first 65 of them
-- only. Assumes nothing.
--     crowded, crowded_alike            of two questions that begin with the counts
--     crowded_job, crowded_job_alike    of two jobs on one network, and whatever is asked after their checks
--     ⇒-behind                          of two questions with a stage before both
use mathlib.Core.Path.{refl}
use mathlib.Core.List.{List, [], ◌∷◌, ◌++◌}
use Prim.Native.Nat.{ℕ, ◌<◌}
use lib.ListN.{length}
use Rattle.hall.specs.Limits.{carrier_limit}
use Rattle.hall.specs.Floor.{Network}
use Rattle.hall.specs.Job.{job_of, move_count}
use Rattle.hall.specs.Stages.{Stage, Question, None}
use Rattle.hall.specs.Questions.{nodes_count, lanes_count, closed_count, carriers_count, order_count, dwell_count, counts}
use Rattle.hall.specs.Questions.{each_lane, each_closed, each_move, each_order_place, checks_question}
use Rattle.hall.proofs.Compose.{first_before, first_cut, ◌⇒◌, ⇒-append, ⇒-stage}
use Rattle.hall.proofs.Compose.{alike_none, alike_check}
use Rattle.hall.proofs.Places.{none_asked}

⇒-same : {a : Question} → a ⇒ a
⇒-same = record { firsts = λ f p h. h; nones = λ n. n }

pub ⇒-behind : (s : Stage) {a b : Question} → a ⇒ b → s ∷ a ⇒ s ∷ b
⇒-behind s {a} e = ⇒-append (s ∷ []) a ⇒-same e

-- ---- questions that begin with the counts

module _ (nodes numbers closed dwell : ℕ) where
  abbrev upToCarriers : ℕ → Question
  upToCarriers k = nodes_count nodes ∷ lanes_count numbers ∷ closed_count closed ∷ carriers_count k ∷ []

  too_many : {k : ℕ} {a : Question} → carrier_limit < k
      → ¬ None (nodes_count nodes ∷ lanes_count numbers ∷ closed_count closed ∷ carriers_count k ∷ a)
  too_many many none = (none_asked (none_asked (none_asked (none_asked none).1).1).1).0 many

  module _ (k order : ℕ) (a : Question) (many : carrier_limit < k) where
    pub crowded : ¬ None (counts nodes numbers closed k order dwell ++ a)
    crowded = too_many many

    module _ (k' order' : ℕ) (b : Question) (many' : carrier_limit < k') where
      up_to_alike : upToCarriers k ⇒ upToCarriers k'
      up_to_alike =
          ⇒-append (nodes_count nodes ∷ lanes_count numbers ∷ closed_count closed ∷ []) (carriers_count k ∷ []) ⇒-same
          (⇒-stage (alike_check alike_none refl (λ p. (λ x. (x.0, many'), λ x. (x.0, many)))))

      pub crowded_alike :
          counts nodes numbers closed k order dwell ++ a ⇒ counts nodes numbers closed k' order' dwell ++ b
      crowded_alike = record {
        firsts = λ f p h.
            first_before (order_count order' k' ∷ dwell_count dwell ∷ b)
            (up_to_alike.firsts f p (first_cut (upToCarriers k) (order_count order k ∷ dwell_count dwell ∷ a) (too_many many) h));
        nones = λ none. absurd (crowded none);
      }

-- ---- jobs

module _ (N : Network) (moves order : List ℕ) (dwell : ℕ) (a : Question) (many : carrier_limit < move_count moves) where
  -- what is asked after the counts
  abbrev rest : (moves order : List ℕ) (a : Question) → Question
  rest moves order a =
      each_lane N.nodes N.lanes
      ∷ each_closed N.nodes N.closed
      ∷ each_move N.nodes N.closed moves
      ∷ each_order_place (move_count moves) order
      ∷ a

  pub crowded_job : ¬ None (checks_question (job_of N moves order dwell) ++ a)
  crowded_job = too_many N.nodes (length N.lanes) (length N.closed) dwell many

  pub crowded_job_alike : (moves' order' : List ℕ) (b : Question) → carrier_limit < move_count moves'
      → checks_question (job_of N moves order dwell) ++ a ⇒ checks_question (job_of N moves' order' dwell) ++ b
  crowded_job_alike moves' order' b =
      crowded_alike N.nodes (length N.lanes) (length N.closed) dwell
      (move_count moves) (length order) (rest moves order a) many
      (move_count moves') (length order') (rest moves' order' b)

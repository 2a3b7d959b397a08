-- Questions in other words. At a place below n, the checks of a stage are those that it has at each place
-- below n: check by check. What never holds may be left out of a question, at its front or at its end, so the
-- checks of a job without carriers and dwell, up to its order, are the question of its network. Assumes
-- nothing.
use mathlib.Core.Path.{◌≡◌, refl}
use mathlib.Core.Logic.{◌↔◌}
use mathlib.Core.List.{[], ◌∷◌, ◌++◌}
use Prim.Native.Nat.{ℕ, ◌<◌}
use native.Mathlib.Omega.{arith}
use lib.ListN.{length}
use Rattle.hall.specs.Floor.{Network}
use Rattle.hall.specs.Job.{job_of}
use Rattle.hall.specs.Stages.{Stage, Question, FirstOf, here, later, First, None, once, only_at, at_each}
use Rattle.hall.specs.Questions.{nodes_count, lanes_count, closed_count, carriers_count, order_count, dwell_count}
use Rattle.hall.specs.Questions.{each_lane, each_closed, move_checks, each_move}
use Rattle.hall.specs.Questions.{network_question, moves_question}
use Rattle.hall.proofs.Stages.{none_excludes}
use Rattle.hall.proofs.Compose.{none_at_all, none_more, none_split, first_split}
use Rattle.hall.proofs.Compose.{◌⇒◌, ⇒-append, ⇒-stage, alike_none, alike_check}
use Rattle.hall.proofs.Places.{asked_clear, each_none, loop_begins}

-- at a place below n
pub each_inside : (s : Stage) {n i : ℕ} → i < n → only_at i s ⇒ only_at i (at_each n s)
each_inside [] l = record { firsts = λ f p h. h; nones = λ n. n }
each_inside (c ∷ s) {n} {i} l =
    ⇒-append (once c.number i (c.At i) ∷ []) (only_at i s) (⇒-stage (alike_check alike_none refl both))
    (each_inside s l)
  where
    both : (p : ℕ) → ((p ≡ i) × c.At i) ↔ ((p ≡ i) × ((i < n) × c.At i))
    both p = (λ h. (h.0, (l, h.1)), λ h. (h.0, h.1.1))

-- a question without what never holds, in front of it or behind it
module _ (a b : Question) where
  front_left_out : None a → a ++ b ⇒ b
  front_left_out none =
      record { firsts = λ f p h. cases (first_split a b h); nones = λ n. (none_split a b n).1 }
    where
      cases : {f p : ℕ} → FirstOf (First a f p) (None a) (First b f p) → First b f p
      cases (here h) = absurd (none_excludes h none)
      cases (later n h) = h

  end_left_out : None b → a ++ b ⇒ a
  end_left_out none =
      record { firsts = λ f p h. cases (first_split a b h); nones = λ n. (none_split a b n).0 }
    where
      cases : {f p : ℕ} → FirstOf (First a f p) (None a) (First b f p) → First a f p
      cases (here h) = h
      cases (later n h) = absurd (none_excludes h none)

-- the job on a network that has no carriers
module _ (N : Network) where
  no_more_counts : None (carriers_count 0 ∷ order_count 0 0 ∷ dwell_count 0 ∷ [])
  no_more_counts =
      asked_clear (omega arith) (asked_clear (λ differ. differ refl) (asked_clear (omega arith) none_at_all))

  no_entries : None (each_move N.nodes N.closed [] ∷ [])
  no_entries = none_more (each_none (move_checks N.nodes N.closed []) (loop_begins _)) none_at_all

  pub network_alone : moves_question (job_of N [] [] 0) ⇒ network_question N
  network_alone = ⇒-append counts (more ++ (lists ++ rest)) (same counts) without
    where
      counts : Question
      counts = nodes_count N.nodes ∷ lanes_count (length N.lanes) ∷ closed_count (length N.closed) ∷ []

      more : Question
      more = carriers_count 0 ∷ order_count 0 0 ∷ dwell_count 0 ∷ []

      lists : Question
      lists = each_lane N.nodes N.lanes ∷ each_closed N.nodes N.closed ∷ []

      rest : Question
      rest = each_move N.nodes N.closed [] ∷ []

      same : (q : Question) → q ⇒ q
      same q = record { firsts = λ f p h. h; nones = λ n. n }

      without : more ++ (lists ++ rest) ⇒ lists
      without =
          let front = front_left_out more (lists ++ rest) no_more_counts in
          let end = end_left_out lists rest no_entries in
          record {
            firsts = λ f p h. end.firsts f p (front.firsts f p h);
            nones = λ n. end.nones (front.nones n);
          }

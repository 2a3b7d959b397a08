-- A slot forbids the tick asked about exactly if its pair by the rows does, in the slots that are left when
-- whoever is past at the tick is forgotten: a free slot forbids nothing, so such a slot holds a carrier,
-- which stands; and the pair of a carrier that stands is the true one. Two verdicts that are right are one.
-- Assumes nothing.
--     asked_right    what the lowest slot that blocks says is the right verdict
--     verdict_once, asking_unique, asked_unique    one verdict is right, and one answer fits
use mathlib.Core.Path.{◌≡◌, refl, sym, ◌∙◌, ap, subst}
use mathlib.Core.List.{List}
use Prim.Native.Nat.{ℕ, ◌≤◌, ◌<◌}
use native.Mathlib.Nat.{le_antisymm}
use native.Mathlib.Decide.{dec_lt}
use native.Mathlib.Omega.{arith}
use lib.ListN.{length, get_or}
use lib.IntN.{pos, ◌-ℤ◌}
use Rattle.std.specs.Prelude.{Option, Some, None, Result, Ok, Err}
use Rattle.hall.specs.declared.Refusal.{Refusal}
use Rattle.hall.specs.Floor.{Network, floor}
use Rattle.hall.specs.Rule.{Forbidden}
use Rattle.hall.specs.Plan.{DistancesOf}
use Rattle.hall.specs.Stages.{None as NothingOf}
use Rattle.hall.specs.Said.{Said, accepted, refused}
use Rattle.hall.proofs.Stages.{none_excludes, first_unique}
use Rattle.slots.specs.declared.Slot.{Slot}
use Rattle.slots.specs.declared.Book.{Book}
use Rattle.slots.specs.Record.{slot_count, slot_at, Held, forgetting}
use Rattle.slots.proofs.Slots.{forgetting_length, still_held, held_still}
use Rattle.admission.specs.declared.rows.Rows.{Rows}
use Rattle.admission.specs.Questions.{call_question}
use Rattle.admission.specs.Asking.{ForbiddenBy, Verdict, may, barred, Judgement, free_to_go, lowest, Asking, verdict_of, said_asked}
use Rattle.admission.specs.Steps.{pair_for, RowsFrom, Blocking, LowestBlocking, blocking, none_blocks}
use Rattle.admission.proofs.Admitting.{pair_once, true_pair, free_permits}
use Rattle.admission.proofs.RideUnique.{refusal_once}

module _ (N : Network) (b : Book) (t s g : ℕ) (size : length b.slots ≡ slot_count) (sound : NothingOf (call_question N b t s g)) (rows : Rows) (from_ends : RowsFrom N s g rows) where
  abbrev own : ℕ
  own = get_or rows.outward g 0

  abbrev w : ℕ
  w = b.dwell

  abbrev kept : List Slot
  kept = forgetting w t b.slots

  -- of a carrier, by the rows: that its pair is the true one, and that it blocks
  abbrev TruePair : Slot → Type 0
  TruePair c = DistancesOf (floor N) c.start c.goal s g (pair_for rows own c)

  abbrev Blocks : Slot → Type 0
  Blocks c = Forbidden w (pair_for rows own c) (pos t -ℤ pos c.tick)

  to_slot : (i : ℕ) → i < slot_count → Blocking rows own w t kept i → ForbiddenBy N w b.slots t s g i
  to_slot i l f =
      let h : Held kept i = record {
        inside = omega (arith, forgetting_length w t b.slots);
        taken = λ e. free_permits N b t s g size sound rows from_ends (slot_at kept i) e t (slot_at kept i).tick f;
      } in
      let was = still_held w t b.slots i h in
      record {
        standing = was.0;
        pair = pair_for rows own (slot_at b.slots i);
        distances = subst TruePair was.1 (true_pair N b t s g size sound rows from_ends i h);
        forbids = subst Blocks was.1 f;
      }

  of_slot : (i : ℕ) → ForbiddenBy N w b.slots t s g i → Blocking rows own w t kept i
  of_slot i f =
      let still = held_still w t b.slots i f.standing in
      let true_one = subst TruePair still.1 (true_pair N b t s g size sound rows from_ends i still.0) in
      subst Blocks (sym still.1) (rw (pair_once f.distances true_one) at f.forbids)

  -- what the lowest slot that blocks says is the right verdict
  pub asked_right : {r : Option ℕ} → LowestBlocking rows own w t kept r → Judgement N w b.slots t s g (verdict_of r)
  asked_right (none_blocks none) = free_to_go (λ i f. none i (omega (arith, f.standing.held.inside)) (of_slot i f))
  asked_right (blocking {i} l here none) = lowest (to_slot i l here) (λ j k f. none j k (of_slot j f))

-- ---- one verdict

pub verdict_once : {N : Network} {w : ℕ} {slots : List Slot} {t s g : ℕ} {v u : Verdict} → Judgement N w slots t s g v → Judgement N w slots t s g u → v ≡ u
verdict_once (free_to_go a) (free_to_go c) = refl
verdict_once (free_to_go a) (lowest {i = i} f first) = absurd (a i f)
verdict_once (lowest {i = i} f first) (free_to_go a) = absurd (a i f)
verdict_once (lowest {i = i} f first) (lowest {i = j} h least) = ap barred (le_antisymm (below (dec_lt j i)) (above (dec_lt i j)))
  where
    below : Dec (j < i) → i ≤ j
    below (yes l) = absurd (first j l h)
    below (no l) = omega arith

    above : Dec (i < j) → j ≤ i
    above (yes l) = absurd (least i l f)
    above (no l) = omega arith

pub asking_unique : (N : Network) {b : Book} {t s g : ℕ} (said said' : Said Verdict) → Asking N b t s g said → Asking N b t s g said' → said ≡ said'
asking_unique N (accepted v) (accepted u) a c = ap accepted (verdict_once a.right c.right)
asking_unique N (accepted v) (refused n p) a c = absurd (none_excludes c.fits a.fits)
asking_unique N (refused n p) (accepted u) a c = absurd (none_excludes a.fits c.fits)
asking_unique N (refused n p) (refused m q) a c = let e = first_unique a.fits c.fits in λ i. refused (e.0 i) (e.1 i)

-- the slot of a verdict, if it has one
abbrev bar : Verdict → Option ℕ
bar may = None
bar (barred i) = Some i

bar_of : (o : Option ℕ) → bar (verdict_of o) ≡ o
bar_of None = refl
bar_of (Some i) = refl

-- the same of the answers themselves: a refusal has the fault of its number
pub asked_unique : (N : Network) {b : Book} {t s g : ℕ} (r r' : Result (Option ℕ) Refusal) → Asking N b t s g (said_asked r) → Asking N b t s g (said_asked r') → r ≡ r'
asked_unique N (Ok o) (Ok u) a c = ap Ok (sym (bar_of o) ∙ ap bar (verdict_once a.right c.right) ∙ bar_of u)
asked_unique N (Ok o) (Err t) a c = absurd (none_excludes c.fits a.fits)
asked_unique N (Err r) (Ok u) a c = absurd (none_excludes a.fits c.fits)
asked_unique N (Err r) (Err t) a c = let e = first_unique a.fits c.fits in ap Err (refusal_once r t e.0 e.1)

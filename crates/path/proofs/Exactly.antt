-- What each answer tells, exactly, from the promises as they stand. The question about one list and the house
-- path are refused with a number at a place exactly if that is the first fault of their question (hall's
-- `refused_exactly`), and accepted exactly if there is none. The choice is the own list exactly if that
-- passes, the spare exactly if only the spare does, and an empty part exactly if neither does. A list that
-- passes has a node at least; the empty part of an empty own list is that list itself, so the choice of a
-- list is told by its having nodes too. Assumes nothing.
use mathlib.Core.Path.{◌≡◌, sym, ◌∙◌, ap, subst}
use mathlib.Core.Logic.{◌↔◌, ◌≢◌}
use mathlib.Core.List.{List, []}
use Prim.Native.Nat.{ℕ, ◌<◌}
use native.Mathlib.Omega.{arith}
use lib.ListN.{length}
use denote.Ref.{Bor}
use Rattle.std.specs.Prelude.{Result, Ok}
use Rattle.hall.specs.declared.Refusal.{Refusal}
use Rattle.hall.specs.Limits.{node_limit}
use Rattle.hall.specs.Floor.{Network}
use Rattle.hall.specs.Stages.{Question, First, None}
use Rattle.hall.specs.Said.{Said, accepted, refused, Fits, said_checked}
use Rattle.hall.specs.Questions.{house_of_move, list_of_move}
use Rattle.hall.proofs.Stages.{none_excludes, refused_exactly}
use Rattle.path.specs.Paths.{Unfit, said_housed, HouseLeft, HouseAnswer, ListAnswer, Passes}
use Rattle.path.specs.Paths.{Chosen, own_list, spare_list, neither, ChoiceAnswer}
use Rattle.path.proofs.Listed.{passes_none, none_passes}
use Rattle.path.proofs.Agree.{passes_sound, sound_passes}

-- ---- the house path, whatever its question is

module _ (q : Question) (N : Network) (s g : ℕ) (path path' : List ℕ) where
  left_fits : (a : Said ℕ) → HouseLeft q N s g path path' a → Fits q a
  left_fits (accepted count) h = h.0
  left_fits (refused n p) h = h.0

  pub left_refused_exactly : (a : Said ℕ) → HouseLeft q N s g path path' a
      → (n p : ℕ) → (a ≡ refused n p) ↔ First q n p
  left_refused_exactly a h = refused_exactly a (left_fits a h)

  pub left_accepted_exactly : (a : Said ℕ) → HouseLeft q N s g path path' a
      → ((count : ℕ) × (a ≡ accepted count)) ↔ None q
  left_accepted_exactly a h = (λ x. forth x.1, λ none. back a (left_fits a h) none)
    where
      forth : {count : ℕ} → a ≡ accepted count → None q
      forth e = subst (Fits q) e (left_fits a h)

      back : (a : Said ℕ) → Fits q a → None q → (count : ℕ) × (a ≡ accepted count)
      back (accepted count) fits none = (count, λ i. accepted count)
      back (refused n p) fits none = absurd (none_excludes fits none)

module _ {N N' : Network} {s g : ℕ} {path path' : List ℕ} (r : Result ℕ Refusal)
    (a : HouseAnswer N N' s g path path' r) where
  pub house_refused_exactly : (n p : ℕ)
      → (said_housed r ≡ refused n p) ↔ First (house_of_move (length path < node_limit) N s g) n p
  house_refused_exactly =
      left_refused_exactly (house_of_move (length path < node_limit) N s g) N s g path path'
      (said_housed r) a.given

  pub house_accepted_exactly :
      ((count : ℕ) × (said_housed r ≡ accepted count)) ↔ None (house_of_move (length path < node_limit) N s g)
  house_accepted_exactly =
      left_accepted_exactly (house_of_move (length path < node_limit) N s g) N s g path path'
      (said_housed r) a.given

-- ---- the question about one list

pub passes_exactly : (N : Network) (s g : ℕ) (list : List ℕ)
    → Passes N s g list ↔ None (list_of_move N s g (Unfit N s g list))
passes_exactly N s g list = (passes_none N s g list, none_passes N s g list)

module _ {N N' : Network} {s g : ℕ} {list list' : List ℕ} (r : Result Unit Refusal)
    (a : ListAnswer N N' s g list list' r) where
  pub list_refused_exactly : (n p : ℕ)
      → (said_checked r ≡ refused n p) ↔ First (list_of_move N s g (Unfit N s g list)) n p
  list_refused_exactly = refused_exactly (said_checked r) a.judged

  pub list_sound_exactly : (r ≡ Ok tt) ↔ Passes N s g list
  list_sound_exactly = (λ e. sound_passes e a, λ p. passes_sound p a)

-- ---- the choice

-- a list that passes has a node at least
passing_some : {N : Network} {s g : ℕ} {list : List ℕ} → Passes N s g list → list ≢ []
passing_some p e = omega (arith, p.shortest.is_path.size, ap length e)

module _ {N N' : Network} {s g : ℕ} {own own' spare spare' r : Bor (List ℕ)}
    (a : ChoiceAnswer N N' s g own own' spare spare' r) where
  abbrev Fit : Bor (List ℕ) → Type 0
  Fit list = Passes N s g list.now

  fit_some : {list : Bor (List ℕ)} → r ≡ list → Fit list → r.now ≢ []
  fit_some e p x = passing_some p (ap (λ x. x.now) (sym e) ∙ x)

  pub own_exactly : Fit own ↔ ((r ≡ own) × (r.now ≢ []))
  own_exactly = (λ p. forth a.chosen p, λ x. back a.chosen x.0 x.1)
    where
      forth : Chosen N s g own spare r → Fit own → (r ≡ own) × (r.now ≢ [])
      forth (own_list p e) q = (e, fit_some e p)
      forth (spare_list n p e) q = absurd (n q)
      forth (neither n m e f) q = absurd (n q)

      back : Chosen N s g own spare r → r ≡ own → r.now ≢ [] → Fit own
      back (own_list p e) x some = p
      back (spare_list n p e) x some = subst Fit (sym e ∙ x) p
      back (neither n m e f) x some = absurd (some f)

  pub spare_exactly : ((¬ Fit own) × Fit spare) ↔ ((r ≡ spare) × (r ≢ own) × (r.now ≢ []))
  spare_exactly = (λ x. forth a.chosen x.0 x.1, λ x. back a.chosen x.1 x.2)
    where
      forth : Chosen N s g own spare r → ¬ Fit own → Fit spare → (r ≡ spare) × (r ≢ own) × (r.now ≢ [])
      forth (own_list p e) n q = absurd (n p)
      forth (spare_list m p e) n q = (e, λ x. n (subst Fit (sym e ∙ x) p), fit_some e p)
      forth (neither m k e f) n q = absurd (k q)

      back : Chosen N s g own spare r → r ≢ own → r.now ≢ [] → (¬ Fit own) × Fit spare
      back (own_list p e) other some = absurd (other e)
      back (spare_list n p e) other some = (n, p)
      back (neither n m e f) other some = absurd (some f)

  pub empty_exactly : ((¬ Fit own) × (¬ Fit spare)) ↔ ((r.ref_ptr ≡ own.ref_ptr) × (r.now ≡ []))
  empty_exactly = (λ x. forth a.chosen x.0 x.1, λ x. back a.chosen x.1)
    where
      forth : Chosen N s g own spare r → ¬ Fit own → ¬ Fit spare → (r.ref_ptr ≡ own.ref_ptr) × (r.now ≡ [])
      forth (own_list p e) n m = absurd (n p)
      forth (spare_list k p e) n m = absurd (m p)
      forth (neither k l e f) n m = (e, f)

      back : Chosen N s g own spare r → r.now ≡ [] → (¬ Fit own) × (¬ Fit spare)
      back (own_list p e) f = absurd (fit_some e p f)
      back (spare_list n p e) f = absurd (fit_some e p f)
      back (neither n m e g) f = (n, m)

-- Computed tests of the carriers held in a list of slots, one by one from the front, and of the smallest tick
-- from a given one up. What holds of every carrier held holds of each element of a list, which is short where
-- few are held. Only the ticks from the given one up are looked at, since those before it may be four
-- thousand million. Assumes nothing.
--     Each P l        P holds of every element of the list l
--     carriers_in      the carriers held in a list of slots, without the free slots
--     NoneFrom        no tick from a given one up and before x is permitted
use mathlib.Core.Path.{◌≡◌, subst}
use mathlib.Core.Logic.{◌≢◌}
use mathlib.Core.Bool.{Bool, true, false, not}
use mathlib.Core.List.{List, [], ◌∷◌}
use Prim.Native.Nat.{ℕ, zero, suc, ◌+◌, ◌-◌, ◌≤◌, ◌<◌}
use native.Mathlib.Nat.{not-suc-le-zero}
use native.Mathlib.Decide.{dec_le}
use native.Mathlib.Omega.{arith}
use lib.Dec.{T}
use Rattle.hall.specs.Ticks.{SmallestFrom}
use Rattle.slots.specs.declared.Slot.{Slot}
use Rattle.slots.specs.Record.{free, slot_at, Held}
use Rattle.hall.proofs.Test.{Test, le?, not?, ◌and?◌, always?, map?, all?}
use Rattle.book_cases.proofs.BookTests.{free?}

-- ---- every one of a list

abbrev pub Each : {X : Type 0} → (X → Type 0) → List X → Type 0
Each P [] = Unit
Each P (x ∷ l) = P x × Each P l

abbrev pub each-one? : {X : Type 0} {P : X → Type 0} → ((x : X) → Test (P x)) → (l : List X) → Test (Each P l)
each-one? t [] = always?
each-one? t (x ∷ l) = t x and? each-one? t l

-- ---- the carriers held in a list of slots

abbrev pub unless_free : Bool → Slot → List Slot → List Slot
unless_free true c l = l
unless_free false c l = c ∷ l

abbrev pub carriers_in : List Slot → List Slot
carriers_in [] = []
carriers_in (c ∷ l) = unless_free (free? c).pass c (carriers_in l)

module _ (P : Slot → Type 0) where
  more_held : (c : Slot) (l : List Slot) → ((c ≢ free) → P c) → ((i : ℕ) → Held l i → P (slot_at l i))
      → (i : ℕ) → Held (c ∷ l) i → P (slot_at (c ∷ l) i)
  more_held c l first rest zero h = first h.taken
  more_held c l first rest (suc i) h = rest i (record { inside = omega (arith, h.inside); taken = h.taken })

  pub each_held : (l : List Slot) → Each P (carriers_in l) → (i : ℕ) → Held l i → P (slot_at l i)
  each_held [] e = λ i h. absurd (not-suc-le-zero h.inside)
  each_held (c ∷ l) e = cases (each_held l) (free? c).pass (free? c).sound e
    where
      cases : (Each P (carriers_in l) → (i : ℕ) → Held l i → P (slot_at l i)) → (b : Bool) → (T b → c ≡ free)
          → Each P (unless_free b c (carriers_in l)) → (i : ℕ) → Held (c ∷ l) i → P (slot_at (c ∷ l) i)
      cases rest true f e = more_held c l (λ k. absurd (k (f tt))) (rest e)
      cases rest false f e = more_held c l (λ k. e.0) (rest e.1)

  pub held_each : (l : List Slot) → ((i : ℕ) → Held l i → P (slot_at l i)) → Each P (carriers_in l)
  held_each [] f = tt
  held_each (c ∷ l) f =
      cases (held_each l (λ i h. f (suc i) (record { inside = omega (arith, h.inside); taken = h.taken })))
      (free? c).pass (free? c).fails
    where
      cases : Each P (carriers_in l) → (b : Bool) → (T (not b) → c ≡ free → ⊥) → Each P (unless_free b c (carriers_in l))
      cases rest true k = rest
      cases rest false k = (f zero (record { inside = omega arith; taken = k tt }), rest)

-- ---- the smallest tick

abbrev pub NoneFrom : (from : ℕ) (Permits : ℕ → Type 0) (x : ℕ) → Type 0
NoneFrom from Permits x = (k : ℕ) → k < x - from → ¬ Permits (from + k)

module _ {from x : ℕ} {Permits : ℕ → Type 0} where
  pub smallest_from : (from ≤ x) × (Permits x × NoneFrom from Permits x) → SmallestFrom from Permits x
  smallest_from h = record { not_before = h.0; permitted = h.1.0; least = λ y l f. cases y l f (dec_le x y) }
    where
      cases : (y : ℕ) → from ≤ y → Permits y → Dec (x ≤ y) → x ≤ y
      cases y l f (yes e) = e
      cases y l f (no e) =
          let same : y ≡ from + (y - from) = omega arith in
          absurd (h.1.1 (y - from) (omega arith) (subst Permits same f))

  pub none_from : SmallestFrom from Permits x → (from ≤ x) × (Permits x × NoneFrom from Permits x)
  none_from s =
      (s.not_before, (s.permitted, λ k l f. let h = s.least (from + k) (omega arith) f in let e : ⊥ = omega arith in e))

abbrev pub smallest-from? : {Permits : ℕ → Type 0} → ((x : ℕ) → Test (Permits x)) → (from x : ℕ) → Test (SmallestFrom from Permits x)
smallest-from? t from x = map? smallest_from none_from (le? from x and? t x and? all? (λ k. not? (t (from + k))) (x - from))

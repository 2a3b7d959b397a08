-- Computed tests whether two outcomes of a trolley are equal: number by number, and lists of numbers and of
-- slots place by place. Assumes nothing.
--     kind, move, number, place   the four numbers of an `Ending`, 0 where it has none; `end_of` has it back
use mathlib.Core.Path.{◌≡◌, refl, sym, ◌∙◌, ap}
use mathlib.Core.List.{List, [], ◌∷◌}
use Prim.Native.Nat.{ℕ, zero, suc}
use native.Mathlib.Omega.{arith}
use lib.ListN.{length}
use Rattle.slots.specs.declared.Slot.{Slot}
use Rattle.slots.specs.declared.Book.{Book}
use Rattle.admission.specs.Trolley.{Ending, all, stopped, refused_whole}
use Rattle.book_cases.specs.Trolleys.{TrolleyOutcome}
use Rattle.hall.proofs.Test.{Test, eq?, never?, always?, ◌and?◌, map?}

-- ---- lists

abbrev first : {X : Type 0} → X → List X → X
first x [] = x
first x (y ∷ l) = y

abbrev rest : {X : Type 0} → List X → List X
rest [] = []
rest (x ∷ l) = l

pub differ : {X : Type 0} (l m : List X) → ¬ (length l ≡ length m) → l ≡ m → ⊥
differ l m k e = k (ap length e)

abbrev pub list? : {X : Type 0} → ((x y : X) → Test (x ≡ y)) → (l m : List X) → Test (l ≡ m)
list? t [] [] = map? (λ u. refl) (λ e. tt) always?
list? t [] (y ∷ m) = map? absurd (differ [] (y ∷ m) (λ e. omega arith)) never?
list? t (x ∷ l) [] = map? absurd (differ (x ∷ l) [] (λ e. omega arith)) never?
list? t (x ∷ l) (y ∷ m) =
    map? {A = (x ≡ y) × (l ≡ m)} (λ h i. h.0 i ∷ h.1 i) (λ e. (ap (first x) e, ap rest e))
    (t x y and? list? t l m)

-- ---- books

abbrev pub slot? : (c d : Slot) → Test (c ≡ d)
slot? c d =
    map? {A = (c.start ≡ d.start) × ((c.goal ≡ d.goal) × ((c.distance ≡ d.distance) × (c.tick ≡ d.tick)))}
    (λ h i. record { start = h.0 i; goal = h.1.0 i; distance = h.1.1.0 i; tick = h.1.1.1 i })
    (λ e. ((λ i. (e i).start), ((λ i. (e i).goal), ((λ i. (e i).distance), (λ i. (e i).tick)))))
    (eq? c.start d.start and? eq? c.goal d.goal and? eq? c.distance d.distance and? eq? c.tick d.tick)

abbrev pub book-is? : (b d : Book) → Test (b ≡ d)
book-is? b d =
    map? {A = (b.clock ≡ d.clock) × ((b.dwell ≡ d.dwell) × (b.slots ≡ d.slots))}
    (λ h i. record { clock = h.0 i; dwell = h.1.0 i; slots = h.1.1 i })
    (λ e. ((λ i. (e i).clock), ((λ i. (e i).dwell), (λ i. (e i).slots))))
    (eq? b.clock d.clock and? eq? b.dwell d.dwell and? list? slot? b.slots d.slots)

-- ---- ends

abbrev kind : Ending → ℕ
kind all = 0
kind (stopped k n p) = 1
kind (refused_whole n p) = 2

abbrev move : Ending → ℕ
move all = 0
move (stopped k n p) = k
move (refused_whole n p) = 0

abbrev number : Ending → ℕ
number all = 0
number (stopped k n p) = n
number (refused_whole n p) = n

abbrev place : Ending → ℕ
place all = 0
place (stopped k n p) = p
place (refused_whole n p) = p

abbrev end_of : (kind move number place : ℕ) → Ending
end_of zero k n p = all
end_of (suc zero) k n p = stopped k n p
end_of (suc (suc j)) k n p = refused_whole n p

pub end_back : (e : Ending) → end_of (kind e) (move e) (number e) (place e) ≡ e
end_back all = refl
end_back (stopped k n p) = refl
end_back (refused_whole n p) = refl

abbrev pub end? : (e f : Ending) → Test (e ≡ f)
end? e f =
    map? {A = (kind e ≡ kind f) × ((move e ≡ move f) × ((number e ≡ number f) × (place e ≡ place f)))}
    (λ h. sym (end_back e) ∙ (λ i. end_of (h.0 i) (h.1.0 i) (h.1.1.0 i) (h.1.1.1 i)) ∙ end_back f)
    (λ h. (ap kind h, (ap move h, (ap number h, ap place h))))
    (eq? (kind e) (kind f) and? eq? (move e) (move f) and? eq? (number e) (number f) and? eq? (place e) (place f))

-- ---- outcomes

abbrev pub outcome? : (o o' : TrolleyOutcome) → Test (o ≡ o')
outcome? o o' =
    map? {A = (o.end ≡ o'.end) × ((o.ticks_left ≡ o'.ticks_left) × (o.left ≡ o'.left))}
    (λ h i. record { end = h.0 i; ticks_left = h.1.0 i; left = h.1.1 i })
    (λ e. ((λ i. (e i).end), ((λ i. (e i).ticks_left), (λ i. (e i).left))))
    (end? o.end o'.end and? list? eq? o.ticks_left o'.ticks_left and? book-is? o.left o'.left)

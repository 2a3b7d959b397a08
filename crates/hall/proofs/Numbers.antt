-- A number has one fault: `fault_of` leads back from the number of a fault to the fault. This is the one law
-- that goes through the faults one by one. So no fault has the number 6: it would be the fault that stands
-- there in the list, whose number is 1. Assumes nothing.
--     fault_of       the fault with a number; what it is for a number that none has, 0 and 6 among them, does
--                   not matter
--     six_unused    no fault has the number 6 (rule 8.6)
--     never_six     no answer is a refusal with 6
use mathlib.Core.Path.{◌≡◌, refl, sym, ◌∙◌, ap}
use mathlib.Core.Logic.{◌≢◌}
use mathlib.Core.List.{List, [], ◌∷◌}
use Prim.Native.Nat.{ℕ}
use native.Mathlib.Omega.{arith}
use lib.ListN.{get_or}
use Rattle.hall.specs.declared.Fault.{Fault}
use Rattle.hall.specs.declared.Fault.TheVariants.{Malformed, BadCount, BadLane, NoNode, SameEnds}
use Rattle.hall.specs.declared.Fault.TheVariants.{BadOrder, Unreachable, ShortTable, NoCarrier}
use Rattle.hall.specs.declared.Fault.TheVariants.{NotShortest, BadClosed, ClosedEnd}
use Rattle.hall.specs.declared.Fault.TheVariants.{BadClock, NoSlot, BadBook, StaleSlot}
use Rattle.hall.specs.declared.Refusal.{Refusal}
use Rattle.hall.specs.Numbers.{number_of}
use Rattle.hall.specs.Said.{Said, accepted, refused, said_refusal}

abbrev listed : List Fault
listed =
    -- 0, which none has
    Malformed
    ∷ Malformed
    ∷ BadCount
    ∷ BadLane
    ∷ NoNode
    ∷ SameEnds
    -- 6, which none has
    ∷ Malformed
    ∷ BadOrder
    ∷ Unreachable
    ∷ ShortTable
    ∷ NoCarrier
    ∷ NotShortest
    ∷ BadClosed
    ∷ ClosedEnd
    ∷ BadClock
    ∷ NoSlot
    ∷ BadBook
    ∷ StaleSlot
    ∷ []

abbrev fault_of : ℕ → Fault
fault_of n = get_or listed n Malformed

back : (f : Fault) → fault_of (number_of f) ≡ f
back Malformed = refl
back BadCount = refl
back BadLane = refl
back NoNode = refl
back SameEnds = refl
back BadOrder = refl
back Unreachable = refl
back ShortTable = refl
back NoCarrier = refl
back NotShortest = refl
back BadClosed = refl
back ClosedEnd = refl
back BadClock = refl
back NoSlot = refl
back BadBook = refl
back StaleSlot = refl

pub number_one_fault : (f g : Fault) → number_of f ≡ number_of g → f ≡ g
number_one_fault f g e = sym (back f) ∙ ap fault_of e ∙ back g

pub six_unused : (f : Fault) → number_of f ≢ 6
six_unused f e = let other : number_of f ≡ 1 = ap number_of (sym (back f) ∙ ap fault_of e) in omega arith

-- what is said with which number, 0 where nothing is refused
abbrev said_number : {A : Type 0} → Said A → ℕ
said_number (accepted a) = 0
said_number (refused n p) = n

pub never_six : {A : Type 0} (r : Refusal) (p : ℕ) → said_refusal {A = A} r ≢ refused 6 p
never_six r p e = six_unused r.fault (ap said_number e)

pub accepted_never_six : {A : Type 0} (a : A) (p : ℕ) → accepted a ≢ refused 6 p
accepted_never_six a p e = let none : ◌≡◌ {A = ℕ} 0 6 = ap said_number e in omega arith

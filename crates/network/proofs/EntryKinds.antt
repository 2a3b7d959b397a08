-- How many entries a list has, by its kind: lanes and moves come by pairs of numbers, closed nodes and places
-- of the order one by one. Assumes nothing.
use Rattle.std.proofs.Common.{◌≡◌, refl, inl, inr, ◌⊎◌, List, ℕ, ◌/◌, ◌≤◌, length, arith}
use Rattle.network.specs.declared.entries.Entries.{Entries}
use Rattle.network.specs.declared.entries.Entries.TheVariants.{Lanes, Closed, Moves, Places}
use Rattle.network.specs.Entries.{places_in}

pub by_pairs : (which : Entries) (list : List ℕ) → (which ≡ Lanes) ⊎ (which ≡ Moves) →
    length list / 2 ≡ places_in which list
by_pairs which list (inl e) = rw e refl
by_pairs which list (inr e) = rw e refl

pub one_by_one : (which : Entries) (list : List ℕ) → (which ≡ Closed) ⊎ (which ≡ Places) →
    length list ≡ places_in which list
one_by_one which list (inl e) = rw e refl
one_by_one which list (inr e) = rw e refl

pub places_within : (which : Entries) (list : List ℕ) → places_in which list ≤ length list
places_within Lanes list = omega arith
places_within Closed list = omega arith
places_within Moves list = omega arith
places_within Places list = omega arith

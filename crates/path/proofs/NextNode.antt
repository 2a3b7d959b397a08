-- The lowest-numbered neighbour at a distance, over the list of lanes. Each lane is looked at in both
-- directions; the best so far only falls, is a neighbour of u at the wanted distance once there is one, and is
-- not above any such neighbour to which a lane before place i leads. Assumes nothing.
--     Seeking    where the loop over the lanes stands before place i of the lane list
use mathlib.Core.Path.{◌≡◌, refl, sym, ◌∙◌}
use mathlib.Core.List.{List}
use Prim.Native.Nat.{ℕ, ◌+◌, ◌*◌, ◌%◌, ◌≤◌, ◌<◌}
use native.Mathlib.Decide.{dec_le}
use native.Mathlib.Omega.{arith}
use lib.ListN.{length, get_or}
use Rattle.std.specs.Prelude.{Option, Some, None as Nothing, min}
use Rattle.std.proofs.lemmas.Option.{same_Some, none-some}
use Rattle.hall.specs.Floor.{Lane}
use Rattle.hall.proofs.LaneList.{LaneBefore, earlier, forth, back, lane_at, lane_back_at, lane_before}
use Rattle.path.specs.Steps.{Next, Leads, lower_of, Nearer, kept, taken, AtMost, LowestNext}

pub record Seeking (lanes row : List ℕ) (u wanted i : ℕ) (best : Option ℕ) : Type 0 where
  -- the best so far is a neighbour at the wanted distance
  pub is_next : (v : ℕ) → best ≡ Some v → Next (length row) lanes row u wanted v
  -- and no lane before i leads to a lower one
  pub lowest : (v : ℕ) → (n : Next (length row) lanes row u wanted v) → 2 * n.lane.k < i → AtMost best v

pub seeking_none : (lanes row : List ℕ) (u wanted : ℕ) → Seeking lanes row u wanted 0 Nothing
seeking_none lanes row u wanted = record {
  is_next = λ v e. absurd (none-some v e);
  lowest = λ v n l. absurd (let x : ⊥ = omega arith in x);
}

pub seeking_all : {lanes row : List ℕ} {u wanted i : ℕ} {best : Option ℕ} →
    Seeking lanes row u wanted i best → length lanes ≤ i + 1 → LowestNext (length row) lanes row u wanted best
seeking_all s all = record {
  is_next = s.is_next;
  lowest = λ v n. s.lowest v n (omega (arith, n.lane.inside));
}

-- ---- one end of a lane

falls : (best : Option ℕ) (b w : ℕ) → AtMost best w → lower_of best b ≤ w
falls (Some v) b w h = omega arith
falls Nothing b w h = absurd h

below_end : (best : Option ℕ) (b : ℕ) → lower_of best b ≤ b
below_end (Some v) b = omega arith
below_end Nothing b = omega arith

module _ {row : List ℕ} {u a b wanted : ℕ} {best r : Option ℕ} where
  never_rises : Nearer (length row) row u a b wanted best r → (w : ℕ) → AtMost best w → AtMost r w
  never_rises (kept f e) w h = rw e h
  never_rises (taken x e) w h = rw e (falls best b w h)

  not_above_end : Nearer (length row) row u a b wanted best r → Leads (length row) row u a b wanted → AtMost r b
  not_above_end (kept f e) x = absurd (f x)
  not_above_end (taken y e) x = rw e (below_end best b)

module _ {lanes row : List ℕ} {u a b wanted : ℕ} (lane : a ≡ u → Lane lanes u b) where
  lower_next : (best : Option ℕ) → ((v : ℕ) → best ≡ Some v → Next (length row) lanes row u wanted v)
      → Leads (length row) row u a b wanted → Next (length row) lanes row u wanted (lower_of best b)
  lower_next (Some v) next x = side (dec_le v b)
    where
      side : Dec (v ≤ b) → Next (length row) lanes row u wanted (min v b)
      side (yes h) = let e : min v b ≡ v = omega arith in rw e (next v refl)
      side (no h) =
          let e : min v b ≡ b = omega arith in
          rw e (record { numbered = x.numbered; lane = lane x.from_here; at_distance = x.at_distance })
  lower_next Nothing next x =
      record { numbered = x.numbered; lane = lane x.from_here; at_distance = x.at_distance }

  still_next : {best r : Option ℕ} → ((v : ℕ) → best ≡ Some v → Next (length row) lanes row u wanted v)
      → Nearer (length row) row u a b wanted best r → (v : ℕ) → r ≡ Some v → Next (length row) lanes row u wanted v
  still_next next (kept f e) v is = next v (sym e ∙ is)
  still_next {best} next (taken x e) v is = rw (same_Some _ _ (sym e ∙ is)) at (lower_next best next x)

-- ---- a lane in both directions

pub seeking_lane : {lanes row : List ℕ} {u wanted i : ℕ} {best₁ best₂ best₃ : Option ℕ} →
    i % 2 ≡ 0 → i + 1 < length lanes → Seeking lanes row u wanted i best₁
    → Nearer (length row) row u (get_or lanes i 0) (get_or lanes (i + 1) 0) wanted best₁ best₂
    → Nearer (length row) row u (get_or lanes (i + 1) 0) (get_or lanes i 0) wanted best₂ best₃
    → Seeking lanes row u wanted (i + 2) best₃
seeking_lane {lanes} {row} {u} {wanted} {i} {best₁} {best₂} {best₃} even inside s x y = record {
  is_next =
      still_next (λ e. lane_back_at lanes i even inside refl e)
      (still_next (λ e. lane_at lanes i even inside e refl) s.is_next x) y;
  lowest = λ v n l. cases v n (lane_before lanes i even n.lane l);
}
  where
    cases : (v : ℕ) → (n : Next (length row) lanes row u wanted v) → LaneBefore lanes u v i n.lane.k → AtMost best₃ v
    cases v n (earlier l) = never_rises y v (never_rises x v (s.lowest v n l))
    cases v n (forth p q) =
        never_rises y v
        (rw q at
        (not_above_end x (record { from_here = p; numbered = rw q n.numbered; at_distance = rw q n.at_distance })))
    cases v n (back p q) =
        rw p at
        (not_above_end y (record { from_here = q; numbered = rw p n.numbered; at_distance = rw p n.at_distance }))

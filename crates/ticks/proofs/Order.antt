-- An order that is served lists carrier numbers below its length, each once: that is what it says that
-- nothing of 7 holds of it. So it lists them all, and what holds of the carrier at each place holds of each
-- carrier. The order of a job without a fault of its listed checks is such an order. Assumes nothing.
use mathlib.Core.Path.{◌≡◌, sym, subst}
use mathlib.Core.Logic.{◌≢◌}
use mathlib.Core.List.{List, [], ◌∷◌, ◌++◌}
use Prim.Native.Nat.{ℕ, ◌≤◌, ◌<◌}
use native.Mathlib.Decide.{dec_lt}
use native.Mathlib.Omega.{arith}
use lib.ListN.{length, get_or}
use Rattle.hall.specs.Limits.{carrier_limit, table_length}
use Rattle.hall.specs.Job.{Numbers, carriers}
use Rattle.hall.specs.Stages.{None}
use Rattle.hall.specs.Refusals.{BadOrder-at, no_carrier, stands_earlier}
use Rattle.hall.specs.Questions.{counts, each_lane, each_closed, each_move, order_checks, each_order_place, checks_question}
use Rattle.hall.proofs.Compose.{none_split}
use Rattle.hall.proofs.Places.{none_each}
use Rattle.hall.proofs.Sound.{carriers_limit, dwell_within, order_length}
use Rattle.hall.proofs.Pigeon.{all_listed}
use Rattle.ticks.specs.Timing.{OrderServed, TicksServed}

module _ {table order : List ℕ} {room : ℕ} (s : OrderServed table order room) where
  entry_sound : (p : ℕ) → p < length order → ¬ BadOrder-at (length order) order p
  entry_sound p h = ((none_each (order_checks (length order) order) s.sound_order).0.clear p h).0

  pub entry_below : (p : ℕ) → p < length order → get_or order p 0 < length order
  entry_below p h = cases (dec_lt (get_or order p 0) (length order))
    where
      cases : Dec (get_or order p 0 < length order) → get_or order p 0 < length order
      cases (yes l) = l
      cases (no n) = absurd (entry_sound p h (no_carrier (omega arith)))

  -- a number that is the entry at a place
  pub number_below : (p : ℕ) {r : ℕ} → p < length order → r ≡ get_or order p 0 → r < carrier_limit
  number_below p h e = omega (arith, entry_below p h, s.few_places)

  pub entry_once : (p q : ℕ) → p < q → q < length order → get_or order p 0 ≢ get_or order q 0
  entry_once p q l h e = entry_sound q h (stands_earlier l e)

  pub one_place : (p q : ℕ) → p < length order → q < length order → get_or order p 0 ≡ get_or order q 0 → p ≡ q
  one_place p q hp hq e = cases (dec_lt p q) (dec_lt q p)
    where
      cases : Dec (p < q) → Dec (q < p) → p ≡ q
      cases (yes l) d = absurd (entry_once p q l hq e)
      cases (no n) (yes l) = absurd (entry_once q p l hp (sym e))
      cases (no n) (no m) = omega arith

  pub every_carrier : (P : ℕ → Type 0) →
      ((p : ℕ) → p < length order → P (get_or order p 0)) → (i : ℕ) → i < length order → P i
  every_carrier P h i l =
      let f = all_listed (length order) (λ p. get_or order p 0) entry_below one_place i l in
      subst (λ (x : ℕ). P x) f.is (h f.place f.inside)

-- ---- the order of a sound job

module _ (j : Numbers) (sound : None (checks_question j)) where
  -- 7 is the last that is asked
  order_sound : None (each_order_place (carriers j) j.order ∷ [])
  order_sound =
      (none_split
      (counts j.network.nodes (length j.network.lanes) (length j.network.closed)
      (carriers j) (length j.order) j.dwell
      ++ (each_lane j.network.nodes j.network.lanes
      ∷ each_closed j.network.nodes j.network.closed
      ∷ each_move j.network.nodes j.network.closed j.moves
      ∷ []))
      (each_order_place (carriers j) j.order ∷ []) sound).1

  pub job_served : {table : List ℕ} {room : ℕ} →
      table_length ≤ length table → carrier_limit ≤ room → TicksServed table j.order j.dwell room
  job_served whole enough = record {
    listed = record {
      whole_table = whole;
      few_places = omega (arith, order_length j sound, carriers_limit j sound);
      sound_order =
          subst (λ (n : ℕ). None (each_order_place n j.order ∷ [])) (sym (order_length j sound)) order_sound;
      enough_room = enough;
    };
    dwell_few = dwell_within j sound;
  }

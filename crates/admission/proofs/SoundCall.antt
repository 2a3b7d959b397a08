-- What a call that passes its checks is like, read off the list of stages: each part is the denial of one
-- check. Assumes nothing.
--     move_tells                its move has open ends that differ, on a network of at most 1,024 nodes
--     walk_there                and a walk
--     book_sound, not_back, not_beyond    its book is not damaged, and its tick is neither before the book's
--                               clock nor above the limit
--     move_clear, none_stale    nothing of the network and the move holds, and nothing of 17
use mathlib.Core.Logic.{inl, inr}
use mathlib.Core.List.{[], ◌∷◌, ◌++◌}
use Prim.Native.Nat.{ℕ, ◌≤◌}
use Rattle.hall.specs.declared.Fault.TheVariants.{Unreachable}
use Rattle.hall.specs.Floor.{NoWalk, Network, floor}
use Rattle.hall.specs.Stages.{None, asked}
use Rattle.hall.specs.Questions.{move_ends, move_question}
use Rattle.hall.proofs.Compose.{none_split}
use Rattle.hall.proofs.Places.{none_asked}
use Rattle.hall.proofs.Sound.{not_above}
use Rattle.network.proofs.SoundMove.{MoveSound, move_sound}
use Rattle.slots.specs.declared.Book.{Book}
use Rattle.slots.specs.Refusals.{clock_limit, Damaged}
use Rattle.admission.specs.Questions.{stale_slots, call_question}

module _ (N : Network) (s g : ℕ) (sound : None (move_question N s g)) where
  pub move_tells : MoveSound N s g
  move_tells =
      move_sound N s g (none_split (move_ends N s g) (asked Unreachable 0 (NoWalk (floor N) s g) ∷ []) sound).0

  pub walk_there : ¬ NoWalk (floor N) s g
  walk_there =
      (none_asked (none_split (move_ends N s g) (asked Unreachable 0 (NoWalk (floor N) s g) ∷ []) sound).1).0

module _ (N : Network) (b : Book) (t s g : ℕ) (sound : None (call_question N b t s g)) where
  rest : None (move_question N s g ++ (stale_slots N b.dwell t b.slots ∷ []))
  rest = (none_asked (none_asked sound).1).1

  pub book_sound : ¬ Damaged b
  book_sound = (none_asked sound).0

  pub not_back : b.clock ≤ t
  not_back = not_above t b.clock (λ l. (none_asked (none_asked sound).1).0 (inl l))

  pub not_beyond : t ≤ clock_limit
  not_beyond = not_above clock_limit t (λ l. (none_asked (none_asked sound).1).0 (inr l))

  pub move_clear : None (move_question N s g)
  move_clear = (none_split (move_question N s g) (stale_slots N b.dwell t b.slots ∷ []) rest).0

  pub none_stale : None (stale_slots N b.dwell t b.slots ∷ [])
  none_stale = (none_split (move_question N s g) (stale_slots N b.dwell t b.slots ∷ []) rest).1

  pub call_tells : MoveSound N s g
  call_tells = move_tells N s g move_clear

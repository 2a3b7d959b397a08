-- Each public function has one outcome: two results that fit its promise are equal. For `forbids`, a yes and
-- a no to one statement exclude each other. For `first_tick`, two smallest ticks are each no later than the
-- other. Neither lends a table that can change. For `hold`, the list has the place or not, and an
-- equation says in both cases what it becomes. Assumes nothing.
use mathlib.Core.Path.{◌≡◌, refl, sym, ◌∙◌}
use mathlib.Core.Bool.{Bool, true, false}
use mathlib.Core.List.{List}
use Prim.Native.Nat.{ℕ}
use lib.IntN.{pos, ◌-ℤ◌}
use lib.ListN.{length}
use Rattle.hall.specs.Rule.{Pair, Forbidden, Answers}
use Rattle.hall.specs.Ticks.{SmallestFrom, PermittedBy}
use Rattle.hall.proofs.Answers.{answers_unique}
use Rattle.hall.proofs.Ticks.{smallest_unique}
use Rattle.rule.specs.declared.Held.{Held}
use Rattle.rule.specs.declared.Pair.{Pair as Six}
use Rattle.rule.specs.Held.{pair_in, held_pair, held_tick, Holding}

pub forbids_unique : (pair : Six) (w ti tj : ℕ) (r r' : Bool)
    → Answers r (Forbidden w (pair_in pair) (pos tj -ℤ pos ti))
    → Answers r' (Forbidden w (pair_in pair) (pos tj -ℤ pos ti)) → r ≡ r'
forbids_unique pair w ti tj = answers_unique (Forbidden w (pair_in pair) (pos tj -ℤ pos ti))

pub first_tick_unique : (held : List Held) (w from : ℕ) {x x' : ℕ}
    → SmallestFrom from (PermittedBy w (length held) (held_pair held) (held_tick held)) x
    → SmallestFrom from (PermittedBy w (length held) (held_pair held) (held_tick held)) x' → x ≡ x'
first_tick_unique held w from s s' = smallest_unique s s'

pub holding_unique : (held : List Held) (place tick : ℕ) (p : Pair) (u v : List Held) (r r' : Bool)
    → Holding held u place tick p r → Holding held v place tick p r' → (r ≡ r') × (u ≡ v)
holding_unique held place tick p u v true true a b = (refl, a.written ∙ sym b.written)
holding_unique held place tick p u v true false a b = absurd (b.unserved a.served)
holding_unique held place tick p u v false true a b = absurd (a.unserved b.served)
holding_unique held place tick p u v false false a b = (refl, a.kept ∙ sym b.kept)

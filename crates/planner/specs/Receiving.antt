-- What comes before the distance table, for every input (rules 8.23, 9.7 to 9.10): 9, then the listed checks
-- of the job. No walk is asked for.
--     cleared_of          the lent lists with their least lengths zero
--     left_of n           the lent lists after the refusal with the number n: 9 leaves them as they came, any
--                        other zeroes their least lengths
--     Received           nothing of 9 and of the listed checks holds, and the lists are cleared
--     ReceivedRefused    the refusal is the first of these
--     Receiving          the promise: what is said is accepted or refused so
use Rattle.std.specs.Prelude.{◌≡◌, ℕ}
use Rattle.hall.specs.Limits.{carrier_limit, table_length}
use Rattle.hall.specs.Job.{Numbers}
use Rattle.hall.specs.Stages.{First, None}
use Rattle.hall.specs.Said.{Said, accepted, refused}
use Rattle.hall.specs.Questions.{receiving}
use Rattle.hall.specs.Left.{zeroed, left}
use Rattle.planner.specs.Planning.{Lent, lent, ShortOf}

abbrev pub cleared_of : Lent → Lent
cleared_of l =
    lent (zeroed table_length l.table) (zeroed carrier_limit l.distances) (zeroed carrier_limit l.ticks)

abbrev pub left_of : ℕ → Lent → Lent
left_of n l =
    lent (left n table_length l.table) (left n carrier_limit l.distances) (left n carrier_limit l.ticks)

pub record Received (j : Numbers) (before after : Lent) : Type 0 where
  pub no_fault : None (receiving (ShortOf before) j)
  pub lists_left : after ≡ cleared_of before

pub record ReceivedRefused (j : Numbers) (before after : Lent) (n p : ℕ) : Type 0 where
  pub first : First (receiving (ShortOf before) j) n p
  pub lists_left : after ≡ left_of n before

abbrev pub Receiving : (j : Numbers) (before after : Lent) → Said Unit → Type 0
Receiving j before after (accepted u) = Received j before after
Receiving j before after (refused n p) = ReceivedRefused j before after n p

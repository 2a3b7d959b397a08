-- `admission::stale::sieve` meets its contract: the slot does not stand, or its start was seen, or the row
-- from its start judges every slot that stands and has it. Assumes nothing.
use Rattle.std.proofs.Common.{◌≡◌, Bool, true, false, List, ℕ, Bor, option_copied, refl}
use Rattle.std.specs.Bool.{then_some}
use Rattle.hall.specs.Floor.{network_in}
use Rattle.hall.proofs.Answers.{denied}
use Rattle.admission.proofs.StaleSlots.{sieve_judged, small_distance}
use Rattle.admission.proofs.stale.sieve.Goals as goal

-- the row, if there is one
copied : (r : Bool) (row : Bor (List ℕ)) → option_copied (then_some r row) ≡ then_some r row.now
copied true row = refl
copied false row = refl

pub returns : goal.returns
returns c =
    let a = c.args in
    rw c.unwrap_or.ensures (sieve_judged (network_in a.network.now) a.book.now.dwell a.t a.book.now.slots c.requires.3 c.requires.4 c.requires.0 refl c.distances-served.ensures
    (small_distance a.book.now.slots c.requires.3 c.requires.2) (denied _ c.if-judged_before.false c.judged_before.ensures) (rw (c.then_some-told.ensures, copied _ _) at c.lowest_by.ensures))

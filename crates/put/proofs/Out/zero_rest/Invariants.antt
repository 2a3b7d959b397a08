-- The invariant of `zero_rest`: so many zeros are put from the place on as the loop went, and the place stays.
use Rattle.std.proofs.Common.{◌≡◌}
use Rattle.put.proofs.Putting.{Zeroing}
use Rattle.put.proofs.Out.zero_rest.Given as goal

abbrev pub invariant-loop-i : goal.invariant-loop-i
invariant-loop-i l =
    (l.self.bytes.ghost_name ≡ l.initial.self.bytes.ghost_name)
    × (l.self.at ≡ l.initial.self.at)
    × Zeroing l.initial.self.bytes.now l.initial.self.at l.least l.self.bytes.now l.i

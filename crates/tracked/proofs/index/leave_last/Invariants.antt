use Rattle.std.proofs.Common.{take}
use Rattle.tracked.specs.Places.{IsChanged, but_last}
use Rattle.tracked.proofs.index.leave_last.Given as goal

abbrev pub invariant-loop-i : goal.invariant-loop-i
invariant-loop-i l = IsChanged but_last (take l.i l.corners) l.initial.index l.index

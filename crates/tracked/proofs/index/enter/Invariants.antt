use Rattle.std.proofs.Common.{take}
use Rattle.tracked.specs.Places.{IsChanged, and_last}
use Rattle.tracked.proofs.index.enter.Given as goal

abbrev pub invariant-loop-i : goal.invariant-loop-i
invariant-loop-i l = IsChanged (and_last l.place) (take l.i l.corners) l.initial.index l.index

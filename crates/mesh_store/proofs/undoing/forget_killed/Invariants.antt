use Rattle.std.proofs.Common.{length}
use Rattle.mesh_store.specs.Forgetting.{IsForgetting}
use Rattle.mesh_store.proofs.undoing.forget_killed.Given as goal

abbrev pub invariant-loop-mark : goal.invariant-loop-mark
invariant-loop-mark l = IsForgetting l.initial.undo l.initial.slots l.undo l.slots

abbrev pub decreases-loop-mark : goal.decreases-loop-mark
decreases-loop-mark l = length l.undo

use Rattle.std.proofs.Common.{length}
use Rattle.mesh_store.specs.Parts.{parts_of}
use Rattle.mesh_store.specs.Forgetting.{CanRevive}
use Rattle.mesh_store.specs.Undoing.{all_undone, LeadsTo}
use Rattle.mesh_store.proofs.undoing.undo_marks.Given as goal

abbrev pub invariant-loop-mark : goal.invariant-loop-mark
invariant-loop-mark l = LeadsTo (all_undone l.initial.undo (parts_of l.initial.slots l.initial.tracked)) l.undo (parts_of l.slots l.tracked) × CanRevive l.undo l.slots

abbrev pub decreases-loop-mark : goal.decreases-loop-mark
decreases-loop-mark l = length l.undo

use Rattle.std.proofs.Common.{sym, subst}
use Rattle.mesh_store.specs.Forgetting.{CanRevive}
use Rattle.mesh_store.specs.Parts.{parts_of}
use Rattle.mesh_store.proofs.Forgetting.{CanRevive-last, CanRevive-undone}
use Rattle.mesh_store.proofs.UndoLemmas.{popped}
use Rattle.mesh_store.proofs.undoing.undo_marks.Goals as goal

pub undo_mark-requires : goal.undo_mark-requires
undo_mark-requires c = record {
  can = (popped _ c.loop-mark.undo c.pop.new.self c.in-Some.mark (parts_of c.loop-mark.slots c.loop-mark.tracked) c.in-Some.ensures.last c.loop-mark.invariant.0).1;
  known = CanRevive-last c.pop.new.self c.in-Some.mark c.loop-mark.slots (rw c.in-Some.ensures.last at c.loop-mark.invariant.1);
}

pub loop-mark-preserved : goal.loop-mark-preserved
loop-mark-preserved c = (
  rw c.undo_mark.ensures.parts (popped _ c.loop-mark.undo c.pop.new.self c.in-Some.mark (parts_of c.loop-mark.slots c.loop-mark.tracked) c.in-Some.ensures.last c.loop-mark.invariant.0).0,
  subst (CanRevive c.pop.new.self) (sym c.undo_mark.ensures.slots) (CanRevive-undone c.pop.new.self c.in-Some.mark c.loop-mark.slots (rw c.in-Some.ensures.last at c.loop-mark.invariant.1)),
)

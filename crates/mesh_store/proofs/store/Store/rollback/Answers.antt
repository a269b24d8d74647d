use Rattle.mesh_store.specs.Store.{parts_now}
use Rattle.mesh_store.proofs.Forgetting.{CanForget-none}
use Rattle.mesh_store.proofs.UndoLemmas.{sound-undone}
use Rattle.mesh_store.proofs.store.Store.rollback.Goals as goal

pub invariant_of-self : goal.invariant_of-self
invariant_of-self c = record {
  can = rw c.undo_marks.ensures.none tt;
  leave = rw c.undo_marks.ensures.none tt;
  forget = rw c.undo_marks.ensures.none (CanForget-none c.undo_marks.new.slots c.undo_marks.ensures.known);
  none = λ _. c.undo_marks.ensures.none;
  sound = rw c.undo_marks.ensures.parts (sound-undone c.self.inside.side c.self.inside.undo (parts_now c.self.inside) c.self.invariant.sound c.self.invariant.leave);
}

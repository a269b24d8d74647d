use Rattle.mesh_store.proofs.Forgetting.{revive-known}
use Rattle.mesh_store.proofs.undoing.undo_mark.Goals as goal

pub revive-requires-clause-known : goal.revive-requires-clause-known
revive-requires-clause-known c = revive-known c.in-Killed.slot c.args.slots.now (rw c.in-Killed.is at c.requires.known) (rw c.in-Killed.is at c.requires.can).0

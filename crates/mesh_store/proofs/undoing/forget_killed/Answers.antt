use Rattle.std.proofs.Common.{sym, subst}
use Rattle.mesh_store.specs.Forgetting.{IsForgetting}
use Rattle.mesh_store.proofs.Forgetting.{goes_on, last-forgettable, starts}
use Rattle.mesh_store.proofs.undoing.forget_killed.Goals as goal

pub loop-mark-init : goal.loop-mark-init
loop-mark-init c = starts c.args.undo.now c.args.slots.now c.requires

pub forget_marked-requires : goal.forget_marked-requires
forget_marked-requires c = last-forgettable c.pop.new.self c.loop-mark.slots c.in-Some.mark (rw c.in-Some.ensures.last at c.loop-mark.invariant.can)

pub loop-mark-preserved : goal.loop-mark-preserved
loop-mark-preserved c =
    subst (IsForgetting c.args.undo.now c.args.slots.now c.pop.new.self) (sym c.forget_marked.ensures)
    (goes_on c.pop.new.self c.loop-mark.slots c.args.undo.now c.args.slots.now c.in-Some.mark (rw c.in-Some.ensures.last at c.loop-mark.invariant))

use Rattle.std.proofs.Common.{◌<◌, length, nat_abs, sym, subst}
use Rattle.grid.specs.Boxes.{IsInBox}
use Rattle.mesh_store.specs.Parts.{StoreView, mesh_in}
use Rattle.mesh_store.proofs.ForCallers.{well_formed}
use Rattle.local_ops.proofs.Ends.{shift_end}
use Rattle.local_ops.proofs.NewPoints.{target-in}
use Rattle.local_ops.proofs.changing.shift.Goals as goal

pub shift-requires-clause-there : goal.shift-requires-clause-there
shift-requires-clause-there c =
    let v = c.args.store.now in
    subst (λ (s : StoreView). c.args.u < length s.parts.points) (sym c.begin.ensures) (shift_end (mesh_in v.parts) c.args.u c.args.way (well_formed v.side v.parts c.requires.sound) c.requires.candidate)

pub shift-requires-clause-in_box : goal.shift-requires-clause-in_box
shift-requires-clause-in_box c =
    let v = c.args.store.now in
    subst (λ (s : StoreView). IsInBox (nat_abs s.side) c.in_ok-at.at) (sym c.begin.ensures)
    (subst (IsInBox (nat_abs v.side)) (sym c.in_ok-at.ensures) (target-in (nat_abs v.side) (mesh_in v.parts) c.requires.sound.in_box c.args.u c.args.way))

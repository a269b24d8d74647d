use Rattle.std.proofs.Common.{◌<◌, length, sym, subst}
use Rattle.mesh_store.specs.Parts.{StoreView, mesh_in}
use Rattle.mesh_store.proofs.ForCallers.{well_formed}
use Rattle.local_ops.proofs.Ends.{collapse_ends}
use Rattle.local_ops.proofs.changing.collapse.Goals as goal

pub collapse-requires-clause-u_there : goal.collapse-requires-clause-u_there
collapse-requires-clause-u_there c =
    let v = c.args.store.now in
    subst (λ (s : StoreView). c.args.u < length s.parts.points) (sym c.begin.ensures) (collapse_ends (mesh_in v.parts) c.args.u c.args.v (well_formed v.side v.parts c.requires.sound) c.requires.candidate).0

pub collapse-requires-clause-v_there : goal.collapse-requires-clause-v_there
collapse-requires-clause-v_there c =
    let v = c.args.store.now in
    subst (λ (s : StoreView). c.args.v < length s.parts.points) (sym c.begin.ensures) (collapse_ends (mesh_in v.parts) c.args.u c.args.v (well_formed v.side v.parts c.requires.sound) c.requires.candidate).1

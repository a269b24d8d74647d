use Rattle.std.proofs.Common.{nat_abs}
use Rattle.mesh_types.specs.Results.{target}
use Rattle.mesh_store.specs.Parts.{mesh_in}
use Rattle.mesh_store.proofs.ForCallers.{well_formed}
use Rattle.local_ops.proofs.Aims.{aim-shift}
use Rattle.local_ops.proofs.Once.{single-shift}
use Rattle.local_ops.proofs.foreseeing.see_shift.Goals as goal

pub sight_at-requires-clause-aim : goal.sight_at-requires-clause-aim
sight_at-requires-clause-aim c =
    let v = c.args.store.now in
    aim-shift v.side v.parts c.requires.sound c.args.u c.args.way c.in_ok-at.at c.in_ok-at.ensures

pub sight_at-requires-clause-single : goal.sight_at-requires-clause-single
sight_at-requires-clause-single c =
    let v = c.args.store.now in
    λ o. single-shift (mesh_in v.parts) (well_formed v.side v.parts c.requires.sound) (c.requires.once o) c.args.u (target (nat_abs v.side) (mesh_in v.parts) c.args.u c.args.way)

use Rattle.std.proofs.Common.{nat_abs, All, subst, to_z-of_z}
use Rattle.grid.specs.Boxes.{IsInBox}
use Rattle.mesh_store.proofs.store.tests.long.background_of.Goals as goal

pub returns : goal.returns
returns c =
    let e = c.in_ok-mesh.ensures in
    record { box = c.requires.bounds; in_box = subst (λ z. All (IsInBox (nat_abs z)) c.in_ok-mesh.mesh.points) (to_z-of_z c.ranges.side) e.in_box; well_formed = e.well_formed; within = e.within_limits; made = e.made }

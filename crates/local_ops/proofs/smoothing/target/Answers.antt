use Rattle.std.proofs.Common.{◌≡◌, ◌∙◌, ◌<◌, All, length, ap, sym, subst, arith}
use Rattle.mesh_types.specs.Results.{neighbours}
use Rattle.mesh_store.specs.Parts.{mesh_in}
use Rattle.mesh_store.proofs.ForCallers.{well_formed}
use Rattle.local_ops.proofs.Ends.{point_end}
use Rattle.local_ops.proofs.Neighbours.{neighbours-below, neighbours-some, neighbours-few}
use Rattle.local_ops.proofs.smoothing.target.Goals as goal

pub destination-requires-clause-u_there : goal.destination-requires-clause-u_there
destination-requires-clause-u_there c =
    let v = c.args.store.now in
    point_end (mesh_in v.parts) c.args.u (well_formed v.side v.parts c.requires.sound) c.requires.there

pub destination-requires-clause-there : goal.destination-requires-clause-there
destination-requires-clause-there c =
    let v = c.args.store.now in
    subst (All (λ w. w < length v.parts.points)) (sym (c.deref.ensures.value ∙ c.in_ok-around.ensures)) (neighbours-below (mesh_in v.parts) c.args.u (well_formed v.side v.parts c.requires.sound))

pub destination-requires-clause-some : goal.destination-requires-clause-some
destination-requires-clause-some c =
    let v = c.args.store.now in
    let is : c.deref.result.now ≡ neighbours (mesh_in v.parts) c.args.u = c.deref.ensures.value ∙ c.in_ok-around.ensures in
    let some = neighbours-some (mesh_in v.parts) c.args.u (well_formed v.side v.parts c.requires.sound) c.requires.there in
    omega (arith, ap length is, some)

pub destination-requires-clause-few : goal.destination-requires-clause-few
destination-requires-clause-few c =
    let v = c.args.store.now in
    let is : c.deref.result.now ≡ neighbours (mesh_in v.parts) c.args.u = c.deref.ensures.value ∙ c.in_ok-around.ensures in
    let few = neighbours-few (mesh_in v.parts) c.args.u (well_formed v.side v.parts c.requires.sound) in
    let most = c.requires.sound.points_few in
    omega (arith, ap length is, few, most)

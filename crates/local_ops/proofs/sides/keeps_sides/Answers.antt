use Rattle.std.proofs.Common.{◌≡◌, subst, true}
use Rattle.mesh_types.specs.declared.tries.Try.{Try}
use Rattle.mesh_types.specs.Tries.{is_candidate}
use Rattle.mesh_store.specs.Parts.{mesh_in}
use Rattle.mesh_store.proofs.ForCallers.{well_formed}
use Rattle.local_ops.proofs.Ends.{collapse_ends, edge_swap_ends}
use Rattle.local_ops.proofs.sides.keeps_sides.Goals as goal

pub stays_on_sides-requires-clause-u_there : goal.stays_on_sides-requires-clause-u_there
stays_on_sides-requires-clause-u_there c =
    let v = c.args.store.now in
    (collapse_ends (mesh_in v.parts) c.in-Collapse.u c.in-Collapse.v (well_formed v.side v.parts c.requires.sound) (subst (λ (t : Try). is_candidate (mesh_in v.parts).tets t ≡ true) c.in-Collapse.is c.requires.candidate)).0

pub stays_on_sides-requires-clause-v_there : goal.stays_on_sides-requires-clause-v_there
stays_on_sides-requires-clause-v_there c =
    let v = c.args.store.now in
    (collapse_ends (mesh_in v.parts) c.in-Collapse.u c.in-Collapse.v (well_formed v.side v.parts c.requires.sound) (subst (λ (t : Try). is_candidate (mesh_in v.parts).tets t ≡ true) c.in-Collapse.is c.requires.candidate)).1

pub share_no_side-requires-clause-u_there : goal.share_no_side-requires-clause-u_there
share_no_side-requires-clause-u_there c =
    let v = c.args.store.now in
    (edge_swap_ends (mesh_in v.parts) c.in-EdgeSwap.u c.in-EdgeSwap.v (well_formed v.side v.parts c.requires.sound) (subst (λ (t : Try). is_candidate (mesh_in v.parts).tets t ≡ true) c.in-EdgeSwap.is c.requires.candidate)).0

pub share_no_side-requires-clause-v_there : goal.share_no_side-requires-clause-v_there
share_no_side-requires-clause-v_there c =
    let v = c.args.store.now in
    (edge_swap_ends (mesh_in v.parts) c.in-EdgeSwap.u c.in-EdgeSwap.v (well_formed v.side v.parts c.requires.sound) (subst (λ (t : Try). is_candidate (mesh_in v.parts).tets t ≡ true) c.in-EdgeSwap.is c.requires.candidate)).1

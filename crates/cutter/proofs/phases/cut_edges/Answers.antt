use Rattle.std.proofs.Common.{◌≡◌, ◌<◌, ◌^◌, ◌+◌, sym, length, arith}
use Rattle.grid.specs.Meshes.{IsWithinLimits}
use Rattle.mesh_store.specs.Parts.{mesh_in}
use Rattle.cutting_rule.proofs.ForCallers.{points-refined}
use Rattle.cutter.proofs.phases.cut_edges.Goals as goal

pub overflow_cast-result : goal.overflow_cast-result
overflow_cast-result c =
    let counted : length c.refine.new.self.parts.points ≡ length c.args.store.now.parts.points + length c.args.cuts.now =
    points-refined (mesh_in c.args.store.now.parts) (mesh_in c.refine.new.self.parts) c.args.cuts.now c.in_ok-refine.ensures.mesh in
    let few : IsWithinLimits (mesh_in c.refine.new.self.parts) = c.in_ok-refine.ensures.within in
    let most : length c.args.cuts.now < 2 ^ 32 = omega (arith, counted, few.points_few) in
    record { fits = most }

pub returns-clause-count : goal.returns-clause-count
returns-clause-count c = sym (points-refined (mesh_in c.args.store.now.parts) (mesh_in c.refine.new.self.parts) c.args.cuts.now c.in_ok-refine.ensures.mesh)

use Rattle.std.proofs.Common.{◌≡◌, ◌∙◌, ◌+◌, ◌≤◌, ap, sym, subst, suc, arith, All, refl}
use Rattle.grid.specs.Boxes.{IsInBox}
use Rattle.grid.specs.Meshes.{Mesh, IsWellFormed, IsWithinLimits}
use Rattle.grid.specs.Limits.{largest_side}
use Rattle.mesh_types.specs.Phases.{phase}
use Rattle.mesh_types.specs.Views.{mesh_of}
use Rattle.cutting_rule.specs.Until.{until}
use Rattle.cutting_rule.proofs.ForCallers.{until-well_formed, within-until}
use Rattle.plain_ops.proofs.Meshes.{phase-in}
use Rattle.plain_ops.proofs.cutting.cut.Goals as goal

pub phase-requires-clause-well_formed : goal.phase-requires-clause-well_formed
phase-requires-clause-well_formed c = subst IsWellFormed (sym c.loop-i.invariant.mesh) (until-well_formed (mesh_of c.args.mesh.now) c.args.triangle.now c.loop-i.i c.requires.well_formed)

pub loop-i-preserved : goal.loop-i-preserved
loop-i-preserved c =
    let m = mesh_of c.args.mesh.now in
    let t = c.args.triangle.now in
    let i = c.loop-i.i in
    let next : suc i ≡ i + 1 = omega arith in
    let w : IsWellFormed (mesh_of c.loop-i.cut) = subst IsWellFormed (sym c.loop-i.invariant.mesh) (until-well_formed m t i c.requires.well_formed) in
    record {
      mesh = c.in_ok-cut-2.ensures ∙ (ap (λ x. phase x t i) c.loop-i.invariant.mesh ∙ ap (until m t) next);
      within = c.if-not-is_within_limits.ensures.yes refl;
      in_box = subst (λ (n : Mesh). All (IsInBox largest_side) n.points) (sym c.in_ok-cut-2.ensures) (phase-in (mesh_of c.loop-i.cut) t i largest_side w c.loop-i.invariant.in_box);
    }

pub returns-then-not-is_within_limits : goal.returns-then-not-is_within_limits
returns-then-not-is_within_limits c = λ h.
    let m = mesh_of c.args.mesh.now in
    let t = c.args.triangle.now in
    let i = c.loop-i.i in
    let lt : suc i ≤ 4 = omega arith in
    let is : mesh_of c.in_ok-cut-2.cut ≡ until m t (suc i) = c.in_ok-cut-2.ensures ∙ ap (λ x. phase x t i) c.loop-i.invariant.mesh in
    c.if-not-is_within_limits.ensures.no refl (subst IsWithinLimits (sym is) (within-until m t (suc i) 4 lt h))

pub returns : goal.returns
returns c =
    let four : c.loop-i.i ≡ 4 = omega arith in
    record {
      mesh = c.loop-i.invariant.mesh ∙ ap (until (mesh_of c.args.mesh.now) c.args.triangle.now) four;
      within = c.loop-i.invariant.within;
      in_box = c.loop-i.invariant.in_box;
    }

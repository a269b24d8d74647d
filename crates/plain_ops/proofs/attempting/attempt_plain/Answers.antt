use Rattle.std.proofs.Common.{◌∙◌, ℤ, nat_abs, ap, subst, to_z-of_z}
use Rattle.mesh_types.specs.declared.tries.Verdict.{Verdict}
use Rattle.mesh_types.specs.Journals.{setting}
use Rattle.mesh_types.specs.Results.{Result, result_of}
use Rattle.mesh_types.specs.Verdicts.{IsVerdict}
use Rattle.mesh_types.specs.Views.{mesh_of}
use Rattle.plain_ops.proofs.Meshes.{on-grid}
use Rattle.plain_ops.proofs.attempting.attempt_plain.Goals as goal

pub result_of-requires-clause-in_box : goal.result_of-requires-clause-in_box
result_of-requires-clause-in_box c = on-grid c.args.side c.args.mesh.now.points c.requires.side_low c.requires.side_high c.requires.in_box

pub returns-in-Kept-clause-verdict : goal.returns-in-Kept-clause-verdict
returns-in-Kept-clause-verdict c =
    subst (λ (v : Verdict). IsVerdict (setting c.args.env.now c.args.e c.args.side) (mesh_of c.args.mesh.now) c.args.attempt v) c.in-Kept.is
    (subst (λ (z : ℤ). IsVerdict (setting c.args.env.now c.args.e z) (mesh_of c.args.mesh.now) c.args.attempt c.verdict_of.result) (to_z-of_z c.ranges.side) c.verdict_of.ensures)

pub returns-in-Kept-clause-mesh : goal.returns-in-Kept-clause-mesh
returns-in-Kept-clause-mesh c =
    ap (λ (r : Result). r.mesh) (c.in_ok-made.ensures ∙ ap (λ (z : ℤ). result_of (nat_abs z) (mesh_of c.args.mesh.now) c.args.attempt) (to_z-of_z c.ranges.side))

pub returns-in_ok-same-in-Refused-clause-verdict : goal.returns-in_ok-same-in-Refused-clause-verdict
returns-in_ok-same-in-Refused-clause-verdict c =
    subst (λ (v : Verdict). IsVerdict (setting c.args.env.now c.args.e c.args.side) (mesh_of c.args.mesh.now) c.args.attempt v) c.in-Refused.is
    (subst (λ (z : ℤ). IsVerdict (setting c.args.env.now c.args.e z) (mesh_of c.args.mesh.now) c.args.attempt c.verdict_of.result) (to_z-of_z c.ranges.side) c.verdict_of.ensures)

pub returns-in_ok-same-in-Refused-clause-mesh : goal.returns-in_ok-same-in-Refused-clause-mesh
returns-in_ok-same-in-Refused-clause-mesh c = ap mesh_of c.in_ok-same-in-Refused.ensures

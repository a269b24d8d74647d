use Rattle.std.proofs.Common.{refl, ap}
use Rattle.grid.specs.Views.{corners_of}
use Rattle.mesh_types.specs.Views.{mesh_of}
use Rattle.cutting_rule.proofs.ForCallers.{section-is}
use Rattle.plain_ops.proofs.Meshes.{tets-are}
use Rattle.plain_ops.proofs.wanted.section.Goals as goal

pub section_of-requires-clause-tets_are : goal.section_of-requires-clause-tets_are
section_of-requires-clause-tets_are c = tets-are c.args.mesh.now c.as_slice-points.result.now c.as_slice-tets.result.now c.as_slice-points.ensures c.as_slice-tets.ensures c.requires.well_formed

pub returns : goal.returns
returns c =
    section-is _ _ (mesh_of c.args.mesh.now) c.args.triangle.now c.args.triangle.now _ _ c.sort_faces_once.ensures c.in_ok-faces.ensures c.as_slice-points.ensures (ap corners_of c.as_slice-tets.ensures) refl

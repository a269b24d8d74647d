use Rattle.std.proofs.Common.{refl, ap}
use Rattle.grid.specs.Views.{corners_of}
use Rattle.mesh_types.specs.Views.{mesh_of}
use Rattle.cutting_rule.proofs.ForCallers.{edges-wanted}
use Rattle.plain_ops.proofs.Meshes.{tets-are}
use Rattle.plain_ops.proofs.wanted.wanted_edges.Goals as goal

pub wanted_of-requires-clause-tets_are : goal.wanted_of-requires-clause-tets_are
wanted_of-requires-clause-tets_are c = tets-are c.args.mesh.now c.as_slice-points.result.now c.as_slice-tets.result.now c.as_slice-points.ensures c.as_slice-tets.ensures c.requires.well_formed

pub returns : goal.returns
returns c =
    edges-wanted c.sort_edges_once.new.edges.items c.in_ok-edges.edges.items _ _ (mesh_of c.args.mesh.now) c.args.triangle.now c.args.triangle.now c.args.i
    c.sort_edges_once.ensures c.in_ok-edges.ensures c.as_slice-points.ensures (ap corners_of c.as_slice-tets.ensures) refl

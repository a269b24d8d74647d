use Rattle.std.proofs.Common.{◌∙◌, ◌++◌, [], ◌∷◌, length, ap, arith}
use Rattle.std.specs.List.{filter}
use Rattle.grid.specs.Views.{corners_of}
use Rattle.mesh_types.specs.Views.{mesh_of}
use Rattle.plain_ops.specs.Targets.{is_neighbour}
use Rattle.plain_ops.proofs.NearPoints.{range-step, range-end}
use Rattle.plain_ops.proofs.targets.neighbours.Goals as goal

pub loop-w-preserved : goal.loop-w-preserved
loop-w-preserved c =
    let tets = (mesh_of c.args.mesh.now).tets in
    let u = c.args.u in
    let end = c.loop-w.invariant.end in
    record {
      rest = range-step (is_neighbour tets u) (length c.args.mesh.now.points) c.loop-w.w c.loop-w.around.items c.push_neighbour.new.around.items _ (omega arith)
          (c.in_ok-push_neighbour.ensures ∙ ap (λ ts. c.loop-w.around.items ++ filter (is_neighbour (corners_of ts) u) (c.loop-w.w ∷ [])) c.as_slice-tets.ensures)
          c.loop-w.invariant.rest;
      end = end;
    }

pub returns : goal.returns
returns c =
    let end = c.loop-w.invariant.end in
    range-end (is_neighbour (mesh_of c.args.mesh.now).tets c.args.u) (length c.args.mesh.now.points) c.loop-w.w c.loop-w.around.items _ (omega arith) c.loop-w.invariant.rest

use Rattle.std.proofs.Common.{◌+◌, length, ap, ◌∙◌}
use Rattle.grid.specs.Views.{corners_of, triples_of}
use Rattle.mesh_types.specs.Views.{mesh_of}
use Rattle.plain_ops.proofs.Refined.{refined}
use Rattle.plain_ops.proofs.refining.refine_plain.Goals as goal

pub returns : goal.returns
returns c =
    refined (mesh_of c.args.mesh.now) c.args.cuts.now c.count_of-first.result _
    (c.count_of-first.ensures ∙ ap length c.as_slice.ensures)
    (c.from_vec.ensures ∙ (rw c.as_slice-2.ensures at c.in_ok-points.ensures))
    (ap corners_of c.from_vec-2.ensures ∙ (rw c.as_slice-3.ensures at c.in_ok-tets.ensures.tets))
    (ap triples_of c.from_vec-3.ensures ∙ (rw c.as_slice-4.ensures at c.in_ok-tracked.ensures))
    (c.in_ok-made.ensures ∙ ap (λ n. c.args.mesh.now.made + n) (rw c.as_slice-3.ensures at c.in_ok-tets.ensures.new))

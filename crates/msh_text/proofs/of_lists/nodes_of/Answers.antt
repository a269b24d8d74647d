use Rattle.std.proofs.Common.{◌∙◌}
use Rattle.grid.specs.Views.{corners_of}
use Rattle.msh_text.proofs.Nodes.{marked_nodes-used}
use Rattle.msh_text.proofs.of_lists.nodes_of.Goals as goal

pub returns : goal.returns
returns c =
    c.in_ok-nodes.ensures ∙ marked_nodes-used c.args.shift _ c.in_ok-used.used.items (corners_of c.args.mesh.now.tets) _ c.args.mesh.now.points c.deref.ensures.value c.as_slice-2.ensures (λ u. rw (← c.as_slice.ensures) (c.in_ok-used.ensures.marks u))

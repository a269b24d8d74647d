use Rattle.std.proofs.Common.{◌∙◌, List, ℕ, ap}
use Rattle.grid.specs.Simplices.{reversed}
use Rattle.mesh_types.specs.Results.{has_face}
use Rattle.plain_ops.proofs.swaps.is_reached.Goals as goal

pub returns : goal.returns
returns c = c.has_face.ensures ∙ ap (λ (g : List ℕ). has_face g c.args.other.0) (c.reverse.ensures.reversed ∙ ap reversed c.as_in.ensures)

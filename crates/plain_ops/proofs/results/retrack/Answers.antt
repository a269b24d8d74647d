use Rattle.std.proofs.Common.{◌∙◌, ap}
use Rattle.mesh_types.specs.Tracking.{in_order_once}
use Rattle.plain_ops.proofs.results.retrack.Goals as goal

pub returns : goal.returns
returns c = c.sort_faces_once.ensures ∙ ap in_order_once c.in_ok-all.ensures

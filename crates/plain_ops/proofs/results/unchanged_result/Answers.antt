use Rattle.grid.specs.Views.{corners_of}
use Rattle.mesh_types.specs.Views.{mesh_of}
use Rattle.plain_ops.proofs.results.unchanged_result.Goals as goal

pub returns : goal.returns
returns c = λ i. record { mesh = mesh_of (c.in_ok-copy.ensures i); gone = corners_of (c.new.ensures.items i); fresh = corners_of (c.new-2.ensures.items i) }

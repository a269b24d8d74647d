use Rattle.std.proofs.Common.{◌∙◌, sym}
use Rattle.local_ops.proofs.FaceCounts.{lacks}
use Rattle.local_ops.proofs.single.count_in.Goals as goal

pub returns-else-has_corners-clause-count : goal.returns-else-has_corners-clause-count
returns-else-has_corners-clause-count c = sym (lacks c.args.tet.0 c.args.face.0 (sym c.has_corners.ensures ∙ c.if-has_corners.false))

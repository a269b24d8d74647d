use Rattle.std.proofs.Common.{◌∙◌, sym, ap}
use Rattle.std.specs.Prelude.{nat_lt}
use Rattle.local_ops.proofs.FaceCounts.{lacks}
use Rattle.local_ops.proofs.apart.is_face.Goals as goal

pub returns-else-has_corners : goal.returns-else-has_corners
returns-else-has_corners c = ap (nat_lt 0) (sym (lacks c.args.tet.0 c.args.face.0 (sym c.has_corners.ensures ∙ c.if-has_corners.false)))

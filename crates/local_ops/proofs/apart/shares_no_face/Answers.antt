use Rattle.std.proofs.Common.{◌∙◌, sym}
use Rattle.local_ops.proofs.FaceCounts.{no-face-shared}
use Rattle.local_ops.proofs.apart.shares_no_face.Goals as goal

pub returns-else-shares_three : goal.returns-else-shares_three
returns-else-shares_three c = sym (no-face-shared c.args.tet.0 c.args.other.0 (sym c.shares_three.ensures ∙ c.if-shares_three.false))

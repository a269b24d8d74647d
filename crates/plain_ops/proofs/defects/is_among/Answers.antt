use Rattle.std.proofs.Common.{◌∙◌, sym}
use Rattle.plain_ops.proofs.Tracking.{Contains-from_among, among-from_Contains}
use Rattle.plain_ops.proofs.defects.is_among.Goals as goal

pub returns : goal.returns
returns c = (
  (λ h. Contains-from_among c.args.faces.now c.args.face.0 (sym c.contains.ensures.value ∙ h)),
  (λ h. c.contains.ensures.value ∙ among-from_Contains c.args.faces.now c.args.face.0 h),
)

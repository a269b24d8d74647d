use Rattle.std.proofs.Common.{subst, IsTrue}
use Rattle.mesh_types.specs.Certificates.{HasCertificate}
use Rattle.plain_ops.proofs.defects.is_covered.Goals as goal

pub returns : goal.returns
returns c =
    subst (λ ps. (IsTrue c.covered.result → HasCertificate c.args.env.now c.args.e (record { 0 = ps })) × (HasCertificate c.args.env.now c.args.e (record { 0 = ps }) → IsTrue c.covered.result))
    c.face_points.ensures c.covered.ensures

use Rattle.std.proofs.Common.{sym, subst}
use Rattle.mesh_types.specs.Certificates.{HasCertificate, IsCertificateOf, IsCov}
use Rattle.mesher.proofs.coverings.covering.Goals as goal

pub unreachable-requires : goal.unreachable-requires
unreachable-requires c =
    let bare : ¬ HasCertificate c.args.env.now c.args.e c.corners.result = subst (IsCov c.args.env.now c.args.e c.corners.result) c.in-None.is c.in_ok-cert.ensures in
    bare (subst (HasCertificate c.args.env.now c.args.e) (sym c.corners.ensures.value) c.requires.covered.certificate)

pub returns : goal.returns
returns c =
    let found : IsCertificateOf c.args.env.now c.args.e c.corners.result c.in-Some.cert = subst (IsCov c.args.env.now c.args.e c.corners.result) c.in-Some.is c.in_ok-cert.ensures in
    record { face = c.with_file_numbers.ensures; cert = subst (λ f. IsCertificateOf c.args.env.now c.args.e f c.in-Some.cert) c.corners.ensures.value found }

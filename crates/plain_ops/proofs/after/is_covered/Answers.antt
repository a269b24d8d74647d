use Rattle.std.proofs.Common.{◌↔◌, IsTrue, subst}
use Rattle.grid.specs.declared.shapes.Tri.{Tri}
use Rattle.mesh_types.specs.Certificates.{HasCertificate}
use Rattle.plain_ops.proofs.after.is_covered.Goals as goal

pub returns : goal.returns
returns c = subst (λ (tri : Tri). IsTrue c.covered.result ↔ HasCertificate c.args.env.now c.args.e tri) c.triangle.ensures.value c.covered.ensures

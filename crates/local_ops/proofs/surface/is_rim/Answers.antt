use Rattle.std.proofs.Common.{◌↔◌, IsTrue, subst}
use Rattle.grid.specs.Rims.{IsRim}
use Rattle.grid.specs.Views.{triples_of}
use Rattle.tracked.specs.Keys.{Keys, faces_in}
use Rattle.local_ops.proofs.TrackedCounts.{same-rim}
use Rattle.local_ops.proofs.surface.is_rim.Goals as goal

pub returns : goal.returns
returns c =
    let keys = c.args.store.now.parts.keys in
    let h = subst (λ (ks : Keys). IsTrue c.is_rim.result ↔ IsRim (triples_of (faces_in ks)) c.args.u) c.tracked.ensures.keys c.is_rim.ensures in
    let same = same-rim keys c.args.u c.tracked.ensures.sound.distinct in
    (λ t. same.0 (h.0 t), λ r. h.1 (same.1 r))

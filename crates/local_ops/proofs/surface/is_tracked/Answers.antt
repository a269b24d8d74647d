use Rattle.std.proofs.Common.{◌∙◌, ap}
use Rattle.tracked.specs.Keys.{Keys, is_in}
use Rattle.mesh_store.proofs.ForCallers.{is_in-tracked}
use Rattle.local_ops.proofs.surface.is_tracked.Goals as goal

pub returns : goal.returns
returns c =
    let v = c.args.store.now in
    c.has.ensures ∙ (ap (λ (ks : Keys). is_in c.args.face ks) c.tracked.ensures.keys ∙ is_in-tracked v.side v.parts c.tracked.ensures.sound c.args.face.0)

use Rattle.std.proofs.Common.{◌≡◌, ◌∙◌, ap}
use Rattle.tracked.specs.Keys.{Keys, faces_at}
use Rattle.mesh_store.proofs.ForCallers.{at-corner-is}
use Rattle.local_ops.proofs.surface.faces_at.Goals as goal

pub returns : goal.returns
returns c =
    let keys = c.args.store.now.parts.keys in
    let found : c.at_point.new.into.items ≡ faces_at keys c.args.u = c.in_ok-at_point.ensures ∙ ap (λ (ks : Keys). faces_at ks c.args.u) c.tracked.ensures.keys in
    at-corner-is c.args.u keys c.at_point.new.into.items c.rise.new.faces.items found c.rise.ensures.ordered c.rise.ensures.same

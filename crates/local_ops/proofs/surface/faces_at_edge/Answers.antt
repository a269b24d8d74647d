use Rattle.std.proofs.Common.{◌∙◌, ap, sym}
use Rattle.grid.specs.Rims.{triples_at}
use Rattle.grid.specs.Views.{triples_of}
use Rattle.tracked.specs.Keys.{Keys, faces_in}
use Rattle.local_ops.proofs.TrackedCounts.{same-at}
use Rattle.local_ops.proofs.surface.faces_at_edge.Goals as goal

pub returns : goal.returns
returns c =
    c.count2.ensures
    ∙ (ap (λ (ks : Keys). triples_at (triples_of (faces_in ks)) c.args.u c.args.v) c.tracked.ensures.keys ∙ sym (same-at c.args.store.now.parts.keys c.args.u c.args.v c.tracked.ensures.sound.distinct))

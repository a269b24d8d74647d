use Rattle.std.proofs.Common.{◌∙◌, ap, get_or, true, []}
use Rattle.grid.specs.declared.shapes.Face.{Face}
use Rattle.tracked.specs.Keys.{Keys, put}
use Rattle.mesh_store.proofs.FirstMesh.{put-listed}
use Rattle.mesh_store.proofs.filling.tracking.Goals as goal

pub loop-face-preserved : goal.loop-face-preserved
loop-face-preserved c =
    let f : Face = record { 0 = [] } in
    c.in_ok-add.ensures.ok ∙ (ap (λ (keys : Keys). put (get_or c.args.faces.now c.loop-face.face-index f) true keys) c.loop-face.invariant ∙ put-listed c.args.faces.now c.loop-face.face-index f c.requires.ordered c.loop-face-test.true)

use Rattle.std.proofs.Common.{arith}
use Rattle.grid.specs.Views.{corners_of}
use Rattle.plain_ops.proofs.SingleFaces.{single-step, single-stop}
use Rattle.plain_ops.proofs.after.has_single_faces.Goals as goal

pub returns-then-count-gt1 : goal.returns-then-count-gt1
returns-then-count-gt1 c =
    let more = c.if-count-gt1.true in
    single-stop (corners_of c.args.tets.now) c.faces-face-items.result c.loop-face.face-index c.count.result _ (omega arith) c.count.ensures (omega (arith, more)) c.loop-face.invariant.rest

pub loop-face-preserved : goal.loop-face-preserved
loop-face-preserved c =
    let few = c.if-count-gt1.false in
    record {
      are = c.loop-face.invariant.are;
      rest = single-step (corners_of c.args.tets.now) c.faces-face-items.result c.loop-face.face-index c.count.result _ (omega arith) c.count.ensures (omega (arith, few)) c.loop-face.invariant.rest;
    }

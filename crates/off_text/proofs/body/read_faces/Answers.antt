use Rattle.std.proofs.Common.{length}
use Rattle.std.proofs.lemmas.Result.{err_from_is_err_and}
use Rattle.off_text.proofs.Loops.{faces_go_on, faces_fail, faces_done}
use Rattle.off_text.proofs.body.read_faces.Goals as goal

pub returns-in_err-at : goal.returns-in_err-at
returns-in_err-at c =
    let p = err_from_is_err_and c.from_residual.result c.from_residual.ensures.1 in
    rw (p.1, p.2) (faces_fail c.in_err-at.field-0.0 c.loop.triangles.items (length c.args.bytes.now) c.args.vertices c.args.count c.loop.counter _ _ c.loop-test.true c.in_err-at.ensures.err c.loop.invariant.total)

pub loop-preserved : goal.loop-preserved
loop-preserved c = record {
  high = c.in_ok-at.ensures.high;
  made = c.in_ok-at.ensures.made;
  total = faces_go_on c.loop.triangles.items _ (length c.args.bytes.now) c.args.vertices c.args.count c.loop.counter _ _ _ c.loop-test.true c.in_ok-at.ensures.ok c.loop.invariant.total;
}

pub returns : goal.returns
returns c = faces_done c.loop.triangles.items (length c.args.bytes.now) c.args.vertices c.args.count c.loop.counter _ _ c.loop-test.false c.loop.invariant.total

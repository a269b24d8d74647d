use Rattle.std.proofs.Common.{length}
use Rattle.std.proofs.lemmas.Result.{err_from_is_err_and}
use Rattle.off_text.proofs.Loops.{vertices_go_on, vertices_fail, vertices_done}
use Rattle.off_text.proofs.body.read_vertices.Goals as goal

pub returns-in_err-vertex-clause-gives : goal.returns-in_err-vertex-clause-gives
returns-in_err-vertex-clause-gives c =
    let p = err_from_is_err_and c.from_residual.result c.from_residual.ensures.1 in
    rw (p.1, p.2) (vertices_fail c.args.digits c.in_err-vertex.field-0.0 c.loop.points.items (length c.args.bytes.now) c.args.count c.loop.counter _ _ c.loop-test.true c.in_err-vertex.ensures.gives c.loop.invariant.total)

pub loop-preserved : goal.loop-preserved
loop-preserved c = record {
  high = c.in_ok-vertex.ensures.high;
  total = rw c.in_ok-push.ensures.items (vertices_go_on c.args.digits c.loop.points.items (length c.args.bytes.now) c.args.count c.loop.counter _ _ _ _ c.loop-test.true c.in_ok-vertex.ensures.gives c.loop.invariant.total);
}

pub returns-clause-gives : goal.returns-clause-gives
returns-clause-gives c = vertices_done c.args.digits c.loop.points.items (length c.args.bytes.now) c.args.count c.loop.counter _ _ c.loop-test.false c.loop.invariant.total

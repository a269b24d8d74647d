use Rattle.std.proofs.Common.{pos}
use Rattle.mesh_types.specs.declared.cut.Cut.{Cut}
use Rattle.mesh_store.proofs.FaceSearches.{goes_on, found-all}
use Rattle.mesh_store.proofs.touching.touched_faces.Goals as goal

pub loop-cut-preserved : goal.loop-cut-preserved
loop-cut-preserved c =
    let none : Cut = record { u = 0; v = 0; at = record { x = pos 0; y = pos 0; z = pos 0 } } in
    goes_on c.args.tracked.now c.args.cuts.now c.loop-cut.cut-index none c.loop-cut.touched.items c.at_point.new.into.items c.deref.result.now c.push_having.new.touched.items c.loop-cut-test.true c.in_ok-at_point.ensures c.deref.ensures.value c.in_ok-push_having.ensures c.loop-cut.invariant

pub returns : goal.returns
returns c = found-all c.args.tracked.now c.args.cuts.now c.loop-cut.cut-index c.loop-cut.touched.items c.rise.new.faces.items c.loop-cut-test.false c.loop-cut.invariant c.rise.ensures.ordered c.rise.ensures.same

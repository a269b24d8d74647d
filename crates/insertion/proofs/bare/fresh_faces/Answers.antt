use Rattle.std.proofs.Common.{sym, subst, arith}
use Rattle.insertion.proofs.FreshFaces.{FoundTo, FoundTo-none, FoundTo-more, fresh-found}
use Rattle.insertion.proofs.bare.fresh_faces.Goals as goal

pub loop-u-init : goal.loop-u-init
loop-u-init c = record {
  from = omega arith;
  found = subst (FoundTo c.args.tracked.now c.args.first c.args.first) (sym c.new-faces.ensures.items) (FoundTo-none c.args.tracked.now c.args.first);
}

pub loop-u-preserved : goal.loop-u-preserved
loop-u-preserved c = record {
  from = omega (arith, c.loop-u.invariant.from);
  found = FoundTo-more c.args.tracked.now c.args.first c.loop-u.u c.loop-u.faces.items c.at_point.new.into.items c.deref.result.now c.extend_from_slice.new.self.items c.loop-u.invariant.from c.in_ok-at_point.ensures c.deref.ensures.value c.in_ok-extend_from_slice.ensures.items c.loop-u.invariant.found;
}

pub returns : goal.returns
returns c =
    fresh-found c.args.tracked.now c.args.first c.args.made c.loop-u.u c.loop-u.faces.items c.sort_faces_once.new.faces.items c.requires (omega (arith, c.loop-u-test.false)) c.loop-u.invariant.found c.sort_faces_once.ensures

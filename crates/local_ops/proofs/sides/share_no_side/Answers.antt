use Rattle.std.proofs.Common.{nat_abs}
use Rattle.grid.specs.Determinants.{point_at}
use Rattle.local_ops.proofs.CommonSides.{apart_test}
use Rattle.local_ops.proofs.sides.share_no_side.Goals as goal

pub returns : goal.returns
returns c =
    let v = c.args.store.now in
    apart_test (nat_abs v.side) (point_at v.parts.points c.args.u) (point_at v.parts.points c.args.v) c.sides_of.result c.sides_of-2.result c.sides_of.ensures.value c.sides_of-2.ensures.value c.sides_of.ensures.six

use Rattle.std.proofs.Common.{nat_abs}
use Rattle.grid.specs.Determinants.{point_at}
use Rattle.local_ops.proofs.CommonSides.{stays_test}
use Rattle.local_ops.proofs.sides.stays_on_sides.Goals as goal

pub returns : goal.returns
returns c =
    let v = c.args.store.now in
    stays_test (nat_abs v.side) (point_at v.parts.points c.args.u) (point_at v.parts.points c.args.v) c.sides_of-of_u.result c.sides_of.result c.sides_of-of_u.ensures.value c.sides_of.ensures.value c.sides_of-of_u.ensures.six

use Rattle.std.proofs.Common.{rules, ◌≡◌, length, to_z-of_z}
use Rattle.face_table.proofs.SharedSides.{are-sides, share-side}
use Rattle.face_table.proofs.pairs.share_side.Goals as goal

pub returns : goal.returns
returns c =
    let three : length c.args.face.0 ≡ 3 = search rules in
    let same = to_z-of_z c.ranges.side in
    share-side c.args.points.now c.args.side c.args.face.0 c.sides-at_a.result c.sides-at_b.result c.sides-at_c.result three c.sides-at_a.ensures.six
    (record {
      first = are-sides _ c.args.side _ c.sides-at_a.result same c.sides-at_a.ensures.value;
      second = are-sides _ c.args.side _ c.sides-at_b.result same c.sides-at_b.ensures.value;
      third = are-sides _ c.args.side _ c.sides-at_c.result same c.sides-at_c.ensures.value;
    })

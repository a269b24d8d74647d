use Rattle.std.proofs.Common.{rules, ap, get_or, ◌≡◌, length, arith}
use Rattle.std.specs.Prelude.{nat_lt}
use Rattle.grid.proofs.ForCallers.{has-get_or}
use Rattle.local_ops.proofs.Listed.{listed-face}
use Rattle.local_ops.proofs.candidates.has_face.Goals as goal

pub loop-i-init : goal.loop-i-init
loop-i-init c =
    let three : length c.args.face.0 ≡ 3 = search rules in
    ap (nat_lt 0) (listed-face c.args.slots.now.slots c.args.face.0 (get_or c.args.face.0 0 0) c.at_point-list.result.now (has-get_or c.args.face.0 0 (omega (arith, three))) c.at_point-list.ensures.live)

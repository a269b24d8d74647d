use Rattle.std.proofs.Common.{SFits, rules}
use mir.Syntax.{w32}
use Rattle.local_ops.proofs.Means.{shifted-is}
use Rattle.local_ops.proofs.smoothing.destination_from.Goals as goal

pub returns : goal.returns
returns c =
    let fx : SFits w32 c.shift_coordinate-x.result = search rules in
    let fy : SFits w32 c.shift_coordinate-y.result = search rules in
    let fz : SFits w32 c.shift_coordinate-z.result = search rules in
    let side = c.args.side in
    let n = c.args.count in
    let x = shifted-is c.shift_coordinate-x.result side c.args.from.x c.mean.result c.args.sum.x c.args.way n fx c.ranges.side c.requires.from_in.x_in c.mean.ensures.within c.requires.few c.requires.sum_in.x_in c.shift_coordinate-x.ensures c.mean.ensures.value in
    let y = shifted-is c.shift_coordinate-y.result side c.args.from.y c.mean-2.result c.args.sum.y c.args.way n fy c.ranges.side c.requires.from_in.y_in c.mean-2.ensures.within c.requires.few c.requires.sum_in.y_in c.shift_coordinate-y.ensures c.mean-2.ensures.value in
    let z = shifted-is c.shift_coordinate-z.result side c.args.from.z c.mean-3.result c.args.sum.z c.args.way n fz c.ranges.side c.requires.from_in.z_in c.mean-3.ensures.within c.requires.few c.requires.sum_in.z_in c.shift_coordinate-z.ensures c.mean-3.ensures.value in
    λ i. record { x = x i; y = y i; z = z i }

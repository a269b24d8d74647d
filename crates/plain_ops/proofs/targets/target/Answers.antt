use Rattle.std.proofs.Common.{◌≡◌, ◌∙◌, All, ℕ, length, nat_abs, SFits, to_z-of_z, ap, sym, subst, arith, rules}
use mir.Syntax.{w32}
use Rattle.grid.specs.Boxes.{IsInBox}
use Rattle.grid.specs.Determinants.{point_at}
use Rattle.grid.specs.Limits.{largest_side}
use Rattle.mesh_types.specs.Results.{neighbours, shifted_to, mean_at}
use Rattle.mesh_types.specs.Views.{mesh_of}
use Rattle.plain_ops.specs.declared.targets.Axis.TheVariants.{X, Y, Z}
use Rattle.plain_ops.specs.Targets.{along}
use Rattle.plain_ops.proofs.NearPoints.{neighbours-few, neighbours-some}
use Rattle.plain_ops.proofs.targets.target.Goals as goal

pub shift_along-x-requires-clause-in_box : goal.shift_along-x-requires-clause-in_box
shift_along-x-requires-clause-in_box c = subst (All (IsInBox largest_side)) (sym c.as_slice-points.ensures) c.requires.in_box

pub shift_along-x-requires-clause-some : goal.shift_along-x-requires-clause-some
shift_along-x-requires-clause-some c =
    let m = mesh_of c.args.mesh.now in
    let is : c.deref.result.now ≡ neighbours m c.args.u = c.deref.ensures.value ∙ c.in_ok-around.ensures in
    omega (arith, ap (length {A = ℕ}) is, neighbours-some m c.args.u c.requires.well_formed c.requires.some)

pub shift_along-x-requires-clause-few : goal.shift_along-x-requires-clause-few
shift_along-x-requires-clause-few c =
    let m = mesh_of c.args.mesh.now in
    let is : c.deref.result.now ≡ neighbours m c.args.u = c.deref.ensures.value ∙ c.in_ok-around.ensures in
    let most = c.requires.within.points_few in
    omega (arith, ap (length {A = ℕ}) is, neighbours-few m c.args.u, most)

pub shift_along-y-requires-clause-in_box : goal.shift_along-y-requires-clause-in_box
shift_along-y-requires-clause-in_box c = subst (All (IsInBox largest_side)) (sym c.as_slice-points.ensures) c.requires.in_box

pub shift_along-y-requires-clause-some : goal.shift_along-y-requires-clause-some
shift_along-y-requires-clause-some c =
    let m = mesh_of c.args.mesh.now in
    let is : c.deref-2.result.now ≡ neighbours m c.args.u = c.deref-2.ensures.value ∙ c.in_ok-around.ensures in
    omega (arith, ap (length {A = ℕ}) is, neighbours-some m c.args.u c.requires.well_formed c.requires.some)

pub shift_along-y-requires-clause-few : goal.shift_along-y-requires-clause-few
shift_along-y-requires-clause-few c =
    let m = mesh_of c.args.mesh.now in
    let is : c.deref-2.result.now ≡ neighbours m c.args.u = c.deref-2.ensures.value ∙ c.in_ok-around.ensures in
    let most = c.requires.within.points_few in
    omega (arith, ap (length {A = ℕ}) is, neighbours-few m c.args.u, most)

pub shift_along-z-requires-clause-in_box : goal.shift_along-z-requires-clause-in_box
shift_along-z-requires-clause-in_box c = subst (All (IsInBox largest_side)) (sym c.as_slice-points.ensures) c.requires.in_box

pub shift_along-z-requires-clause-some : goal.shift_along-z-requires-clause-some
shift_along-z-requires-clause-some c =
    let m = mesh_of c.args.mesh.now in
    let is : c.deref-3.result.now ≡ neighbours m c.args.u = c.deref-3.ensures.value ∙ c.in_ok-around.ensures in
    omega (arith, ap (length {A = ℕ}) is, neighbours-some m c.args.u c.requires.well_formed c.requires.some)

pub shift_along-z-requires-clause-few : goal.shift_along-z-requires-clause-few
shift_along-z-requires-clause-few c =
    let m = mesh_of c.args.mesh.now in
    let is : c.deref-3.result.now ≡ neighbours m c.args.u = c.deref-3.ensures.value ∙ c.in_ok-around.ensures in
    let most = c.requires.within.points_few in
    omega (arith, ap (length {A = ℕ}) is, neighbours-few m c.args.u, most)

pub returns : goal.returns
returns c =
    let u = c.args.u in
    let way = c.args.way in
    let side = to_z-of_z c.ranges.side in
    let fx : SFits w32 c.shift_along-x.result = search rules in
    let fy : SFits w32 c.shift_along-y.result = search rules in
    let fz : SFits w32 c.shift_along-z.result = search rules in
    let ps = c.as_slice-points.ensures in
    let ws = c.deref.ensures.value ∙ c.in_ok-around.ensures in
    let ws-2 = c.deref-2.ensures.value ∙ c.in_ok-around.ensures in
    let ws-3 = c.deref-3.ensures.value ∙ c.in_ok-around.ensures in
    let x = to_z-of_z fx ∙ (c.shift_along-x.ensures ∙ (λ i. shifted_to (nat_abs (side i)) way (along X (point_at (ps i) u)) (mean_at (λ w. along X (point_at (ps i) w)) (ws i)))) in
    let y = to_z-of_z fy ∙ (c.shift_along-y.ensures ∙ (λ i. shifted_to (nat_abs (side i)) way (along Y (point_at (ps i) u)) (mean_at (λ w. along Y (point_at (ps i) w)) (ws-2 i)))) in
    let z = to_z-of_z fz ∙ (c.shift_along-z.ensures ∙ (λ i. shifted_to (nat_abs (side i)) way (along Z (point_at (ps i) u)) (mean_at (λ w. along Z (point_at (ps i) w)) (ws-3 i)))) in
    λ i. record { x = x i; y = y i; z = z i }

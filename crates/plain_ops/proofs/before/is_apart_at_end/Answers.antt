use Rattle.std.proofs.Common.{◌≡◌, true, false, refl, sym, rules, SFits, to_z-of_z}
use mir.Syntax.{w32}
use Rattle.std.proofs.lemmas.Bool.{true≢false}
use Rattle.grid.specs.Boxes.{along_x, along_y, along_z, coordinate}
use Rattle.plain_ops.proofs.BoxEnds.{each-axis, read-apart}
use Rattle.plain_ops.proofs.before.is_apart_at_end.Goals as goal

pub returns-then-not-is_apart_at : goal.returns-then-not-is_apart_at
returns-then-not-is_apart_at c =
    let px : SFits w32 c.args.p.x = search rules in
    let qx : SFits w32 c.args.q.x = search rules in
    let x = read-apart false c.args.p.x c.args.q.x c.args.end _ _ _ (to_z-of_z px) (to_z-of_z qx) (to_z-of_z c.ranges.end) c.if-not-is_apart_at.ensures in
    (λ t. absurd (true≢false (sym t)), λ h. x.1 (h along_x))

pub returns-then-not-is_apart_at-2 : goal.returns-then-not-is_apart_at-2
returns-then-not-is_apart_at-2 c =
    let py : SFits w32 c.args.p.y = search rules in
    let qy : SFits w32 c.args.q.y = search rules in
    let y = read-apart false c.args.p.y c.args.q.y c.args.end _ _ _ (to_z-of_z py) (to_z-of_z qy) (to_z-of_z c.ranges.end) c.if-not-is_apart_at-2.ensures in
    (λ t. absurd (true≢false (sym t)), λ h. y.1 (h along_y))

pub returns : goal.returns
returns c =
    let px : SFits w32 c.args.p.x = search rules in
    let qx : SFits w32 c.args.q.x = search rules in
    let x = read-apart true c.args.p.x c.args.q.x c.args.end _ _ _ (to_z-of_z px) (to_z-of_z qx) (to_z-of_z c.ranges.end) c.if-not-is_apart_at.ensures in
    let py : SFits w32 c.args.p.y = search rules in
    let qy : SFits w32 c.args.q.y = search rules in
    let y = read-apart true c.args.p.y c.args.q.y c.args.end _ _ _ (to_z-of_z py) (to_z-of_z qy) (to_z-of_z c.ranges.end) c.if-not-is_apart_at-2.ensures in
    let pz : SFits w32 c.args.p.z = search rules in
    let qz : SFits w32 c.args.q.z = search rules in
    let z = read-apart c.is_apart_at-3.result c.args.p.z c.args.q.z c.args.end _ _ _ (to_z-of_z pz) (to_z-of_z qz) (to_z-of_z c.ranges.end) c.is_apart_at-3.ensures in
    (λ t. each-axis (λ a. coordinate a c.args.p ≡ c.args.end → (¬ (coordinate a c.args.q ≡ c.args.end))) (x.0 refl) (y.0 refl) (z.0 t), λ h. z.1 (h along_z))

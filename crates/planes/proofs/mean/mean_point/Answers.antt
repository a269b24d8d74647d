use Rattle.std.proofs.Common.{rules, ◌∙◌, w32, SFits, to_z-of_z}
use Rattle.grid.specs.Planes.{rounded_mean}
use Rattle.planes.specs.Crossings.{mean_of}
use Rattle.planes.proofs.mean.mean_point.Goals as goal

pub returns : goal.returns
unfolding mean_of
returns c =
    let ux : SFits w32 c.args.u.x = search rules in
    let uy : SFits w32 c.args.u.y = search rules in
    let uz : SFits w32 c.args.u.z = search rules in
    let vx : SFits w32 c.args.v.x = search rules in
    let vy : SFits w32 c.args.v.y = search rules in
    let vz : SFits w32 c.args.v.z = search rules in
    let rx : SFits w32 c.rounded_mean.result = search rules in
    let ry : SFits w32 c.rounded_mean-2.result = search rules in
    let rz : SFits w32 c.rounded_mean-3.result = search rules in
    λ i. record {
      x = (to_z-of_z rx ∙ c.rounded_mean.ensures ∙ (λ j. rounded_mean (to_z-of_z ux j) (to_z-of_z vx j) c.args.f c.args.g)) i;
      y = (to_z-of_z ry ∙ c.rounded_mean-2.ensures ∙ (λ j. rounded_mean (to_z-of_z uy j) (to_z-of_z vy j) c.args.f c.args.g)) i;
      z = (to_z-of_z rz ∙ c.rounded_mean-3.ensures ∙ (λ j. rounded_mean (to_z-of_z uz j) (to_z-of_z vz j) c.args.f c.args.g)) i;
    }

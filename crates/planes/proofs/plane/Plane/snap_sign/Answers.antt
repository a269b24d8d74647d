use Rattle.std.proofs.Common.{rules, ◌≡◌, ◌∙◌, ap, w8, w64, SFits, to_z, of_z, to_z-of_z}
use Rattle.grid.specs.Planes.{value_of}
use Rattle.planes.specs.Bounded.{reach_of}
use Rattle.planes.proofs.PlaneLemmas.{sign-snap_sign}
use Rattle.planes.proofs.plane.Plane.snap_sign.Goals as goal

pub returns : goal.returns
returns c =
    let f : SFits w8 c.sign_beyond.result = search rules in
    let g : SFits w64 c.value.result = search rules in
    let v : to_z w64 (of_z w64 c.value.result) ≡ value_of c.args.self.now c.args.p = to_z-of_z g ∙ c.value.ensures.value in
    let r : c.self.inside.reach ≡ reach_of c.args.self.now = c.self.invariant.reach_is ∙ ap reach_of c.self.view_is in
    record { sign = to_z-of_z f ∙ c.sign_beyond.ensures ∙ sign-snap_sign _ _ _ _ v r }

use Rattle.std.proofs.Common.{rules, ◌≡◌, ◌∙◌, ap, ap₂, w64, SFits, to_z-of_z, subst, sym}
use lib.IntN.{nat_abs}
use Rattle.grid.specs.Boxes.{IsInBox, IsOn}
use Rattle.grid.specs.Planes.{value_of, crossing}
use Rattle.planes.specs.Crossings.{mean_of}
use Rattle.planes.proofs.PlaneLemmas.{crossing-mean_of, crossing-IsInBox, crossing-IsOn}
use Rattle.planes.proofs.plane.Plane.crossing.Goals as goal

is : (c : goal.After-mean_point) → c.mean_point.result ≡ crossing c.args.self.now c.args.u c.args.v
is c =
    let f : SFits w64 c.value.result = search rules in
    let g : SFits w64 c.value-2.result = search rules in
    let f_is : c.unsigned_abs-f.result ≡ nat_abs (value_of c.args.self.now c.args.u) = c.unsigned_abs-f.ensures.value ∙ ap nat_abs (to_z-of_z f ∙ c.value.ensures.value) in
    let g_is : c.unsigned_abs-g.result ≡ nat_abs (value_of c.args.self.now c.args.v) = c.unsigned_abs-g.ensures.value ∙ ap nat_abs (to_z-of_z g ∙ c.value-2.ensures.value) in
    c.mean_point.ensures ∙ ap₂ (mean_of c.args.u c.args.v) f_is g_is ∙ crossing-mean_of c.args.self.now c.args.u c.args.v

pub returns-clause-crossing : goal.returns-clause-crossing
returns-clause-crossing c = is c

pub returns-clause-in_box : goal.returns-clause-in_box
returns-clause-in_box c = λ n h k. subst (IsInBox n) (sym (is c)) (crossing-IsInBox c.args.self.now c.args.u c.args.v c.requires.opposite n h k)

pub returns-clause-on_sides : goal.returns-clause-on_sides
returns-clause-on_sides c = λ l s h k. subst (IsOn l s) (sym (is c)) (crossing-IsOn c.args.self.now c.args.u c.args.v c.requires.opposite l s h k)

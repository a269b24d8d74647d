use Rattle.std.proofs.Common.{rules, ◌^◌, w64, SFits, to_z-of_z, subst, sym, ◌∙◌, lit≤}
use Rattle.int_algebra.specs.Within.{IsWithin}
use Rattle.planes.proofs.PlaneLemmas.{dot-difference}
use Rattle.planes.proofs.plane.Plane.value.Goals as goal

pub returns-clause-value : goal.returns-clause-value
returns-clause-value c =
    let f : SFits w64 c.short_dot.result = search rules in
    to_z-of_z f ∙ c.short_dot.ensures.value ∙ dot-difference _ _ _ _ _ _ c.self.view_is c.difference.ensures.value

pub returns-clause-bound : goal.returns-clause-bound
returns-clause-bound c =
    let f : SFits w64 c.short_dot.result = search rules in
    subst (IsWithin (2 ^ 57)) (sym (to_z-of_z f)) (c.short_dot.ensures.within _ _ (2 ^ 57) c.self.invariant.bounded.normal_in c.difference.ensures.within (lit≤ tt))

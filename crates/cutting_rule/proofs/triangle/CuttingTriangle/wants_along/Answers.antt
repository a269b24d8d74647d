use Rattle.std.proofs.Common.{◌≡◌, ◌∙◌, ◌&&◌, Bool, pos, [], ◌∷◌, sym, ap, w8, to_z, of_z, to_z-of_z}
use Rattle.std.specs.Ordering.{int_eq}
use Rattle.std.proofs.lemmas.Bool.{and_left}
use Rattle.std.proofs.lemmas.List.Elements.{All-from_recursion}
use Rattle.grid.specs.Boxes.{IsInBox}
use Rattle.grid.specs.Limits.{largest_side}
use Rattle.mesh_types.specs.CuttingRule.{boxes_meet, phase_plane, reaches, splits}
use Rattle.cutting_rule.proofs.triangle.CuttingTriangle.wants_along.Goals as goal

pub wants_on_plane-requires-clause-ends_in : goal.wants_on_plane-requires-clause-ends_in
wants_on_plane-requires-clause-ends_in c = All-from_recursion (IsInBox largest_side) (c.args.p ∷ c.args.q ∷ []) (c.requires.p_in, (c.requires.q_in, tt))

pub returns-then-not-are_on : goal.returns-then-not-are_on
returns-then-not-are_on c =
    let both : (int_eq (to_z w8 (of_z w8 c.args.sign)) (pos 0) && int_eq (to_z w8 (of_z w8 c.args.other)) (pos 0)) ≡ (int_eq c.args.sign (pos 0) && int_eq c.args.other (pos 0)) =
    λ j. int_eq (to_z-of_z c.ranges.sign j) (pos 0) && int_eq (to_z-of_z c.ranges.other j) (pos 0) in
    sym (and_left _ _ (sym (c.if-not-are_on.ensures ∙ both)))

pub returns : goal.returns
returns c =
    let t = c.args.self.now in
    let ends = c.args.p ∷ c.args.q ∷ [] in
    let both : (int_eq (to_z w8 (of_z w8 c.args.sign)) (pos 0) && int_eq (to_z w8 (of_z w8 c.args.other)) (pos 0)) ≡ (int_eq c.args.sign (pos 0) && int_eq c.args.other (pos 0)) =
    λ j. int_eq (to_z-of_z c.ranges.sign j) (pos 0) && int_eq (to_z-of_z c.ranges.other j) (pos 0) in
    c.wants_on_plane.ensures
    ∙ ap (λ (b : Bool). b && (splits (phase_plane t c.args.i) ends && (reaches t ends && boxes_meet ends t.0))) (c.if-not-are_on.ensures ∙ both)

use Rattle.std.proofs.Common.{◌≡◌, ◌∙◌, ◌++◌, false, sym, ap, subst, arith}
use Rattle.std.proofs.lemmas.List.{append-nil}
use Rattle.mesh_types.specs.CuttingRule.{is_crossed}
use Rattle.mesh_types.specs.Phases.{points_of, wanted_in}
use Rattle.cutting_rule.specs.Edges.{numbers_of}
use Rattle.cutting_rule.proofs.WantedEdges.{uncrossed-none}
use Rattle.cutting_rule.proofs.wanted.push_wanted.Goals as goal

pub returns-then-not-crosses : goal.returns-then-not-crosses
returns-then-not-crosses c points e =
    let t = c.args.triangle.now in
    let x = c.args.tet.0 in
    let first : c.args.i ≡ 0 = omega (arith, c.if-i-gt0.false) in
    let none : is_crossed t (points_of points x) ≡ false = subst (λ ps. is_crossed t ps ≡ false) e (sym c.if-not-crosses.ensures) in
    sym (append-nil (numbers_of c.args.into.now.items))
    ∙ ap (λ es. numbers_of c.args.into.now.items ++ es) (sym (ap (λ i. wanted_in points t i x) first ∙ uncrossed-none points t x none))

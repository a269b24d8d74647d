use Rattle.std.proofs.Common.{◌≡◌, ◌∙◌, rules, w64, SFits, to_z, of_z, to_z-of_z, ap}
use mir.Syntax.{w128}
use Rattle.grid.specs.Determinants as determinants
use Rattle.grid.proofs.EdgeLemmas.{triple_of-edges}
use Rattle.grid.proofs.determinants.det.Goals as goal

pub returns : goal.returns
returns c =
    let f : SFits w64 c.triple_product.result = search rules in
    let g : SFits w128 c.triple_product.result = search rules in
    let is : c.triple_product.result ≡ determinants.det c.args.a c.args.b c.args.c c.args.d = c.triple_product.ensures ∙ triple_of-edges _ _ _ _ _ _ _ c.edge_between.ensures c.edge_between-2.ensures c.edge_between-3.ensures in
    ap (λ z. to_z w128 (of_z w128 z)) (to_z-of_z f) ∙ to_z-of_z g ∙ is

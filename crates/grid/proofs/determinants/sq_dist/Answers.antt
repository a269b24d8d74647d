use Rattle.std.proofs.Common.{◌≡◌, ◌∙◌, rules, w64, SFits, to_z-of_z}
use Rattle.grid.specs.Determinants as determinants
use Rattle.grid.proofs.EdgeLemmas.{sum_of_squares-edge}
use Rattle.grid.proofs.determinants.sq_dist.Goals as goal

pub returns : goal.returns
returns c =
    let f : SFits w64 c.squared_length.result = search rules in
    let is : c.squared_length.result ≡ determinants.sq_dist c.args.a c.args.b = c.squared_length.ensures ∙ sum_of_squares-edge _ _ _ c.edge_between.ensures in
    to_z-of_z f ∙ is

use Rattle.std.proofs.Common.{◌≡◌, sym, subst, rules}
use Rattle.std.specs.List.{IsDistinct}
use Rattle.grid.specs.Views.{triples_of}
use Rattle.grid.specs.Simplices.{same_triple}
use Rattle.tracked.specs.Keys.{faces_in}
use Rattle.tracked.proofs.PairLemmas.{in-distinct}
use Rattle.tracked.proofs.table.Tracked.faces.Goals as goal

pub returns-clause-distinct : goal.returns-clause-distinct
returns-clause-distinct c =
    let all : c.loop-face.faces.items ≡ faces_in c.self.inside.keys.entries = search rules in
    subst (λ fs. IsDistinct same_triple (triples_of fs)) (sym all) (in-distinct c.self.inside.keys.entries c.iter-face-items.ensures.unique)

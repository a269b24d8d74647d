use Rattle.std.proofs.Common.{not, rules}
use Rattle.std.proofs.lemmas.Fn.{filter_same}
use Rattle.grid.specs.declared.shapes.Tet.{Tet}
use Rattle.grid.specs.Simplices.{has}
use Rattle.plain_ops.proofs.Filters.{filtered}
use Rattle.plain_ops.proofs.results.lacking.Goals as goal

pub returns : goal.returns
returns c =
    filtered (λ (x : Tet). x.0) (λ x. not (has x c.args.u)) c.args.tets.now c.in_ok-found.found.items c.retain.new.self.items c.in_ok-found.ensures.items
    (filter_same _ (λ (x : Tet). not (has x.0 c.args.u)) _ (λ x b f' k. search rules) c.in_ok-found.found.items c.retain.new.self.items c.retain.ensures.filtered)

use Rattle.std.proofs.Common.{◌&&◌, not, rules}
use Rattle.std.proofs.lemmas.Fn.{filter_same}
use Rattle.grid.specs.declared.shapes.Face.{Face}
use Rattle.grid.specs.Simplices.{has}
use Rattle.plain_ops.proofs.Filters.{filtered}
use Rattle.plain_ops.proofs.results.faces_off.Goals as goal

pub returns : goal.returns
returns c =
    filtered (λ (x : Face). x.0) (λ x. not (has x c.args.u && has x c.args.v)) c.args.faces.now c.in_ok-found.found.items c.retain.new.self.items c.in_ok-found.ensures.items
    (filter_same _ (λ (x : Face). not (has x.0 c.args.u && has x.0 c.args.v)) _ (λ x b f' k. search rules) c.in_ok-found.found.items c.retain.new.self.items c.retain.ensures.filtered)

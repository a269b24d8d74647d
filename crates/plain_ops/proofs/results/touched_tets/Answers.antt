use Rattle.std.proofs.Common.{rules}
use Rattle.std.proofs.lemmas.Fn.{filter_same}
use Rattle.grid.specs.declared.shapes.Tet.{Tet}
use Rattle.mesh_types.specs.Refines.{is_touched}
use Rattle.plain_ops.proofs.Filters.{filtered}
use Rattle.plain_ops.proofs.results.touched_tets.Goals as goal

pub returns : goal.returns
returns c =
    filtered (λ (x : Tet). x.0) (λ x. is_touched c.args.cuts.now x) c.args.tets.now c.in_ok-found.found.items c.retain.new.self.items c.in_ok-found.ensures.items
    (filter_same _ (λ (x : Tet). is_touched c.args.cuts.now x.0) _ (λ x b f' k. search rules) c.in_ok-found.found.items c.retain.new.self.items c.retain.ensures.filtered)

use Rattle.std.proofs.Common.{subst}
use Rattle.mesh_store.specs.Parts.{mesh_in}
use Rattle.cutter.specs.First.{IsFirstWanted}
use Rattle.cutter.proofs.first.first_wanted.Goals as goal

pub returns : goal.returns
returns c = subst (λ t. IsFirstWanted (mesh_in c.args.store.now.parts) t c.in_ok-found.found) c.new-triangle.ensures c.in_ok-found.ensures

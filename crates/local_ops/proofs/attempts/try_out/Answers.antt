use Rattle.std.proofs.Common.{Option, subst}
use Rattle.mesh_types.specs.declared.tries.Why.{Why}
use Rattle.mesh_types.specs.Journals.{setting}
use Rattle.mesh_store.specs.Parts.{mesh_in}
use Rattle.local_ops.specs.Attempts.{IsRefusedOr}
use Rattle.local_ops.proofs.attempts.try_out.Goals as goal

pub returns-in-Some-clause-verdict : goal.returns-in-Some-clause-verdict
returns-in-Some-clause-verdict c =
    let v = c.args.store.now in
    subst (λ (o : Option Why). IsRefusedOr 3 (setting c.args.env.now c.args.e v.side) (mesh_in v.parts) c.args.attempt o) c.in-Some.is (c.in_ok-found.ensures c.args.env.now c.args.e)

use Rattle.std.proofs.Common.{subst}
use Rattle.mesh_types.specs.Journals.{setting}
use Rattle.mesh_store.specs.Parts.{mesh_in}
use Rattle.local_ops.specs.declared.foreseeing.Sight.{Sight}
use Rattle.local_ops.specs.Foreseen.{IsSight}
use Rattle.local_ops.proofs.attempts.make.Goals as goal

pub make_so-requires-clause-better : goal.make_so-requires-clause-better
make_so-requires-clause-better c =
    let v = c.args.store.now in
    λ o. subst (λ (x : Sight). IsSight (setting c.args.env.now c.args.e v.side) (mesh_in v.parts) c.args.attempt x) c.in-Better.is (c.in_ok-why.ensures c.args.env.now c.args.e) c.requires.passed

pub returns-in-Refused-clause-verdict : goal.returns-in-Refused-clause-verdict
returns-in-Refused-clause-verdict c =
    let v = c.args.store.now in
    subst (λ (x : Sight). IsSight (setting c.args.env.now c.args.e v.side) (mesh_in v.parts) c.args.attempt x) c.in-Refused.is (c.in_ok-why.ensures c.args.env.now c.args.e) c.requires.passed

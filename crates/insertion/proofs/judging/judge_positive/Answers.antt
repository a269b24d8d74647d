use Rattle.std.proofs.Common.{subst, None, Some}
use Rattle.grid.specs.Envelopes.{triangle_at}
use Rattle.mesh_store.specs.Parts.{mesh_in}
use Rattle.cutter.specs.First.{IsFirstWanted}
use Rattle.insertion.specs.Progress.{start_of}
use Rattle.cutting_rule.proofs.ForCallers.{unresolved-first}
use Rattle.insertion.proofs.judging.judge_positive.Goals as goal

pub returns-in-Some : goal.returns-in-Some
returns-in-Some c =
    let v = c.args.store.now in
    let n = mesh_in v.parts in
    let t = triangle_at c.args.env.now c.args.t in
    let h : IsFirstWanted n t (Some c.in-Some.corners) = subst (IsFirstWanted n t) c.in-Some.is (subst (λ s. IsFirstWanted n s c.in_ok-found.found) c.requires.is c.in_ok-found.ensures) in
    unresolved-first c.args.env.now c.args.t c.args.e (mesh_in (start_of v)) n c.requires.cut.some_area c.requires.cut.within c.requires.positive c.in-Some.corners h

pub judge_resolved-requires-clause-resolved : goal.judge_resolved-requires-clause-resolved
judge_resolved-requires-clause-resolved c =
    let n = mesh_in c.args.store.now.parts in
    let t = triangle_at c.args.env.now c.args.t in
    let h : IsFirstWanted n t None = subst (IsFirstWanted n t) c.in-None.is (subst (λ s. IsFirstWanted n s c.in_ok-found.found) c.requires.is c.in_ok-found.ensures) in
    h

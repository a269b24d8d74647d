use Rattle.std.proofs.Common.{◌≡◌, ◌∙◌, ◌+◌, sym, ap, subst, suc, IsSome, Result, Ok, Err, arith}
use Rattle.grid.specs.Meshes.{IsWithinLimits}
use Rattle.mesh_types.specs.Phases.{phase}
use Rattle.mesh_store.specs.declared.issue.StoreIssue.{StoreIssue}
use Rattle.cutting_rule.specs.Until.{until}
use Rattle.cutting_rule.proofs.ForCallers.{within-until}
use Rattle.insertion.proofs.Growing.{open-more, rolled_back-open}
use Rattle.insertion.proofs.cutting.cut_among.Goals as goal

pub loop-i-preserved : goal.loop-i-preserved
loop-i-preserved c =
    let t = c.args.triangle.now in
    let next : suc c.loop-i.i ≡ c.loop-i.i + 1 = omega arith in
    let ok = c.in-Ok.ensures in
    record {
      started = subst IsSome (sym ok.goes_on.begin) c.loop-i.invariant.started;
      goes_on = λ start side h. open-more start side c.loop-i.store c.phase_among.new.store (c.loop-i.invariant.goes_on start side h) ok.goes_on ok.grown;
      mesh = λ m h. ok.mesh ∙ (ap (λ x. phase x t c.loop-i.i) (c.loop-i.invariant.mesh m h) ∙ ap (until m t) next);
      near = ok.near;
      count = omega (arith, ok.count, c.loop-i.invariant.count);
    }

-- the issue of a result
abbrev issue_of : {A : Type 0} → Result A StoreIssue → StoreIssue
issue_of (Ok x) = StoreIssue.Full
issue_of (Err issue) = issue

pub returns-clause-mesh : goal.returns-clause-mesh
returns-clause-mesh c =
    let last : c.loop-i.i ≡ c.args.end = omega arith in
    λ m h. c.loop-i.invariant.mesh m h ∙ ap (until m c.args.triangle.now) last

pub returns-in-Err-clause-full : goal.returns-in-Err-clause-full
returns-in-Err-clause-full c = λ m h e w.
    let t = c.args.triangle.now in
    c.in-Err.ensures.full (ap (λ r. Err (issue_of r)) e) (subst IsWithinLimits (sym (ap (λ x. phase x t c.loop-i.i) (c.loop-i.invariant.mesh m h))) (within-until m t (suc c.loop-i.i) 4 (omega arith) w))

pub returns-in-Err-clause-err : goal.returns-in-Err-clause-err
returns-in-Err-clause-err c = λ start side h. c.in-Err.ensures.err ∙ rolled_back-open start side c.loop-i.store (c.loop-i.invariant.goes_on start side h)

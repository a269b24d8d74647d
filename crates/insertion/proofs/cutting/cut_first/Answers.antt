use Rattle.std.proofs.Common.{◌≡◌, ◌∙◌, sym, ap, subst, Result, Ok, Err, arith}
use Rattle.grid.specs.Meshes.{IsWithinLimits}
use Rattle.mesh_types.specs.Phases.{wanted_cuts}
use Rattle.mesh_types.specs.Refines.{refine}
use Rattle.mesh_store.specs.declared.issue.StoreIssue.{StoreIssue}
use Rattle.mesh_store.specs.Parts.{mesh_in}
use Rattle.cutting_rule.proofs.ForCallers.{within-until}
use Rattle.insertion.proofs.cutting.cut_first.Goals as goal

-- the issue of a result
abbrev issue_of : {A : Type 0} → Result A StoreIssue → StoreIssue
issue_of (Ok x) = StoreIssue.Full
issue_of (Err issue) = issue

pub returns-clause-full : goal.returns-clause-full
returns-clause-full c = λ e w.
    let m = mesh_in c.args.store.now.parts in
    let t = c.args.triangle.now in
    let cuts : c.deref.result.now ≡ wanted_cuts m t 0 = c.deref.ensures.value ∙ c.requires.cuts in
    c.in-Err.ensures.full (ap (λ r. Err (issue_of r)) e) (subst IsWithinLimits (sym (ap (refine m) cuts)) (within-until m t 1 4 (omega arith) w))

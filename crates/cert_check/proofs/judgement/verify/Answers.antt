use Rattle.std.proofs.Common.{subst}
use Rattle.cert_check.specs.Faults.{Case, case_of}
use Rattle.cert_check.specs.Passed.{GoesOn}
use Rattle.cert_check.proofs.MeshRules.{IsMshMesh-rules}
use Rattle.cert_check.proofs.Numbers.{points_from-node}
use Rattle.cert_check.proofs.Passing.{passed_none, none_passed, none_below-passed}
use Rattle.cert_check.proofs.ReportRules.{IsReport-rules}
use Rattle.cert_check.proofs.Soundness.{IsSound-passed}
use Rattle.cert_check.proofs.judgement.verify.Goals as goal

pub first_fault-requires-clause-mesh : goal.first_fault-requires-clause-mesh
first_fault-requires-clause-mesh c = IsMshMesh-rules _ _ _ _ c.requires.mesh

pub first_fault-requires-clause-report : goal.first_fault-requires-clause-report
first_fault-requires-clause-report c = IsReport-rules _ _ _ c.requires.report

pub returns-in-None : goal.returns-in-None
returns-in-None c =
    let k : Case = case_of c.args.soup.now c.args.mesh.now c.args.report.now c.args.digits in
    let passed = subst (GoesOn k 0 10) c.in-None.is c.in_ok-found.ensures (passed_none k) in
    record { finding = none_passed k passed; sound = λ e. IsSound-passed k passed; points = points_from-node c.args.soup.now.shift c.args.mesh.now.nodes (IsMshMesh-rules _ _ _ _ c.requires.mesh).numbers_rise }

pub returns-in-Some-clause-finding : goal.returns-in-Some-clause-finding
returns-in-Some-clause-finding c =
    let k : Case = case_of c.args.soup.now c.args.mesh.now c.args.report.now c.args.digits in
    let first = subst (GoesOn k 0 10) c.in-Some.is c.in_ok-found.ensures (passed_none k) in
    (first.0, none_below-passed k c.in-Some.fault first.1)

pub returns-in_err-found-clause-points : goal.returns-in_err-found-clause-points
returns-in_err-found-clause-points c = points_from-node c.args.soup.now.shift c.args.mesh.now.nodes (IsMshMesh-rules _ _ _ _ c.requires.mesh).numbers_rise

pub returns-in-Some-clause-points : goal.returns-in-Some-clause-points
returns-in-Some-clause-points c = points_from-node c.args.soup.now.shift c.args.mesh.now.nodes (IsMshMesh-rules _ _ _ _ c.requires.mesh).numbers_rise

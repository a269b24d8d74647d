use Rattle.std.proofs.Common.{ℕ, Option, ap, subst, ◌∙◌, arith}
use Rattle.std.specs.Prelude.{unsigned_abs}
use Rattle.std.proofs.lemmas.Result.{IfOk-weaker}
use Rattle.grid.specs.Views.{corners_of}
use Rattle.cert_check.specs.declared.fault.Fault.TheVariants as faults
use Rattle.cert_check.specs.FileMesh.{file_tets, points_from}
use Rattle.cert_check.specs.Faults.{Case, case_of}
use Rattle.cert_check.specs.Passed.{GoesOn}
use Rattle.cert_check.proofs.Facts.{nodes-in, points-all, side-few}
use Rattle.cert_check.proofs.Passing.{passed_none}
use Rattle.cert_check.proofs.judgement.first_fault.Goals as goal

pub points_of-requires-clause-in_box : goal.points_of-requires-clause-in_box
points_of-requires-clause-in_box c =
    let s = c.args.soup.now in
    let k : Case = case_of s c.args.mesh.now c.args.report.now c.args.digits in
    nodes-in (unsigned_abs s.side) s.shift _ _ c.as_slice-nodes.ensures (side-few s.side c.requires.soup.side) (c.in_default.ensures (passed_none k) (faults.NotInBox 0) (omega arith))

pub fault_of_tets-requires : goal.fault_of_tets-requires
fault_of_tets-requires c =
    let s = c.args.soup.now in
    let k : Case = case_of s c.args.mesh.now c.args.report.now c.args.digits in
    let nodes = nodes-in (unsigned_abs s.side) s.shift _ _ c.as_slice-nodes.ensures (side-few s.side c.requires.soup.side) (c.in_default.ensures (passed_none k) (faults.NotInBox 0) (omega arith)) in
    let points = c.deref.ensures.value ∙ c.in_ok-points.ensures in
    record {
      soup = c.requires.soup;
      mesh = c.requires.mesh;
      points = points ∙ ap (points_from s.shift 0) c.as_slice-nodes.ensures;
      in_box = points-all s.shift _ _ points nodes;
      tets = ap corners_of c.deref-2.ensures.value ∙ c.in_ok-tets.ensures ∙ ap file_tets c.as_slice-tagged.ensures;
    }

pub returns-in-Some-2 : goal.returns-in-Some-2
returns-in-Some-2 c p =
    let k : Case = case_of c.args.soup.now c.args.mesh.now c.args.report.now c.args.digits in
    subst (GoesOn k 2 6) c.in-Some-2.is (c.in_ok-fault.ensures c.args.report.now c.args.digits) (c.in_default.ensures p)

pub fault_of_triangles-requires : goal.fault_of_triangles-requires
fault_of_triangles-requires c =
    let s = c.args.soup.now in
    let k : Case = case_of s c.args.mesh.now c.args.report.now c.args.digits in
    let nodes = nodes-in (unsigned_abs s.side) s.shift _ _ c.as_slice-nodes.ensures (side-few s.side c.requires.soup.side) (c.in_default.ensures (passed_none k) (faults.NotInBox 0) (omega arith)) in
    let points = c.deref-3.ensures.value ∙ c.in_ok-points.ensures in
    record {
      soup = c.requires.soup;
      mesh = c.requires.mesh;
      report = c.requires.report;
      points = points ∙ ap (points_from s.shift 0) c.as_slice-nodes.ensures;
      in_box = points-all s.shift _ _ points nodes;
      tets = ap corners_of c.deref-4.ensures.value ∙ c.in_ok-tets.ensures ∙ ap file_tets c.as_slice-tagged.ensures;
    }

pub returns : goal.returns
returns c =
    let k : Case = case_of c.args.soup.now c.args.mesh.now c.args.report.now c.args.digits in
    IfOk-weaker c.fault_of_triangles.result (λ found. (digits : Option ℕ) → GoesOn (case_of c.args.soup.now c.args.mesh.now c.args.report.now digits) 6 10 found) (GoesOn k 0 10)
    (λ found h p. h c.args.digits (subst (GoesOn k 2 6) c.in_default-2.is (c.in_ok-fault.ensures c.args.report.now c.args.digits) (c.in_default.ensures p))) c.fault_of_triangles.ensures

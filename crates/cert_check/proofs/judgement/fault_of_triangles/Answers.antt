use Rattle.std.proofs.Common.{◌+◌, Some, None, length, ap, sym, subst, ◌∙◌, true≢false}
use Rattle.grid.specs.declared.shapes.Face.{Face}
use Rattle.cert_check.specs.declared.fault.Fault.TheVariants as faults
use Rattle.cert_check.specs.Faults.{Case, case_of, AreLines}
use Rattle.cert_check.proofs.Facts.{corners-all}
use Rattle.cert_check.proofs.Passing.{passed_more}
use Rattle.cert_check.proofs.Steps.{faces_first, covered_first, tags_first}
use Rattle.cert_check.proofs.judgement.fault_of_triangles.Goals as goal

pub first_not_covered-requires-clause-tracked : goal.first_not_covered-requires-clause-tracked
first_not_covered-requires-clause-tracked c =
    corners-all (λ (f : Face). f.0) c.args.soup.now.shift c.args.mesh.now.nodes _ c.args.mesh.now.tracked _ c.requires.points c.as_slice-tracked.ensures c.requires.mesh.triangle_corners

pub returns-in-Some : goal.returns-in-Some
returns-in-Some c digits p =
    let s = c.args.soup.now in
    let m = c.args.mesh.now in
    let r = c.args.report.now in
    let f = faces_first s m r digits _ _ _ (Some c.in-Some.place) c.requires.tets c.as_slice-tracked.ensures c.in-Some.is c.in_ok-place.ensures in
    (record { place = f.place; within = f.within; fails = f.fails; before = f.before; is = ap (λ ts. length ts + c.in-Some.place) c.as_slice-tagged.ensures ∙ ap (λ n. length m.tets + n) f.is }, p)

pub returns-in-Some-first_not_covered : goal.returns-in-Some-first_not_covered
returns-in-Some-first_not_covered c digits p =
    let s = c.args.soup.now in
    let m = c.args.mesh.now in
    let r = c.args.report.now in
    let k : Case = case_of s m r digits in
    let p7 = passed_more k (faults.NotAFace 0) p (faces_first s m r digits _ _ _ None c.requires.tets c.as_slice-tracked.ensures c.in_default.is c.in_ok-place.ensures) in
    (covered_first s m r digits _ _ _ _ (Some c.in-Some-first_not_covered.place) c.as_slice-triangles.ensures c.requires.points c.as_slice-tracked.ensures c.as_slice-faces.ensures c.in-Some-first_not_covered.ensures, p7)

pub returns-in-Some-2 : goal.returns-in-Some-2
returns-in-Some-2 c digits p =
    let s = c.args.soup.now in
    let m = c.args.mesh.now in
    let r = c.args.report.now in
    let k : Case = case_of s m r digits in
    let p7 = passed_more k (faults.NotAFace 0) p (faces_first s m r digits _ _ _ None c.requires.tets c.as_slice-tracked.ensures c.in_default.is c.in_ok-place.ensures) in
    let p8 = passed_more k (faults.NotCovered 0) p7 (covered_first s m r digits _ _ _ _ None c.as_slice-triangles.ensures c.requires.points c.as_slice-tracked.ensures c.as_slice-faces.ensures c.in_default-first_not_covered.ensures) in
    (tags_first s m r digits _ _ _ (Some c.in-Some-2.number) c.as_slice-tagged.ensures c.as_slice-tracked.ensures c.in-Some-2.is c.in_ok-number.ensures, p8)

pub returns-then-not-are_lines : goal.returns-then-not-are_lines
returns-then-not-are_lines c digits p =
    let s = c.args.soup.now in
    let m = c.args.mesh.now in
    let r = c.args.report.now in
    let k : Case = case_of s m r digits in
    let p7 = passed_more k (faults.NotAFace 0) p (faces_first s m r digits _ _ _ None c.requires.tets c.as_slice-tracked.ensures c.in_default.is c.in_ok-place.ensures) in
    let p8 = passed_more k (faults.NotCovered 0) p7 (covered_first s m r digits _ _ _ _ None c.as_slice-triangles.ensures c.requires.points c.as_slice-tracked.ensures c.as_slice-faces.ensures c.in_default-first_not_covered.ensures) in
    let tags = tags_first s m r digits _ _ _ None c.as_slice-tagged.ensures c.as_slice-tracked.ensures c.in_default-2.is c.in_ok-number.ensures in
    ((c.len.ensures, λ h. true≢false (sym (c.are_lines.ensures.1 (subst (λ ts. AreLines ts r) (sym c.as_slice-triangles.ensures) h)) ∙ c.if-not-are_lines.true)), passed_more k (faults.Region 0) p8 tags)

pub returns : goal.returns
returns c digits p =
    let s = c.args.soup.now in
    let m = c.args.mesh.now in
    let r = c.args.report.now in
    let k : Case = case_of s m r digits in
    let p7 = passed_more k (faults.NotAFace 0) p (faces_first s m r digits _ _ _ None c.requires.tets c.as_slice-tracked.ensures c.in_default.is c.in_ok-place.ensures) in
    let p8 = passed_more k (faults.NotCovered 0) p7 (covered_first s m r digits _ _ _ _ None c.as_slice-triangles.ensures c.requires.points c.as_slice-tracked.ensures c.as_slice-faces.ensures c.in_default-first_not_covered.ensures) in
    let tags = tags_first s m r digits _ _ _ None c.as_slice-tagged.ensures c.as_slice-tracked.ensures c.in_default-2.is c.in_ok-number.ensures in
    passed_more k (faults.TriangleLines 0) (passed_more k (faults.Region 0) p8 tags)
    (subst (λ ts. AreLines ts r) c.as_slice-triangles.ensures (c.are_lines.ensures.0 c.if-not-are_lines.false))

use Rattle.std.proofs.Common.{rules, ◌≡◌, ◌*◌, ◌^◌, pos, Some, None, ap, refl, sym, ◌∙◌, SFits, of_z, to_z-of_z}
use Rattle.std.specs.Prelude.{unsigned_abs}
use mir.Syntax.{w128}
use Rattle.face_table.specs.declared.pairs.Paired.TheVariants as pairs
use Rattle.msh_text.specs.declared.file_mesh.MshTet.{MshTet}
use Rattle.cert_check.specs.declared.fault.Fault.TheVariants as faults
use Rattle.cert_check.specs.Faults.{Case, case_of}
use Rattle.cert_check.proofs.Facts.{corners-all, tets-all, kept-side, kept-same}
use Rattle.cert_check.proofs.Passing.{passed_more}
use Rattle.cert_check.proofs.Steps.{no_face, positive_first, pairing_is, passed_pairing, volume_is}
use Rattle.cert_check.proofs.judgement.fault_of_tets.Goals as goal

pub first_not_positive-requires-clause-corners : goal.first_not_positive-requires-clause-corners
first_not_positive-requires-clause-corners c =
    corners-all (λ (t : MshTet). t.corners) c.args.soup.now.shift c.args.mesh.now.nodes _ c.args.mesh.now.tets _ c.requires.points c.as_slice-tagged.ensures c.requires.mesh.corners

pub pairing-requires : goal.pairing-requires
pairing-requires c =
    let m = c.args.mesh.now in
    record { in_range = tets-all _ m.tets _ c.requires.tets (corners-all (λ (t : MshTet). t.corners) c.args.soup.now.shift m.nodes _ m.tets _ c.requires.points refl c.requires.mesh.corners) }

pub volume_of-sum-requires-clause-corners : goal.volume_of-sum-requires-clause-corners
volume_of-sum-requires-clause-corners c =
    corners-all (λ (t : MshTet). t.corners) c.args.soup.now.shift c.args.mesh.now.nodes _ c.args.mesh.now.tets _ c.requires.points c.as_slice-tagged.ensures c.requires.mesh.corners

pub returns-in-Some : goal.returns-in-Some
returns-in-Some c report digits p = (positive_first c.args.soup.now c.args.mesh.now report digits _ _ (Some c.in-Some.number) c.requires.points c.as_slice-tagged.ensures c.in-Some.ensures, p)

pub returns-in-Twice : goal.returns-in-Twice
returns-in-Twice c report digits p =
    let s = c.args.soup.now in
    let m = c.args.mesh.now in
    let k : Case = case_of s m report digits in
    let p3 = passed_more k (faults.NotPositive 0) p (positive_first s m report digits _ _ None c.requires.points c.as_slice-tagged.ensures c.in_default.ensures) in
    (pairing_is s m report digits _ _ _ (pairs.Twice c.in-Twice.face) c.requires.points c.requires.tets c.in-Twice.is (c.in_ok-pairing.ensures.is (unsigned_abs s.side) (kept-side s.side c.requires.soup.side)), p3)

pub returns-in-Loose : goal.returns-in-Loose
returns-in-Loose c report digits p =
    let s = c.args.soup.now in
    let m = c.args.mesh.now in
    let k : Case = case_of s m report digits in
    let p3 = passed_more k (faults.NotPositive 0) p (positive_first s m report digits _ _ None c.requires.points c.as_slice-tagged.ensures c.in_default.ensures) in
    let paired = pairing_is s m report digits _ _ _ (pairs.Loose c.in-Loose.face) c.requires.points c.requires.tets c.in-Loose.is (c.in_ok-pairing.ensures.is (unsigned_abs s.side) (kept-side s.side c.requires.soup.side)) in
    (paired, passed_more k (faults.Twice no_face) p3 paired.0)

pub returns-then-sum-six_volumes : goal.returns-then-sum-six_volumes
returns-then-sum-six_volumes c report digits p =
    let s = c.args.soup.now in
    let m = c.args.mesh.now in
    let k : Case = case_of s m report digits in
    let p3 = passed_more k (faults.NotPositive 0) p (positive_first s m report digits _ _ None c.requires.points c.as_slice-tagged.ensures c.in_default.ensures) in
    let paired = pairing_is s m report digits _ _ _ pairs.Good c.requires.points c.requires.tets c.in-Good.is (c.in_ok-pairing.ensures.is (unsigned_abs s.side) (kept-side s.side c.requires.soup.side)) in
    let sum = volume_is s m report digits _ _ _ c.requires.points c.as_slice-tagged.ensures c.volume_of-sum.ensures in
    let g : SFits w128 c.volume_of-sum.result = search rules in
    let six = c.six_volumes.ensures ∙ ap (λ z. pos (6 * unsigned_abs z ^ 3)) (kept-same s.side c.requires.soup.side) in
    ((to_z-of_z g ∙ sum, λ h. c.if-sum-six_volumes.true (ap (of_z w128) (sym (to_z-of_z g) ∙ h ∙ sym six))), passed_pairing s m report digits p3 paired)

pub returns : goal.returns
returns c report digits p =
    let s = c.args.soup.now in
    let m = c.args.mesh.now in
    let k : Case = case_of s m report digits in
    let p3 = passed_more k (faults.NotPositive 0) p (positive_first s m report digits _ _ None c.requires.points c.as_slice-tagged.ensures c.in_default.ensures) in
    let paired = pairing_is s m report digits _ _ _ pairs.Good c.requires.points c.requires.tets c.in-Good.is (c.in_ok-pairing.ensures.is (unsigned_abs s.side) (kept-side s.side c.requires.soup.side)) in
    let sum = volume_is s m report digits _ _ _ c.requires.points c.as_slice-tagged.ensures c.volume_of-sum.ensures in
    let same : c.volume_of-sum.result ≡ c.six_volumes.result = search rules in
    passed_more k (faults.Volume (pos 0)) (passed_pairing s m report digits p3 paired)
    (sym sum ∙ same ∙ c.six_volumes.ensures ∙ ap (λ z. pos (6 * unsigned_abs z ^ 3)) (kept-same s.side c.requires.soup.side))

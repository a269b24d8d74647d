-- What each test finds of the lists at hand holds of the files, one kind of fault after the other.
use Rattle.std.proofs.Common.{◌≡◌, ℕ, ◌+◌, max, Option, List, [], length, subst, ℤ}
use Rattle.std.specs.Prelude.{unsigned_abs}
use Rattle.grid.specs.declared.shapes.Point.{Point}
use Rattle.grid.specs.declared.shapes.Tri.{Tri}
use Rattle.grid.specs.declared.shapes.Face.{Face}
use Rattle.grid.specs.Determinants.{volume}
use Rattle.grid.specs.Simplices.{all_faces}
use Rattle.grid.specs.Views.{triples_of}
use Rattle.face_table.specs.Pairing.{IsPairing}
use Rattle.face_table.specs.declared.pairs.Paired.{Paired}
use Rattle.face_table.specs.declared.pairs.Paired.TheVariants as pairs
use Rattle.msh_text.specs.declared.file_mesh.MshMesh.{MshMesh}
use Rattle.msh_text.specs.declared.file_mesh.MshTet.{MshTet}
use Rattle.report_text.specs.declared.report.Covering.{Covering}
use Rattle.report_text.specs.declared.report.Report.{Report}
use Rattle.soup.specs.declared.raw.Soup.{Soup}
use Rattle.cert_check.specs.declared.fault.Fault.TheVariants as faults
use Rattle.cert_check.specs.FileMesh.{file_tets, points_from, tet_at}
use Rattle.cert_check.specs.Faults.{Case, case_of, IsTetPositive, IsFace, IsCovered, IsTagOf}
use Rattle.cert_check.specs.Firsts.{IsFirstOrNone}
use Rattle.cert_check.specs.Passed.{Passed}
use Rattle.cert_check.proofs.Facts.{both}
use Rattle.cert_check.proofs.Passing.{passed_more}

abbrev pub no_face : Face
no_face = record { 0 = [] }

module _ (s : Soup) (m : MshMesh) (r : Report) (digits : Option ℕ) where
  abbrev this : Case
  this = case_of s m r digits

  abbrev points_in : List Point
  points_in = points_from s.shift 0 m.nodes

  -- ---- tetrahedra
  pub positive_first : (points : List Point) (tets : List MshTet) (found : Option ℕ) → points ≡ points_in → tets ≡ m.tets → IsFirstOrNone (length tets) (IsTetPositive points tets) (λ i. i + 1) found → IsFirstOrNone (length m.tets) (IsTetPositive points_in m.tets) (λ i. i + 1) found
  positive_first points tets found e f h = both (λ q ts. IsFirstOrNone (length ts) (IsTetPositive q ts) (λ i. i + 1) found) _ _ _ _ e f h

  pub pairing_is : (points : List Point) (tets : List (List ℕ)) (paired found : Paired) → points ≡ points_in → tets ≡ file_tets m.tets → paired ≡ found → IsPairing points (unsigned_abs s.side) (all_faces tets) paired → IsPairing points_in (unsigned_abs s.side) (all_faces (file_tets m.tets)) found
  pairing_is points tets paired found e f g h =
      both (λ q ts. IsPairing q (unsigned_abs s.side) (all_faces ts) found) _ _ _ _ e f (subst (IsPairing points (unsigned_abs s.side) (all_faces tets)) g h)

  pub passed_pairing : Passed this 3 → IsPairing points_in (unsigned_abs s.side) (all_faces (file_tets m.tets)) pairs.Good → Passed this 5
  passed_pairing p h = passed_more this (faults.Loose no_face) (passed_more this (faults.Twice no_face) p h.0) h.1

  pub volume_is : (points : List Point) (tets : List MshTet) (sum : ℤ) → points ≡ points_in → tets ≡ m.tets → sum ≡ volume points (file_tets tets) → sum ≡ volume points_in (file_tets m.tets)
  volume_is points tets sum e f h = both (λ q ts. sum ≡ volume q (file_tets ts)) _ _ _ _ e f h

  -- ---- triangles
  pub faces_first : (tets : List (List ℕ)) (tracked : List Face) (result found : Option ℕ) → tets ≡ file_tets m.tets → tracked ≡ m.tracked → result ≡ found → IsFirstOrNone (length tracked) (IsFace tets tracked) (λ i. i + 1) result
      → IsFirstOrNone (length m.tracked) (IsFace (file_tets m.tets) m.tracked) (λ i. i + 1) found
  faces_first tets tracked result found e f g h =
      both (λ ts tr. IsFirstOrNone (length tr) (IsFace ts tr) (λ i. i + 1) found) _ _ _ _ e f (subst (IsFirstOrNone (length tracked) (IsFace tets tracked) (λ i. i + 1)) g h)

  pub covered_first : (triangles : List Tri) (points : List Point) (tracked : List Face) (coverings : List Covering) (found : Option ℕ) → triangles ≡ s.triangles → points ≡ points_in → tracked ≡ m.tracked → coverings ≡ r.faces
      → IsFirstOrNone (max (length tracked) (length coverings)) (IsCovered triangles r.epsilon points tracked coverings) (λ i. i + 1) found
      → IsFirstOrNone (max (length m.tracked) (length r.faces)) (IsCovered s.triangles r.epsilon points_in m.tracked r.faces) (λ i. i + 1) found
  covered_first triangles points tracked coverings found d e f g h =
      both (λ t fs. IsFirstOrNone (max (length m.tracked) (length fs)) (IsCovered t r.epsilon points_in m.tracked fs) (λ i. i + 1) found) _ _ _ _ d g
      (both (λ q tr. IsFirstOrNone (max (length tr) (length coverings)) (IsCovered triangles r.epsilon q tr coverings) (λ i. i + 1) found) _ _ _ _ e f h)

  -- what is asked of the tags of these
  abbrev FirstTag : List MshTet → List Face → Option ℕ → Type 0
  FirstTag tets tracked found = IsFirstOrNone (length tets) (λ i. IsTagOf (file_tets tets) (triples_of tracked) (tet_at tets i)) (λ i. i + 1) found

  pub tags_first : (tets : List MshTet) (tracked : List Face) (result found : Option ℕ) → tets ≡ m.tets → tracked ≡ m.tracked → result ≡ found → FirstTag tets tracked result → FirstTag m.tets m.tracked found
  tags_first tets tracked result found e f g h = both (λ ts tr. FirstTag ts tr found) _ _ _ _ e f (subst (FirstTag tets tracked) g h)

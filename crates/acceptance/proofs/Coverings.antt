-- The coverings of a run: their faces lie off the box, and they are plain.
use Rattle.std.proofs.Common.{◌≡◌, ℕ, ◌+◌, ◌<◌, ◌≤◌, true, List, [], ◌∷◌, length, All, refl, sym, ap, ◌∙◌, subst, inl, inr, arith}
use Rattle.std.specs.List.{AllZip, AllByRecursion as Each}
use Rattle.std.proofs.lemmas.List.{length-map}
use Rattle.std.proofs.lemmas.List.Elements.{All-from_recursion, recursion_from_All}
use Rattle.cover.proofs.ForCallers.{certificate_law}
use Rattle.grid.proofs.ForCallers.{has3-cases}
use Rattle.grid.specs.declared.shapes.Face.{Face}
use Rattle.grid.specs.declared.shapes.Point.{Point}
use Rattle.grid.specs.declared.shapes.Tri.{Tri}
use Rattle.grid.specs.Boxes.{Side, IsOn}
use Rattle.grid.specs.Determinants.{point_at}
use Rattle.grid.specs.Meshes.{IsTriple}
use Rattle.grid.specs.Simplices.{has, Rises}
use Rattle.grid.specs.Limits.{most_input, most_points}
use Rattle.lines.specs.Fields.{Between}
use Rattle.cert_check.specs.Faults.{tri_of}
use Rattle.cert_check.specs.Written.{IsCoveringOfTriple}
use Rattle.mesh_types.specs.Certificates.{Covers, most_levels}
use Rattle.mesh_types.specs.Verdicts.{face_at}
use Rattle.mesher.specs.Meshed.{AreCoverings}
use Rattle.msh_text.specs.FileMesh.{file_numbers}
use Rattle.report_text.specs.declared.report.Covering.{Covering}
use Rattle.report_text.specs.Plain.{IsPlainCovering}
use Rattle.soup.specs.Placement.{IsTriInside}
use Rattle.acceptance.specs.OffBox.{IsOffBox}
use Rattle.acceptance.proofs.Certs.{covers_plain}
use Rattle.acceptance.proofs.Renumbered.{Rises-next}
use Rattle.acceptance.proofs.SideBySide.{firsts, seconds}
use Rattle.acceptance.proofs.TwoInside.{IsTriTwoInside, IsPointTwoInside, covers_inside, off_sides}

-- ---- the faces of triples
tri_is : (points : List Point) (t : List ℕ) → length t ≡ 3 → face_at points t ≡ tri_of points t
tri_is points [] e = absurd (omega (arith, e))
tri_is points (a ∷ []) e = absurd (omega (arith, e))
tri_is points (a ∷ b ∷ []) e = absurd (omega (arith, e))
tri_is points (a ∷ b ∷ c ∷ []) e = refl
tri_is points (a ∷ b ∷ c ∷ d ∷ t) e = absurd (omega (arith, e))

-- ---- off the box
off_triple : (points : List Point) (l : ℕ) (t : List ℕ) → length t ≡ 3 → IsTriTwoInside l 0 (tri_of points t) → IsOffBox points l t
off_triple points l [] e h = absurd (omega (arith, e))
off_triple points l (a ∷ []) e h = absurd (omega (arith, e))
off_triple points l (a ∷ b ∷ []) e h = absurd (omega (arith, e))
off_triple points l (a ∷ b ∷ c ∷ d ∷ t) e h = absurd (omega (arith, e))
off_triple points l (a ∷ b ∷ c ∷ []) e h = record { off = off }
  where
    at : (u o : ℕ) → u ≡ o → IsPointTwoInside l 0 (point_at points u) → (s : Side) → ¬ IsOn l s (point_at points o)
    at u o same inside = off_sides l (point_at points o) (subst (λ v. IsPointTwoInside l 0 (point_at points v)) same inside)

    off : (o : ℕ) → has (a ∷ b ∷ c ∷ []) o ≡ true → (s : Side) → ¬ IsOn l s (point_at points o)
    off o there = elim (has3-cases a b c o there) [
      | inl same ↦ at a o same h.a_in
      | inr (inl same) ↦ at b o same h.b_in
      | inr (inr same) ↦ at c o same h.c_in
    ]

module _ (triangles : List Tri) (e : ℕ) (points : List Point) where
  -- the certificates of the mesher are certificates
  pub covers_zip : (n : ℕ) (ts : List (List ℕ)) (cs : List Covering) → Each (IsTriple n) ts → AreCoverings triangles e points ts cs → AllZip (IsCoveringOfTriple triangles e points) ts cs
  covers_zip n [] [] q h = tt
  covers_zip n [] (c ∷ cs) q h = absurd h
  covers_zip n (t ∷ ts) [] q h = absurd h
  covers_zip n (t ∷ ts) (c ∷ cs) q h = (
    record { face = h.0.face; covers = subst (λ (f : Tri). Covers triangles e most_levels 0 f c.cert) (tri_is points t q.0.three) (certificate_law triangles e most_levels 0 (face_at points t) c.cert h.0.cert).0 },
    covers_zip n ts cs q.1 h.1,
  )

  pub tracked_off : (l n : ℕ) → All (IsTriInside (e + 2) l) triangles → (ts : List (List ℕ)) (cs : List Covering) → Each (IsTriple n) ts → AllZip (IsCoveringOfTriple triangles e points) ts cs → Each (IsOffBox points l) ts
  tracked_off l n inside ts cs triples h = firsts (IsCoveringOfTriple triangles e points) (IsTriple n) (IsOffBox points l)
      (λ t c triple cover. off_triple points l t triple.three (covers_inside triangles e l inside most_levels 0 (tri_of points t) c.cert cover.covers)) ts cs triples h

  between : (n : ℕ) (t : List ℕ) → n ≤ most_points → Each (λ u. u < n) t → Each (Between 1 most_points) (file_numbers t)
  between n [] few h = tt
  between n (u ∷ t) few h = let lt = h.0 in ((omega arith, omega (arith, lt, few)), between n t few h.1)

  plain_covering : (n : ℕ) → n ≤ most_points → length triangles ≤ most_input → (t : List ℕ) (c : Covering) → IsTriple n t → IsCoveringOfTriple triangles e points t c → IsPlainCovering c
  plain_covering n few triangles_few t c triple cover = record {
    three = ap (λ (f : Face). length f.0) cover.face ∙ (length-map t (λ u. u + 1) ∙ triple.three);
    rises = subst (λ (f : Face). Rises f.0) (sym cover.face) (Rises-next t triple.rises);
    in_range = subst (λ (f : Face). All (Between 1 most_points) f.0) (sym cover.face) (All-from_recursion (Between 1 most_points) (file_numbers t) (between n t few (recursion_from_All (λ u. u < n) t triple.in_range)));
    cert_is = covers_plain triangles e triangles_few most_levels 0 (tri_of points t) c.cert cover.covers;
  }

  pub coverings_plain : (n : ℕ) → n ≤ most_points → length triangles ≤ most_input → (ts : List (List ℕ)) (cs : List Covering) → Each (IsTriple n) ts → AllZip (IsCoveringOfTriple triangles e points) ts cs → All IsPlainCovering cs
  coverings_plain n few triangles_few ts cs triples h = All-from_recursion IsPlainCovering cs (seconds (IsCoveringOfTriple triangles e points) (IsTriple n) IsPlainCovering (plain_covering n few triangles_few) ts cs triples h)

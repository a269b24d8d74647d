-- After an insertion each tracked face has a certificate: a section face that of its triangle, or of a lesser one.
use Rattle.std.proofs.Common.{◌≡◌, ◌⊎◌, ℕ, ◌<◌, List, [], ◌∷◌, ◌++◌, length, take, get_or, All, sym, subst, inl, inr, arith}
use Rattle.std.specs.List.{Contains, AllByRecursion as Each}
use Rattle.std.proofs.lemmas.List.Elements.{All-contains, All-from_recursion, recursion_from_All}
use Rattle.grid.specs.declared.shapes.Point.{Point}
use Rattle.grid.specs.declared.shapes.Tri.{Tri}
use Rattle.grid.specs.Determinants.{point_at}
use Rattle.grid.specs.Meshes.{Mesh, IsTriple, IsWellFormed}
use Rattle.grid.specs.Near.{Near}
use Rattle.mesh_types.specs.Certificates.{HasCertificate}
use Rattle.mesh_types.specs.Phases.{points_of, section}
use Rattle.mesh_types.specs.Tracking.{in_order_once, with_tracked}
use Rattle.grid.proofs.ForCallers.{Each-append}
use Rattle.mesh_types.proofs.ForCallers.{Each-in_order_once}
use Rattle.insertion.specs.Bare.{HasNewCorner, IsKept, IsCovered}
use Rattle.cutting_rule.proofs.ForCallers.{all-has, section-triples}
use Rattle.cover.proofs.ForCallers.{leaf_law}
use Rattle.grid.specs.Envelopes.{triangle_at}
use Rattle.mesh_types.specs.Insertion.{face_at}
use Rattle.cutter.proofs.ForCallers.{points-kept}

-- a face whose corners are near to a triangle
face-covered : (points : List Point) (triangles : List Tri) (e t : ℕ) (f : List ℕ) → t < length triangles → length f ≡ 3 → All (λ u. Near (point_at points u) 0 (triangle_at triangles t) e) f → IsCovered triangles e points f
face-covered points triangles e t [] lt l h = absurd (omega (arith, l))
face-covered points triangles e t (a ∷ []) lt l h = absurd (omega (arith, l))
face-covered points triangles e t (a ∷ b ∷ []) lt l h = absurd (omega (arith, l))
face-covered points triangles e t (a ∷ b ∷ c ∷ d ∷ f) lt l h = absurd (omega (arith, l))
face-covered points triangles e t (a ∷ b ∷ c ∷ []) lt l h =
    let near = recursion_from_All (λ u. Near (point_at points u) 0 (triangle_at triangles t) e) (a ∷ b ∷ c ∷ []) h in
    record { certificate = leaf_law triangles e (face_at points (a ∷ b ∷ c ∷ [])) t (record { in_range = lt; near = record { a_near = near.0; b_near = near.1.0; c_near = near.1.1.0 } }) }

faces-covered : (points : List Point) (triangles : List Tri) (e t n : ℕ) (fs : List (List ℕ)) → t < length triangles → Each (IsTriple n) fs → Each (λ f. All (λ u. Near (point_at points u) 0 (triangle_at triangles t) e) f) fs → Each (IsCovered triangles e points) fs
faces-covered points triangles e t n [] lt h k = tt
faces-covered points triangles e t n (f ∷ fs) lt h k = (face-covered points triangles e t f lt h.0.three k.0, faces-covered points triangles e t n fs lt h.1 k.1)

pub covered-cut : (m n : Mesh) (triangles : List Tri) (e t : ℕ) → t < length triangles → IsWellFormed m → IsWellFormed n → take (length m.points) n.points ≡ m.points → All (λ f. Contains m.tracked f ⊎ HasNewCorner (length m.points) f) n.tracked → All (IsKept n.points triangles e (length m.points)) n.tracked
    → All (λ f. All (λ u. Near (point_at n.points u) 0 (triangle_at triangles t) e) f) (section n (triangle_at triangles t)) → All (IsCovered triangles e m.points) m.tracked → All (IsCovered triangles e (with_tracked n (section n (triangle_at triangles t))).points) (with_tracked n (section n (triangle_at triangles t))).tracked
unfolding with_tracked
covered-cut m n triangles e t lt w v points fresh kept near certs =
    let faces = section n (triangle_at triangles t) in
    let old : All (IsCovered triangles e n.points) n.tracked = λ k d lt. elim (fresh k d lt) [
      | inl c ↦
          let f = get_or n.tracked k d in
          let before : IsCovered triangles e m.points f = All-contains (IsCovered triangles e m.points) m.tracked f certs c in
          let triple : IsTriple (length m.points) f = All-contains (IsTriple (length m.points)) m.tracked f w.triples_are c in
          let same : points_of n.points f ≡ points_of m.points f = points-kept m.points n.points points f (recursion_from_All (λ u. u < length m.points) f triple.in_range) in
          record { certificate = subst (λ ps. HasCertificate triangles e (record { 0 = ps })) (sym same) before.certificate }
      | inr h ↦ elim (kept k d lt) [
        | inr cert ↦ record { certificate = cert }
        | inl low ↦ let below : h.corner < length m.points = all-has (λ u. u < length m.points) (get_or n.tracked k d) h.corner low h.there in absurd (omega (arith, below, h.new))
      ]
    ] in
    All-from_recursion (IsCovered triangles e n.points) (in_order_once (n.tracked ++ faces))
    (Each-in_order_once (IsCovered triangles e n.points) (n.tracked ++ faces)
    (Each-append (IsCovered triangles e n.points) n.tracked faces
    (recursion_from_All (IsCovered triangles e n.points) n.tracked old)
    (faces-covered n.points triangles e t (length n.points) faces lt (section-triples n (triangle_at triangles t) v.tets_are)
    (recursion_from_All (λ f. All (λ u. Near (point_at n.points u) 0 (triangle_at triangles t) e) f) faces near))))

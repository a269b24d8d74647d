-- A part of a run keeps that the mesh tiles and that its tracked faces have certificates.
use Rattle.std.proofs.Common.{◌≡◌, ℕ, ℤ, true, false, eqb, List, [], ◌∷◌, length, All, refl, sym, subst, arith}
use Rattle.std.proofs.lemmas.Bool.{true≢false, eqb-true}
use Rattle.std.specs.List.{AllByRecursion as Each}
use Rattle.std.proofs.lemmas.List.Elements.{All-from_recursion, recursion_from_All}
use Rattle.grid.specs.declared.shapes.Point.{Point}
use Rattle.grid.specs.declared.shapes.Tri.{Tri}
use Rattle.grid.specs.Meshes.{Mesh, IsTriple, IsWellFormed}
use Rattle.mesh_types.specs.declared.outcome.Again.{Again}
use Rattle.mesh_types.specs.declared.outcome.Outcome.{Outcome}
use Rattle.mesh_types.specs.Certificates.{HasCertificate}
use Rattle.mesh_types.specs.Insertion as insertion_specs
use Rattle.mesh_types.specs.Journals.{AllCovered, setting}
use Rattle.mesh_types.specs.Turns.{AreInserted}
use Rattle.mesh_types.specs.Verdicts.{Setting, face_at, IsCovered}
use Rattle.insertion.specs.Bare as bare_specs
use Rattle.insertion.specs.InTurn.{AreTurns, triangles_of}

-- ---- certificates
-- the triangle of three points, said in two ways
same_face : (points : List Point) (t : List ℕ) → length t ≡ 3 → insertion_specs.face_at points t ≡ face_at points t
same_face points [] e = cc e
same_face points (a ∷ []) e = cc e
same_face points (a ∷ b ∷ []) e = cc e
same_face points (a ∷ b ∷ c ∷ []) e = refl
same_face points (a ∷ b ∷ c ∷ d ∷ t) e = cc e

module _ (s : Setting) (n : ℕ) (points : List Point) where
  each-covered : (ts : List (List ℕ)) → Each (IsTriple n) ts → Each (bare_specs.IsCovered s.triangles s.epsilon points) ts → Each (IsCovered s points) ts
  each-covered [] w c = tt
  each-covered (t ∷ ts) w c = (subst (HasCertificate s.triangles s.epsilon) (same_face points t w.0.three) c.0.certificate, each-covered ts w.1 c.1)

  each-bare : (ts : List (List ℕ)) → Each (IsTriple n) ts → Each (IsCovered s points) ts → Each (bare_specs.IsCovered s.triangles s.epsilon points) ts
  each-bare [] w c = tt
  each-bare (t ∷ ts) w c = (record { certificate = subst (HasCertificate s.triangles s.epsilon) (sym (same_face points t w.0.three)) c.0 }, each-bare ts w.1 c.1)

all-covered : (s : Setting) (m : Mesh) → IsWellFormed m → All (bare_specs.IsCovered s.triangles s.epsilon m.points) m.tracked → AllCovered s m
all-covered s m w c =
    All-from_recursion (IsCovered s m.points) m.tracked
    (each-covered s (length m.points) m.points m.tracked (recursion_from_All (IsTriple (length m.points)) m.tracked w.triples_are) (recursion_from_All (bare_specs.IsCovered s.triangles s.epsilon m.points) m.tracked c))

all-bare : (s : Setting) (m : Mesh) → IsWellFormed m → AllCovered s m → All (bare_specs.IsCovered s.triangles s.epsilon m.points) m.tracked
all-bare s m w c =
    All-from_recursion (bare_specs.IsCovered s.triangles s.epsilon m.points) m.tracked
    (each-bare s (length m.points) m.points m.tracked (recursion_from_All (IsTriple (length m.points)) m.tracked w.triples_are) (recursion_from_All (IsCovered s m.points) m.tracked c))

-- turns keep certificates
pub turns-covered : (triangles : List Tri) (e : ℕ) (side : ℤ) (numbers : List ℕ) (start m : Mesh) (outcomes : List Outcome)
    → IsWellFormed start → IsWellFormed m → AreTurns triangles e numbers start outcomes m → AllCovered (setting triangles e side) start → AllCovered (setting triangles e side) m
turns-covered triangles e side numbers start m outcomes w v turns c =
    let s = setting triangles e side in
    all-covered s m v (turns.covered (all-bare s start w c))

pub is_none : (again : List Again) → eqb (length again) 0 ≡ true → again ≡ []
is_none [] is = refl
is_none (a ∷ again) is = absurd (omega (arith, eqb-true (length (a ∷ again)) 0 is))

pub is_some : (again : List Again) → eqb (length again) 0 ≡ false → ¬ triangles_of again ≡ []
is_some [] other none = true≢false other
is_some (a ∷ again) other none = cc none

-- no turn changes nothing
pub none-inserted : (triangles : List Tri) (e : ℕ) (numbers : List ℕ) (start m : Mesh) (outcomes : List Outcome) → numbers ≡ [] → outcomes ≡ [] → AreInserted triangles e numbers start outcomes m → m ≡ start
none-inserted triangles e numbers start m outcomes none none_of is =
    subst (λ (ns : List ℕ). AreInserted triangles e ns start [] m) none (subst (λ (os : List Outcome). AreInserted triangles e numbers start os m) none_of is)

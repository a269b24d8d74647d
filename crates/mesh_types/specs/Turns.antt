-- What becomes of triangles that are inserted in turn.
use Rattle.std.specs.Prelude.{◌≡◌, ℕ, ◌+◌, Bool, true, false, if◌then◌else◌, List, [], ◌∷◌}
use Rattle.grid.specs.declared.shapes.Tri.{Tri}
use Rattle.grid.specs.Meshes.{Mesh}
use Rattle.mesh_types.specs.declared.outcome.Outcome.{Outcome}
use Rattle.mesh_types.specs.declared.outcome.Outcome.TheVariants.{Inserted, RolledBack}
use Rattle.mesh_types.specs.Insertion.{IsInsertion}

-- the triangles of these numbers are inserted in turn, each into the mesh that the one before left: their outcomes, and the last mesh
abbrev pub AreInserted : (triangles : List Tri) (e : ℕ) (numbers : List ℕ) (m : Mesh) → List Outcome → Mesh → Type 0
AreInserted triangles e [] m [] last = last ≡ m
AreInserted triangles e (t ∷ ts) m (o ∷ os) last = (n : Mesh) × IsInsertion triangles t e m o n × AreInserted triangles e ts n os last
AreInserted triangles e numbers m outcomes last = ⊥

abbrev pub is_rolled_back : Outcome → Bool
is_rolled_back (Inserted count) = false
is_rolled_back (RolledBack defect) = true

-- the numbers, from n on, of the triangles that were rolled back
abbrev pub rolled_back : ℕ → List Outcome → List ℕ
rolled_back n [] = []
rolled_back n (o ∷ os) = if is_rolled_back o then n ∷ rolled_back (n + 1) os else rolled_back (n + 1) os

-- ---- the law
-- insertions in turn have one list of outcomes and one last mesh
abbrev pub TurnsLaw : Type 0
TurnsLaw = (triangles : List Tri) (e : ℕ) (numbers : List ℕ) (m : Mesh) (outcomes others : List Outcome) (last other : Mesh)
    → AreInserted triangles e numbers m outcomes last → AreInserted triangles e numbers m others other → (outcomes ≡ others) × (last ≡ other)

-- The definitions at a cube of side 16 cut into six, and at its refinement.
use Rattle.std.proofs.Common.{◌≡◌, ℕ, [], ◌∷◌, pos, List, length, refl}
use Rattle.grid.specs.declared.shapes.Point.{Point}
use Rattle.grid.specs.Simplices.{count}
use Rattle.grid.specs.Determinants.{det, volume}
use Rattle.grid.specs.Meshes.{Mesh}
use Rattle.mesh_types.specs.declared.cut.Cut.{Cut}
use Rattle.mesh_types.specs.Refines.{refine}

abbrev point : ℕ → ℕ → ℕ → Point
point x y z = record { x = pos x; y = pos y; z = pos z }

abbrev cube : Mesh
cube = record {
  points = point 0 0 0 ∷ point 16 0 0 ∷ point 0 16 0 ∷ point 16 16 0 ∷ point 0 0 16 ∷ point 16 0 16 ∷ point 0 16 16 ∷ point 16 16 16 ∷ [];
  tets = (0 ∷ 1 ∷ 3 ∷ 7 ∷ []) ∷ (0 ∷ 5 ∷ 1 ∷ 7 ∷ []) ∷ (0 ∷ 3 ∷ 2 ∷ 7 ∷ []) ∷ (0 ∷ 2 ∷ 6 ∷ 7 ∷ []) ∷ (0 ∷ 4 ∷ 5 ∷ 7 ∷ []) ∷ (0 ∷ 6 ∷ 4 ∷ 7 ∷ []) ∷ [];
  tracked = (0 ∷ 1 ∷ 3 ∷ []) ∷ (0 ∷ 1 ∷ 7 ∷ []) ∷ [];
  made = 6;
}

abbrev cut : List Cut
cut = record { u = 0; v = 7; at = point 8 8 8 } ∷ []

cube-volume : volume cube.points cube.tets ≡ pos 24576
unfolding det
cube-volume = refl

refined-volume : volume (refine cube cut).points (refine cube cut).tets ≡ pos 24576
unfolding det refine
refined-volume = refl

refined-length : length (refine cube cut).tets ≡ 12
unfolding refine
refined-length = refl

refined-tracked : (refine cube cut).tracked ≡ (0 ∷ 1 ∷ 3 ∷ []) ∷ (0 ∷ 1 ∷ 8 ∷ []) ∷ (1 ∷ 7 ∷ 8 ∷ []) ∷ []
unfolding refine
refined-tracked = refl

-- the face 0 1 3 looks down and out of the box
loose : count (0 ∷ 3 ∷ 1 ∷ []) cube.tets ≡ 1
loose = refl

loose-reverse : count (0 ∷ 1 ∷ 3 ∷ []) cube.tets ≡ 0
loose-reverse = refl

paired : count (7 ∷ 0 ∷ 1 ∷ []) cube.tets ≡ 1
paired = refl

paired-reverse : count (1 ∷ 0 ∷ 7 ∷ []) cube.tets ≡ 1
paired-reverse = refl

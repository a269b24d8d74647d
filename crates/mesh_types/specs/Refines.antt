-- Refinement of meshes by a list of edges, and its laws.
use Rattle.std.specs.Prelude.{◌≢◌, ℕ, ◌+◌, ◌<◌, Bool, false, not, ◌&&◌, ◌||◌, if◌then◌else◌, List, [], ◌∷◌, ◌++◌, map, length, All}
use Rattle.std.specs.List.{flat_map, filter}
use Rattle.grid.specs.declared.shapes.Point.{Point}
use Rattle.grid.specs.Simplices.{has, sub, rising}
use Rattle.grid.specs.Determinants.{point_at}
use Rattle.grid.specs.Boxes.{Side, IsOn}
use Rattle.grid.specs.Meshes.{Mesh, is_below, IsWellFormed, Weave, Tiles}
use Rattle.mesh_types.specs.declared.cut.Cut.{Cut}

-- the pieces of x by a list of cuts in turn, whose points are numbered from k on
abbrev pub sub_all : ℕ → List Cut → List ℕ → List (List ℕ)
sub_all k [] x = x ∷ []
sub_all k (e ∷ es) x = flat_map (sub_all (k + 1) es) (sub e.u e.v k x)

-- x has both ends of a cut
abbrev pub is_touched : List Cut → List ℕ → Bool
is_touched [] x = false
is_touched (e ∷ es) x = (has x e.u && has x e.v) || is_touched es x

-- ---- rising order of triples
-- x, put before the first triple that is not below it
abbrev pub insert_triple : List ℕ → List (List ℕ) → List (List ℕ)
insert_triple x [] = x ∷ []
insert_triple x (y ∷ ys) = if is_below y x then y ∷ insert_triple x ys else x ∷ y ∷ ys

-- the triples in rising order
abbrev pub in_order : List (List ℕ) → List (List ℕ)
in_order [] = []
in_order (x ∷ xs) = insert_triple x (in_order xs)

-- ---- the refined mesh
-- the pieces of the tetrahedra that have both ends of a cut, in order
abbrev pub new_pieces : Mesh → List Cut → List (List ℕ)
new_pieces m es = flat_map (sub_all (length m.points) es) (filter (λ x. is_touched es x) m.tets)

-- the mesh refined: the points of the cuts, the tetrahedra that no cut touches and then the pieces of the others, and the tracked triples split likewise
unfoldable pub refine : Mesh → List Cut → Mesh
refine m es = record {
  points = m.points ++ map (λ e. e.at) es;
  tets = filter (λ x. not (is_touched es x)) m.tets ++ new_pieces m es;
  tracked = in_order (map rising (flat_map (sub_all (length m.points) es) m.tracked));
  made = m.made + length (new_pieces m es);
}

-- the new point lies on every side of the box that has both ends
pub record IsCutOf (points : List Point) (l : ℕ) (e : Cut) : Type 0 where
  pub ends_differ : e.u ≢ e.v
  pub first_in : e.u < length points
  pub second_in : e.v < length points
  pub on_sides : (s : Side) → IsOn l s (point_at points e.u) → IsOn l s (point_at points e.v) → IsOn l s e.at

-- ---- the laws
-- refinement keeps meshes well formed, and keeps that they weave
abbrev pub RefinementLaw : Type 0
RefinementLaw = (m : Mesh) (l : ℕ) (es : List Cut) → All (IsCutOf m.points l) es → IsWellFormed m → Weave m l → IsWellFormed (refine m es) × Weave (refine m es) l

-- a mesh that tiles weaves
abbrev pub TilingLaw : Type 0
TilingLaw = (m : Mesh) (l : ℕ) → IsWellFormed m → Tiles m l → Weave m l

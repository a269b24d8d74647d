-- The ends of a try are points.
use Rattle.std.proofs.Common.{◌≡◌, ℕ, ◌<◌, ◌&&◌, true, length, arith}
use Rattle.grid.specs.Simplices.{has}
use Rattle.grid.specs.Meshes.{Mesh, IsWellFormed}
use Rattle.mesh_types.specs.declared.tries.Try.TheVariants.{Split, Shift, Collapse, EdgeSwap}
use Rattle.mesh_types.specs.Tries.{is_candidate, tets_at_edge, tets_at_point}
use Rattle.mesh_types.proofs.ForCallers.{Cornered, split_is, collapse_is, edge_swap_is, shift_is, found, cornered_tets, edge_in}

ends_in : (m : Mesh) (u v : ℕ) → IsWellFormed m → 0 < tets_at_edge m.tets u v → (u < length m.points) × (v < length m.points)
ends_in m u v f some =
    let x = found (Cornered (length m.points)) (λ x. has x u && has x v) m.tets (cornered_tets m f) some in
    edge_in m u v f x.0 x.1 x.2

pub split_ends : (m : Mesh) (u v : ℕ) → IsWellFormed m → is_candidate m.tets (Split u v) ≡ true → (u < length m.points) × (v < length m.points)
split_ends m u v f c = ends_in m u v f (split_is m.tets u v c).1

pub collapse_ends : (m : Mesh) (u v : ℕ) → IsWellFormed m → is_candidate m.tets (Collapse u v) ≡ true → (u < length m.points) × (v < length m.points)
collapse_ends m u v f c = ends_in m u v f (collapse_is m.tets u v c).1

pub edge_swap_ends : (m : Mesh) (u v : ℕ) → IsWellFormed m → is_candidate m.tets (EdgeSwap u v) ≡ true → (u < length m.points) × (v < length m.points)
edge_swap_ends m u v f c = ends_in m u v f (three (tets_at_edge m.tets u v) (edge_swap_is m.tets u v c).1)
  where
    three : (n : ℕ) → n ≡ 3 → 0 < n
    three n e = omega arith

pub point_end : (m : Mesh) (u : ℕ) → IsWellFormed m → 0 < tets_at_point m.tets u → u < length m.points
point_end m u f some =
    let x = found (Cornered (length m.points)) (λ x. has x u) m.tets (cornered_tets m f) some in
    x.1.below u x.2

pub shift_end : (m : Mesh) (u way : ℕ) → IsWellFormed m → is_candidate m.tets (Shift u way) ≡ true → u < length m.points
shift_end m u way f c = point_end m u f (shift_is m.tets u way c).1

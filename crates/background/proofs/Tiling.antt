-- The lattice of a side and a number of cells: what holds of it within the limits.
use Rattle.std.proofs.Common.{◌≡◌, ℕ, ◌*◌, ◌/◌, ◌<◌, ◌≤ℤ◌, ℤ, pos, nat_abs, [], ◌∷◌, map, length, All, sym, subst}
use Rattle.std.specs.List.{Contains}
use Rattle.std.proofs.lemmas.List.Elements.{All-nil}
use Rattle.grid.specs.Boxes.{IsInBox}
use Rattle.grid.specs.Limits.{IsCells, IsSide}
use Rattle.grid.specs.Meshes.{IsWellFormed, IsWithinLimits, Tiles}
use Rattle.grid.specs.Simplices.{all_faces, rising}
use Rattle.mesh_types.specs.Lattice.{lattice, lattice_points, lattice_tets}
use Rattle.background.proofs.LimitLemmas.{cells_most, side_split, step_positive}
use Rattle.background.proofs.Mates.{lattice-rim}
use Rattle.background.proofs.Once.{lattice-once}
use Rattle.background.proofs.Spaced.{spaced}
use Rattle.background.proofs.Volume.{lattice-positive, lattice-volume, lattice-length}
use Rattle.background.proofs.WellFormed.{spaced-IsWellFormed, spaced-IsInBox, spaced-IsWithinLimits}

spaced-Tiles : (h n : ℕ) → 0 < h → Tiles (spaced h n) (n * h)
spaced-Tiles h n l = record {
  positive = lattice-positive h n l;
  fills = record {
    once = λ a b c. lattice-once n (a ∷ b ∷ c ∷ []);
    rim = λ a b c. lattice-rim h n (a ∷ b ∷ c ∷ []);
    volume_is = lattice-volume h n;
    tracked_are = All-nil (Contains (map rising (all_faces (lattice_tets n))));
  };
}

module _ (side : ℤ) (n : ℕ) where
  pub lattice-IsWellFormed : IsWellFormed (lattice (nat_abs side) n)
  unfolding lattice
  lattice-IsWellFormed = spaced-IsWellFormed (nat_abs side / n) n

  pub lattice-made : (lattice (nat_abs side) n).made ≡ length (lattice (nat_abs side) n).tets
  unfolding lattice
  lattice-made = sym (lattice-length n)

  pub lattice-IsWithinLimits : IsCells n → IsWithinLimits (lattice (nat_abs side) n)
  unfolding lattice
  lattice-IsWithinLimits c = spaced-IsWithinLimits (nat_abs side / n) n (cells_most n c)

  pub lattice-Tiles : IsSide side → IsCells n → pos (4 * n) ≤ℤ side → Tiles (lattice (nat_abs side) n) (nat_abs side)
  unfolding lattice
  lattice-Tiles s c h = subst (λ l. Tiles (spaced (nat_abs side / n) n) l) (side_split side n s c h) (spaced-Tiles (nat_abs side / n) n (step_positive side n s c h))

  pub lattice-IsInBox : IsSide side → IsCells n → pos (4 * n) ≤ℤ side → All (IsInBox (nat_abs side)) (lattice (nat_abs side) n).points
  unfolding lattice
  lattice-IsInBox s c h = subst (λ l. All (IsInBox l) (lattice_points (nat_abs side / n) n)) (side_split side n s c h) (spaced-IsInBox (nat_abs side / n) n)

-- What a split keeps, over plain lists: `Weave` with the tracked triples as sets of corners.
use Rattle.std.proofs.Common.{◌≡◌, ℕ, ◌*◌, ◌^◌, ◌<◌, ◌≤◌, pos, List, [], ◌∷◌}
use Rattle.std.specs.List.{count_by, All}
use Rattle.grid.specs.declared.shapes.Point.{Point}
use Rattle.grid.specs.Simplices.{all_faces, count, same_corners}
use Rattle.grid.specs.Determinants.{volume}
use Rattle.grid.specs.Boxes.{IsOnOneSide}

pub record Woven (points : List Point) (tets tracked : List (List ℕ)) (length_of : ℕ) : Type 0 where
  pub once : (a b c : ℕ) → count (a ∷ b ∷ c ∷ []) tets ≤ 1
  pub rim : (a b c : ℕ) → 0 < count (a ∷ b ∷ c ∷ []) tets → count (a ∷ c ∷ b ∷ []) tets ≡ 0 → IsOnOneSide points length_of (a ∷ b ∷ c ∷ [])
  pub volume_is : volume points tets ≡ pos (6 * length_of ^ 3)
  pub tracked_are_faces : All (λ t. 0 < count_by (λ f. same_corners t f) (all_faces tets)) tracked
  pub no_twins : (x : List ℕ) → count_by (λ y. same_corners x y) tets ≤ 1

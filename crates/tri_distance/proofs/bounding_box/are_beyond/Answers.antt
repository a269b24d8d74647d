use Rattle.std.proofs.Common.{◌≡◌, [], ◌∷◌, pos, ◌-ℤ◌, ◌<ℤ◌, inr, subst, to_z, of_z, to_z-of_z, w64}
use Rattle.grid.specs.Limits.{largest_side}
use Rattle.int_algebra.proofs.Kept.{constant, variable, ◌⊖◌, kept, kept-value}
use Rattle.tri_distance.proofs.bounding_box.are_beyond.Goals as goal

pub returns : goal.returns
returns c t =
    let low : to_z w64 (of_z w64 (pos 0 -ℤ to_z w64 (of_z w64 c.args.far))) ≡ pos 0 -ℤ c.args.far =
    kept-value (largest_side ∷ []) (c.args.far ∷ []) (c.requires.far_in, tt) (kept w64 (constant (pos 0) ⊖ kept w64 (variable 0))) tt in
    let below = c.is_above.ensures.0 t in
    inr (subst (λ (A : Type 0). A) (λ i. to_z-of_z c.ranges.x i <ℤ low i) below.0, subst (λ (A : Type 0). A) (λ i. to_z-of_z c.ranges.y i <ℤ low i) below.1, subst (λ (A : Type 0). A) (λ i. to_z-of_z c.ranges.z i <ℤ low i) below.2)

-- Numbers that a width has room for, as the code keeps them.
use Rattle.std.proofs.Common.{◌≡◌, ℕ, ◌^◌, ◌<◌, ℤ, ap, ◌∙◌, to_z, of_z, to_z-of_z, w32, w64}
use mir.Syntax.{Width}
use mir.Val.{hbits}
use Rattle.int_algebra.specs.Within.{IsWithin}
use Rattle.int_algebra.proofs.Bounds.{fits_within}
use Rattle.envelope_tree.specs.Gaps.{outside_of}

pub kept_is : (w : Width) (n : ℕ) (z : ℤ) → IsWithin n z → n < 2 ^ hbits w → to_z w (of_z w z) ≡ z
kept_is w n z h lt = to_z-of_z (fits_within w h lt)

-- a coordinate that was widened
pub widened_is : (n : ℕ) (z : ℤ) → IsWithin n z → n < 2 ^ hbits w32 → n < 2 ^ hbits w64 → to_z w64 (of_z w64 (to_z w32 (of_z w32 z))) ≡ z
widened_is n z h lt less = ap (λ y. to_z w64 (of_z w64 y)) (kept_is w32 n z h lt) ∙ kept_is w64 n z h less

pub same_outside : {o l h p i j : ℤ} → o ≡ p → l ≡ i → h ≡ j → outside_of o l h ≡ outside_of p i j
same_outside e f g = λ i. outside_of (e i) (f i) (g i)

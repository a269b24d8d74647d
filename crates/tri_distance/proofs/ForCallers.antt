-- For callers: bounds of distances, which points are beyond a triangle, and the decision of near.
pub use Rattle.tri_distance.proofs.Limits.{up_to-IsWithin, wider-IsInBox, power_at_most, box_at_most}
pub use Rattle.tri_distance.proofs.Truths.{never_is, always_is}
pub use Rattle.tri_distance.proofs.Scales.{reach-IsWithin}
pub use Rattle.tri_distance.proofs.Beyond.{x_apart, y_apart, z_apart}
pub use Rattle.tri_distance.proofs.Decisions.{near-decided}

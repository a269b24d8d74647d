-- For callers: absolute values, crossings, side planes, and signs that are opposite.
pub use Rattle.planes.proofs.PlaneLemmas.{abs_is, crossing-IsInBox, crossing-IsOn}
pub use Rattle.planes.proofs.SideLemmas.{side_plane-third}
pub use Rattle.planes.proofs.Signs.{HaveOppositeSigns-up, HaveOppositeSigns-down}

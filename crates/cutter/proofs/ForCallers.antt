-- For callers: the tetrahedra that a triangle touches, and the first with a wanted edge.
pub use Rattle.cutter.proofs.TouchedSlots.{point-kept, points-kept}
pub use Rattle.cutter.proofs.FirstSlots.{names-first, all-live}

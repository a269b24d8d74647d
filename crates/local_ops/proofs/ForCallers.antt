-- For callers: stars by the lists at points, and the first stores.
pub use Rattle.local_ops.proofs.Listed.{star-count, star-edge, star-point}
pub use Rattle.local_ops.proofs.FirstStores.{positive-first}

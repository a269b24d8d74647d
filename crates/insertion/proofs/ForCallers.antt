-- For callers: triangles in turn, and the tiling after a cut.
pub use Rattle.insertion.proofs.Tiling.{tiles-cut}
pub use Rattle.insertion.proofs.Turning.{no-turns, turns-push, range-push, on_err, first-turns}

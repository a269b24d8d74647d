-- The limits of the side of the box, and of the cells along an axis.
pub use Rattle.grid.specs.Limits.{IsCells, IsSide}

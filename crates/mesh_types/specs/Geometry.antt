-- Splitting, planes, energy and regions, as grid defines them.
pub use Rattle.grid.specs.Simplices.{put, replaced, sub}
pub use Rattle.grid.specs.Planes.{Plane, IsDegenerate, plane_of, value_of, snap_sign, side_plane, crossing}
pub use Rattle.grid.specs.Energy.{sq_edges, energy}
pub use Rattle.grid.specs.Regions.{HasLooseFace, IsOpenTo, IsOutside, AreRegions}

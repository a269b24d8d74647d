pub mod Limits
pub mod Placement
pub mod Ranges
pub mod HeightField

pub mod Bounded
pub mod Crossings
pub mod Roots
pub mod Sides

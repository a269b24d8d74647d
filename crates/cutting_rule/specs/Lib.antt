pub mod Bounds
pub mod Triangle
pub mod Edges
pub mod Packing
pub mod Section
pub mod Spread
pub mod Until
pub mod Touching

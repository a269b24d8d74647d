pub mod Meshing
pub mod Run

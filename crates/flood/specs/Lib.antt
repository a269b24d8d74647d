pub mod HalfFaces
pub mod Chains
pub mod Floods

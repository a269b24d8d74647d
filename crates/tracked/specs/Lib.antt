pub mod Keys
pub mod RimEdges
pub mod Places

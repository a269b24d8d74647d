mod LeastLemmas
pub mod RotationLemmas
mod TableLemmas
mod SharedSides
mod PassLemmas

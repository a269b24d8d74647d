mod Gather
mod FaceKinds
mod Places
mod Once
mod Spaced
mod Volume
mod Mates
pub mod Tiling
mod WellFormed
mod LimitLemmas
mod SoFar

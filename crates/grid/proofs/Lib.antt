mod Members
mod Lists
mod Below
mod Rotations
mod VectorExpressions
mod Gaps
mod EdgeLemmas
mod SideLemmas
mod Each
mod Replaced
mod Rising
pub mod ForCallers

mod KeyLemmas
mod PairLemmas
mod KeyFacts
mod Sorted
mod RimLemmas
mod PlaceLemmas
mod IndexLemmas
mod PointLemmas
pub mod ForCallers

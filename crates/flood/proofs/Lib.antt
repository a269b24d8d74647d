mod ChainLemmas
mod ConditionLemmas
mod FacetLemmas
mod ReachLemmas
mod RegionLemmas
mod Turns
mod Walks

mod MeanLemmas
mod PlaneLemmas
mod Roots
mod SideLemmas
mod Signs
pub mod ForCallers

mod Chains
mod Soups
mod Ones
mod Answering
mod Inputs
pub mod ForCallers

mod Laws
mod Numerals
mod Units
mod Clear
mod Putting
mod Going
mod Chains
mod CanSay
pub mod ForCallers

pub mod Measures
pub mod Surface
pub mod Covering
pub mod Smoothing
pub mod Attempts
pub mod Foreseen
pub mod Apart
pub mod Swaps

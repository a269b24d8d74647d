mod Ranges
mod Powers
mod Boxed
mod Measures
mod Places
mod Heights
pub mod ForCallers

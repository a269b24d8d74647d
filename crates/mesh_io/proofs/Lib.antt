pub mod Calls
mod MemFails
mod MemNames
mod MemSteps
mod ReadSoFar
mod Written

pub mod Occurrences
pub mod Keys
pub mod Pairing
pub mod Passes

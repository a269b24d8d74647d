pub mod Levels
pub mod Envelope

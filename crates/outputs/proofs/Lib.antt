mod Writing
pub mod Making
mod OneOutput

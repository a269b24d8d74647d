mod InRange
mod KeptNodes
mod Nodes
mod Reading
mod SaysText
mod OneReading
mod Keeping
pub mod ForCallers

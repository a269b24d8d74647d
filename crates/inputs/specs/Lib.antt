pub mod Readings
pub mod Texts
pub mod Placed
pub mod Answers

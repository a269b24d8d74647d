pub mod OffBox
pub mod Accepted
pub mod InFolder

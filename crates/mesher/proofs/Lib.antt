mod Certified
mod Keeping
mod Beginning
mod Ending
pub mod OneMesh

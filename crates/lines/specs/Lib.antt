pub mod Forms
pub mod Fields
pub mod Fronts
pub mod Gives
pub mod Whole
pub mod Texts

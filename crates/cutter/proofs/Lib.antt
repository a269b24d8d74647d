mod Meeting
mod Near
mod TouchedSlots
mod FirstSlots
mod SectionPlaces
pub mod ForCallers

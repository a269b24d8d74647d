pub mod Parts
pub mod Sound
pub mod Changes
pub mod Exchanges
pub mod Undoing
pub mod Forgetting
pub mod Store

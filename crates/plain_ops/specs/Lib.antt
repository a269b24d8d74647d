pub mod Below
pub mod CutMeshes
pub mod PlainResults
pub mod Targets
pub mod Befores
pub mod Afters

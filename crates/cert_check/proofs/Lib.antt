mod Places
mod Volumes
mod Keys
mod Nodes
mod Headers
mod RolledBack
mod MeshRules
mod ReportRules
mod Facts
mod Numbers
mod Turned
mod Passing
mod Renumbered
mod Accepted
mod Steps
mod Soundness
mod OneFinding
pub mod ForCallers

-- off the box
mod TwoInside
mod SideBySide
mod Coverings
-- the numbers of the file
mod Renumbered
mod NodeLists
mod Corners
-- the file
mod FewTracked
mod Placed
mod Filed
-- the report
mod Certs
mod Insertions
mod Journals
mod Parts
mod Allowed
-- both
mod Acceptable
-- in a folder
mod FieldTriples
mod InFolder
pub mod ForCallers

-- sums over lists, and the corners of simplices
mod Sums
mod Same
mod Corners
-- the split of one edge
mod Pieces
mod Opened
mod Between
mod Counts
mod Cones
mod Odd
mod Pairing
mod Volume
mod Tracked
mod Step
mod Woven
mod OneEdge
-- refinement
mod Transfer
mod Refinement
mod Kept
mod Order
mod Found
mod WellFormed
mod TripleSets
mod Weaving
-- a mesh that tiles weaves
mod Turned
mod Twins
-- one law for all exchanges of tetrahedra
mod Borders
mod Among
mod Exchange
mod Chosen
mod Searches
mod Seen
mod Holders
mod FaceCorners
mod Mapped
mod Joins
mod Puts
mod Rotated
-- the laws of tries, kind by kind
mod Candidates
mod Halves
mod Splits
mod InteriorFaces
mod Shifts
mod Collapses
mod Pairs
mod FaceSwaps
mod Rings
mod EdgeSwaps
mod TriesLaw
mod OneVerdict
mod Covered
mod Inside
mod SumsInTurn
mod Exchanged
mod Gone
mod StaysSound
-- the order of tries, and journals
mod TryOrder
mod OneJournal
mod CandidateExample
mod JournalExample
-- the laws of stars
mod Stars
-- everything is outside where nothing is tracked
mod Outside
-- the hull of three near points
mod WeightedMeans
-- the definitions at one cube
mod Example
mod TryExamples
mod OneOutcome
pub mod ForCallers

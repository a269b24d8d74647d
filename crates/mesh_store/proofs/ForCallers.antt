-- For callers: the mesh of a store, its faces, what is killed, exchanged and found.
pub use Rattle.mesh_store.proofs.KeySets.{tracked-triples}
pub use Rattle.mesh_store.proofs.FacePieces.{rising-risen}
pub use Rattle.mesh_store.proofs.LiveSlots.{live-append, live-each}
pub use Rattle.mesh_store.proofs.MeshLemmas.{well_formed, within}
pub use Rattle.mesh_store.proofs.Killing.{tets-numbers}
pub use Rattle.mesh_store.proofs.Moves.{among-filter}
pub use Rattle.mesh_store.proofs.Exchanged.{is_in-tracked}
pub use Rattle.mesh_store.proofs.FaceSearches.{Contains-among, among-Contains, triples-filter, chosen-is, at-corner-is}
pub use Rattle.mesh_store.proofs.Finding.{IsFirst, outside-is}
pub use Rattle.mesh_store.proofs.SwapMeshes.{face-first, face-second, face-corners}
pub use Rattle.mesh_store.proofs.MoveMeshes.{filter-same}

-- For callers: the parts of a triangle, and the laws of certificates.
pub use Rattle.cover.proofs.Parts.{piece_at, parts_of_four}
pub use Rattle.cover.proofs.One.{certificate_law}
pub use Rattle.cover.proofs.Decisions.{leaf_law}

-- For callers: slots that live or are dead, the numbers of slots, and what a search finds.
pub use Rattle.tet_slots.proofs.SlotLemmas.{IsTet-unused, revived, killed-dead, killed-length}
pub use Rattle.tet_slots.proofs.FoundLemmas.{has-filter}
pub use Rattle.tet_slots.proofs.NumberLemmas.{has-numbers, numbers-found}

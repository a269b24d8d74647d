-- For callers: a text is of one file, what its elements say, and that a plain file is read back.
pub use Rattle.msh_text.proofs.Reading.{elements_grow, last_number_is}
pub use Rattle.msh_text.proofs.OneReading.{one_text}
pub use Rattle.msh_text.proofs.Keeping.{keeps}

-- For callers: one finding, and what is found good is sound.
pub use Rattle.cert_check.proofs.Accepted.{written_is_sound}
pub use Rattle.cert_check.proofs.Soundness.{sound_is_good}
pub use Rattle.cert_check.proofs.OneFinding.{one_finding}

-- For callers: a text is of one report, what its lines say, and that a plain report is read back.
pub use Rattle.report_text.proofs.OneReading.{named_is, outcomes_grow, report_clear}
pub use Rattle.report_text.proofs.Keeping.{keeps}

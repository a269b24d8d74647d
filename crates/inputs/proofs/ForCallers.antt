-- For callers: each input is read in one way, how runs answer, and where a soup is placed.
pub use Rattle.inputs.proofs.Chains.{and_then, at_first, known_value, no_reads}
pub use Rattle.inputs.proofs.Soups.{placed-for, soup_fits}
pub use Rattle.inputs.proofs.Ones.{IsOne, file-IsOne, known-IsOne, then-IsOne}
pub use Rattle.inputs.proofs.Answering.{accepted_not, answers_issue, answers_memory, answers_served, differ, known_status, nothing, other_status}
pub use Rattle.inputs.proofs.Inputs.{mesh-SaysOne, report-SaysOne, soup-SaysOne, soup_file-IsOne}

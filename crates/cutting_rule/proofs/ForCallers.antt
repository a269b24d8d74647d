-- For callers: what phases cut, sections, defects in their order, and the corners by name.
pub use Rattle.cutting_rule.proofs.Steps.{flat-step, flat-end, mapped-step, mapped-end}
pub use Rattle.cutting_rule.proofs.Meeting.{le-true}
pub use Rattle.cutting_rule.proofs.Sides.{on-sides}
pub use Rattle.cutting_rule.proofs.SectionFaces.{section-is}
pub use Rattle.cutting_rule.proofs.WantedEdges.{filter-none}
pub use Rattle.cutting_rule.proofs.FewWanted.{length-wanted_in, length-once}
pub use Rattle.cutting_rule.proofs.Points.{points-in}
pub use Rattle.cutting_rule.proofs.PhaseCuts.{wanted-split, wanted_cuts-AreCuts, wanted_cuts-in, edges-split, edges-wanted, cuts-wanted, points-refined}
pub use Rattle.cutting_rule.proofs.Untouched.{may-none, untouched-none}
pub use Rattle.cutting_rule.proofs.Untils.{until-well_formed, until-weaves, until-points, within-until}
pub use Rattle.cutting_rule.proofs.Naming.{names-at, all-at, names-other, all-has, all-index}
pub use Rattle.cutting_rule.proofs.SectionTriples.{code-all, lower, section-triples}
pub use Rattle.cutting_rule.proofs.FirstDefects.{degenerate-first, full-first, inverted-first, unresolved-first, stray-first, uncovered-first, none-first}

-- For callers: corner lists and triples, sums over faces, what refining and a change keep, candidates, journals,
-- and the laws.
pub use Rattle.mesh_types.proofs.Sums.{bit, total, total-swap, count_by-total}
pub use Rattle.mesh_types.proofs.Same.{Turn, still, once, twice, turn_of, rotation_still, rotations, has-reversed, same_corners_from}
pub use Rattle.mesh_types.proofs.Corners.{det-four, corner-in}
pub use Rattle.mesh_types.proofs.Pieces.{sub-touched, sub-untouched}
pub use Rattle.mesh_types.proofs.Between.{Cornered}
pub use Rattle.mesh_types.proofs.Counts.{number, IsReady, faces-old, total-at_most, count-number}
pub use Rattle.mesh_types.proofs.Volume.{IsTri, faces-IsTri, present}
pub use Rattle.mesh_types.proofs.Step.{point_at-append, point_at-new, once-split}
pub use Rattle.mesh_types.proofs.Transfer.{HaveSameSums, sums-parted}
pub use Rattle.mesh_types.proofs.Refinement.{flat_map-flat_map, flat_map-none, sub_all-untouched, Each-map, Each-in_order, cornered_of}
pub use Rattle.mesh_types.proofs.Kept.{Each-left, Each-right, IsTet-from, refine-IsTet}
pub use Rattle.mesh_types.proofs.Order.{below_cases, below_trans, below_not, below_or, number-Ordered}
pub use Rattle.mesh_types.proofs.WellFormed.{below_each, triple_of, rising-IsTriple, IsEdge, refine-well_formed, refine-IsWellFormed}
pub use Rattle.mesh_types.proofs.TripleSets.{equal_from, equal_to, differ_from, differ_to, ordered_same, is_among, is_among-in_order, is_among-in_order_once, Each-in_order_once, in_order_once-Ordered, in_order_once-of}
pub use Rattle.mesh_types.proofs.Weaving.{refinement_law}
pub use Rattle.mesh_types.proofs.Twins.{twins-none, tiling_law}
pub use Rattle.mesh_types.proofs.Borders.{second, third, fourth}
pub use Rattle.mesh_types.proofs.Among.{Among, among-Each, among-all, among-map, among-filter, among-flat, has-among}
pub use Rattle.mesh_types.proofs.Exchange.{IsLonger, positive-longer, count-append, count-same}
pub use Rattle.mesh_types.proofs.Chosen.{Each-filter, Each-passed, filter-parted, found}
pub use Rattle.mesh_types.proofs.Searches.{found_at, any_among, filter-among, none_pass}
pub use Rattle.mesh_types.proofs.Holders.{IsWithin, faces_within}
pub use Rattle.mesh_types.proofs.FaceCorners.{count-none, no-face, count-one, has-corner}
pub use Rattle.mesh_types.proofs.Mapped.{total-map, replaced_none, all_faces-replaced}
pub use Rattle.mesh_types.proofs.Puts.{cornered-put, triple-put}
pub use Rattle.mesh_types.proofs.Rotated.{count-rotation, single_test, positive_test}
pub use Rattle.mesh_types.proofs.Candidates.{split_is, collapse_is, edge_swap_is, face_swap_is, shift_is}
pub use Rattle.mesh_types.proofs.Splits.{edge_in, cornered_tets}
pub use Rattle.mesh_types.proofs.Pairs.{owner, without-total, among-without}
pub use Rattle.mesh_types.proofs.TriesLaw.{tries_law}
pub use Rattle.mesh_types.proofs.OneVerdict.{why_at, at_place}
pub use Rattle.mesh_types.proofs.Covered.{longer_result}
pub use Rattle.mesh_types.proofs.Inside.{nat_of, IsUpTo-pos, rounded, inside_law}
pub use Rattle.mesh_types.proofs.SumsInTurn.{sum-more, IsUpTo-sum, small-fits}
pub use Rattle.mesh_types.proofs.Gone.{gone_law}
pub use Rattle.mesh_types.proofs.StaysSound.{stays_sound_law}
pub use Rattle.mesh_types.proofs.TryOrder.{before_not, before_trans, before_or, before_same, before_kind, before_point}
pub use Rattle.mesh_types.proofs.OneJournal.{last-push, candidate-at, one-journal}
pub use Rattle.mesh_types.proofs.WeightedMeans.{hull_law}
pub use Rattle.mesh_types.proofs.OneOutcome.{turns_law, one-each}

-- For callers: members and order of lists, rotations of faces, expressions of vectors, gaps, and the sides of the box.
pub use Rattle.grid.proofs.Each.{Each-weaker, Each-both, Each-append, Each-flat_map, Each-of_flat_map, Each-face, Each-tet}
pub use Rattle.grid.proofs.Replaced.{put-same, put-other, put_cases, same_bools, has_first, has_cases, has_none, has_none_from, has-replaced_new, has-replaced_old, has-replaced_other, replaced-back}
pub use Rattle.grid.proofs.Rising.{has-rising, above_none, rises_same, rising-Rises, length-rising, AreDifferent-Rises}
pub use Rattle.grid.proofs.Members.{IsIn, count_by-cons, count_by-cons_yes, count_by-cons_no, count_by-found, count_by-le, count_by-any, count_by-map, count_by-same, any-map}
pub use Rattle.grid.proofs.Lists.{has-append, has-push, take-push, has-get_or, shorter, AreDifferent-take, none-before}
pub use Rattle.grid.proofs.Below.{is_below-is_lt, slice_cmp-total, Ordered-sorted}
pub use Rattle.grid.proofs.Rotations.{IsRotation, equal3-refl, rotation-from, rotation-to, rotation-reversed, rotation-back, Same3, rotations-same, has3-cases, rotation-corner, reversed-reversed}
pub use Rattle.grid.proofs.VectorExpressions.{coordinates_then, scaled_, plus_, length_, squares_, x_, y_, z_, m_, at_, zero_, one_}
pub use Rattle.grid.proofs.Gaps.{sq_gap-weighted_gap, square_is, squares_are, product-Positive, gap_of_near}
unfoldable pub use Rattle.grid.proofs.Gaps.{weighted_gap}
pub use Rattle.grid.proofs.SideLemmas.{bit-below, side_at, side_bits-IsOn}

use Rattle.std.proofs.Common.{sym}
use Rattle.std.proofs.lemmas.List.Filters.{dedup_is}
use Rattle.std.proofs.lemmas.List.Kept.{Contains-dedup, Contains-from_dedup, IsStrictlySortedBy-dedup}
use Rattle.std.proofs.lemmas.List.Sorted.{Contains-permutation, IsPermutation-sym}
use Rattle.std.proofs.lemmas.Map.Text.{is_eq-slice_cmp}
use Rattle.grid.specs.declared.shapes.Face.{Face}
use Rattle.grid.specs.Views.{triples_of}
use Rattle.grid.proofs.ForCallers.{same_bools, slice_cmp-total, Ordered-sorted}
use Rattle.mesh_types.proofs.ForCallers.{is_among}
use Rattle.tracked.proofs.ForCallers.{same-equal, same_face-IsEquivalence}
use Rattle.mesh_store.specs.Changes.{face_of}
use Rattle.mesh_store.proofs.FaceSearches.{Contains-among, among-Contains}
use Rattle.mesh_store.proofs.touching.rise.Goals as goal

pub returns-clause-ordered : goal.returns-clause-ordered
returns-clause-ordered c =
    rw (dedup_is _ _ _ c.dedup.ensures.filtered) (Ordered-sorted (λ (f : Face). f.0) _ (IsStrictlySortedBy-dedup (slice_cmp-total (λ (f : Face). f.0)) (λ f g. sym (is_eq-slice_cmp f.0 g.0)) _ c.sort_unstable.ensures.sorted))

pub returns-clause-same : goal.returns-clause-same
returns-clause-same c x =
    let is = dedup_is _ _ _ c.dedup.ensures.filtered in
    let moved = c.sort_unstable.ensures.permutation in
    same_bools (is_among x (triples_of c.dedup.new.self.items)) (is_among x (triples_of c.args.faces.now.items))
    (λ h. among-Contains x c.args.faces.now.items (Contains-permutation _ _ (face_of x) (IsPermutation-sym _ _ moved) (Contains-from_dedup _ _ (face_of x) (rw is at (Contains-among x c.dedup.new.self.items h)))))
    (λ h. among-Contains x c.dedup.new.self.items (rw is (Contains-dedup same_face-IsEquivalence same-equal _ (face_of x) (Contains-permutation _ _ (face_of x) moved (Contains-among x c.args.faces.now.items h)))))

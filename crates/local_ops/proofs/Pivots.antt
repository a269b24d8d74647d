-- A triple that a try tracks anew has the pivot.
use Rattle.std.proofs.Common.{◌≡◌, ◌⊎◌, ℕ, true, ◌&&◌, not, List, [], ◌∷◌, length, map, Option, None, Some, sym, ◌∙◌, subst, inl, inr}
use Rattle.std.specs.List.{AllByRecursion as Each, filter, find, flat_map}
use Rattle.std.proofs.lemmas.Bool.{cases_Bool}
use Rattle.std.proofs.lemmas.List.Elements.{recursion_from_All}
use Rattle.grid.specs.declared.shapes.Point.{Point}
use Rattle.grid.specs.Simplices.{has, replaced, sub, rising, Rises}
use Rattle.grid.specs.Meshes.{Mesh, IsTriple, IsWellFormed}
use Rattle.mesh_types.specs.declared.tries.Try.{Try}
use Rattle.mesh_types.specs.declared.tries.Try.TheVariants.{Split, Shift, Collapse, FaceSwap, EdgeSwap}
use Rattle.mesh_types.specs.Refines.{sub_all, refine}
use Rattle.mesh_types.specs.Results.{middle_cut, split, target, shift, collapse, first_outside, is_across, swapped_at, swapped_across, swapped_from, face_swap, unhinged_at, unhinged, edge_swap, result_of}
use Rattle.mesh_types.specs.Tracking.{in_order_once}
use Rattle.grid.proofs.ForCallers.{Each-weaker, Each-both, Each-of_flat_map, has-rising, has-replaced_new}
use Rattle.mesh_types.proofs.ForCallers.{Among, among-all, Each-filter, replaced_none, flat_map-none, Each-map, Each-in_order, Each-in_order_once}
use Rattle.mesh_store.proofs.ForCallers.{rising-risen}
use Rattle.local_ops.specs.Attempts.{pivot_of}

-- t was tracked or has k
abbrev pub IsOldOrAt : List (List ℕ) → ℕ → List ℕ → Type 0
IsOldOrAt tracked k t = Among tracked t ⊎ (has t k ≡ true)

-- what is risen already stays
old_one : (tracked : List (List ℕ)) (k : ℕ) (t : List ℕ) → Among tracked t → Rises t → IsOldOrAt tracked k (rising t)
old_one tracked k t a r = inl (subst (Among tracked) (sym (rising-risen t r)) a)

-- with k in place of u
replaced-one : (tracked : List (List ℕ)) (u k : ℕ) (t : List ℕ) → Among tracked t → Rises t → IsOldOrAt tracked k (rising (replaced u k t))
replaced-one tracked u k t a r = elim (cases_Bool (has t u)) [
  | inl e ↦ inr (has-rising (replaced u k t) k ∙ has-replaced_new u k t e)
  | inr e ↦ subst (λ x. IsOldOrAt tracked k (rising x)) (sym (replaced_none u k t e)) (old_one tracked k t a r)
]

-- the pieces of t
pieces-of : (tracked : List (List ℕ)) (u v k : ℕ) (t : List ℕ) → Among tracked t × Rises t → Each (λ x. IsOldOrAt tracked k (rising x)) (sub u v k t)
pieces-of tracked u v k t h = elim (cases_Bool (has t u && has t v)) [
  | inl e ↦ rw e (replaced-one tracked u k t h.0 h.1, (replaced-one tracked v k t h.0 h.1, tt))
  | inr e ↦ rw e (old_one tracked k t h.0 h.1, tt)
]

module _ (m : Mesh) (w : IsWellFormed m) where
  start : Each (λ t. Among m.tracked t × Rises t) m.tracked
  start = Each-both (Among m.tracked) Rises m.tracked (among-all m.tracked) (Each-weaker (IsTriple (length m.points)) Rises (λ t h. h.rises) m.tracked (recursion_from_All (IsTriple (length m.points)) m.tracked w.triples_are))

  same : (k : ℕ) → Each (IsOldOrAt m.tracked k) m.tracked
  same k = Each-weaker (Among m.tracked) (IsOldOrAt m.tracked k) (λ t a. inl a) m.tracked (among-all m.tracked)

  put_in : (u k : ℕ) (ts : List (List ℕ)) → Each (λ t. Among m.tracked t × Rises t) ts → Each (IsOldOrAt m.tracked k) (in_order_once (map (λ t. rising (replaced u k t)) ts))
  put_in u k ts h = Each-in_order_once (IsOldOrAt m.tracked k) (map (λ t. rising (replaced u k t)) ts)
      (Each-map (λ t. Among m.tracked t × Rises t) (IsOldOrAt m.tracked k) (λ t. rising (replaced u k t)) (λ t a. replaced-one m.tracked u k t a.0 a.1) ts h)

  of_split : (u v : ℕ) → Each (IsOldOrAt m.tracked (length m.points)) (split m u v).mesh.tracked
  unfolding split refine
  of_split u v =
      let k = length m.points in
      let pieces = sub_all k (middle_cut m u v) in
      Each-in_order (IsOldOrAt m.tracked k) (map rising (flat_map pieces m.tracked))
      (Each-map (λ x. IsOldOrAt m.tracked k (rising x)) (IsOldOrAt m.tracked k) rising (λ x h. h) (flat_map pieces m.tracked)
      (Each-of_flat_map (λ t. Among m.tracked t × Rises t) (λ x. IsOldOrAt m.tracked k (rising x)) pieces (λ t h. subst (Each (λ x. IsOldOrAt m.tracked k (rising x))) (sym (flat_map-none (sub u v k t))) (pieces-of m.tracked u v k t h)) m.tracked start))

  of_shift : (u : ℕ) (p : Point) → Each (IsOldOrAt m.tracked (length m.points)) (shift m u p).mesh.tracked
  unfolding shift
  of_shift u p = put_in u (length m.points) m.tracked start

  of_collapse : (u v : ℕ) → Each (IsOldOrAt m.tracked v) (collapse m u v).mesh.tracked
  unfolding collapse
  of_collapse u v =
      put_in u v (filter (λ t. not (has t u && has t v)) m.tracked) (Each-filter (λ t. Among m.tracked t × Rises t) (λ t. not (has t u && has t v)) m.tracked start)

  of_face_swap : (a b c k : ℕ) → Each (IsOldOrAt m.tracked k) (face_swap m a b c).mesh.tracked
  unfolding face_swap
  of_face_swap a b c k = from (find _ m.tets)
    where
      at : (x y : List ℕ) (o : Option ℕ) → Each (IsOldOrAt m.tracked k) (swapped_at m a b c x y o).mesh.tracked
      at x y None = same k
      at x y (Some e) = same k

      across : (x : List ℕ) (o : Option (List ℕ)) → Each (IsOldOrAt m.tracked k) (swapped_across m a b c x o).mesh.tracked
      across x None = same k
      across x (Some y) = at x y (first_outside x y)

      from : (o : Option (List ℕ)) → Each (IsOldOrAt m.tracked k) (swapped_from m a b c o).mesh.tracked
      from None = same k
      from (Some x) = across x (find (is_across (a ∷ b ∷ c ∷ []) x) m.tets)

  of_edge_swap : (u v k : ℕ) → Each (IsOldOrAt m.tracked k) (edge_swap m u v).mesh.tracked
  unfolding edge_swap
  of_edge_swap u v k = from (filter _ m.tets)
    where
      at : (gone : List (List ℕ)) (x : List ℕ) (o : Option ℕ) → Each (IsOldOrAt m.tracked k) (unhinged_at m u v gone x o).mesh.tracked
      at gone x None = same k
      at gone x (Some c) = same k

      from : (gone : List (List ℕ)) → Each (IsOldOrAt m.tracked k) (unhinged m u v gone).mesh.tracked
      from [] = same k
      from (x ∷ others) = at (x ∷ others) x (first_outside x (flat_map (λ y. y) others))

  pub anew : (l : ℕ) (t : Try) → Each (IsOldOrAt m.tracked (pivot_of (length m.points) t)) (result_of l m t).mesh.tracked
  anew l (Split u v) = of_split u v
  anew l (Shift u way) = of_shift u (target l m u way)
  anew l (Collapse u v) = of_collapse u v
  anew l (FaceSwap a b c) = of_face_swap a b c (length m.points)
  anew l (EdgeSwap u v) = of_edge_swap u v (length m.points)

-- What a try replaces is of the mesh, and positive.
use Rattle.std.proofs.Common.{◌≡◌, ℕ, ◌||◌, ◌&&◌, List, [], ◌∷◌, Option, None, Some, All, length, refl}
use Rattle.std.specs.List.{filter, find, flat_map, AllByRecursion as Each}
use Rattle.std.proofs.lemmas.List.Elements.{All-from_recursion, recursion_from_All}
use Rattle.grid.specs.declared.shapes.Point.{Point}
use Rattle.grid.specs.Determinants.{IsPositive}
use Rattle.grid.specs.Simplices.{has}
use Rattle.grid.specs.Meshes.{Mesh, IsWellFormed}
use Rattle.mesh_types.specs.declared.tries.Try.{Try}
use Rattle.mesh_types.specs.declared.tries.Try.TheVariants.{Split, Shift, Collapse, FaceSwap, EdgeSwap}
use Rattle.mesh_types.specs.Refines.{is_touched}
use Rattle.mesh_types.specs.Results.{middle_cut, split, target, shift, collapse, has_face, first_outside, is_across, swapped_at, swapped_across, swapped_from, face_swap, unhinged_at, unhinged, edge_swap, result_of}
use Rattle.mesh_types.specs.Journals.{AllPositive}
use Rattle.mesh_types.proofs.ForCallers.{Among, among-Each, Cornered, Each-filter, longer_result, positive-longer, found_at, cornered_tets}

module _ (m : Mesh) (P : List ℕ → Type 0) (h : Each P m.tets) where
  by_split : (u v : ℕ) → Each P (split m u v).gone
  unfolding split
  by_split u v = Each-filter P (is_touched (middle_cut m u v)) m.tets h

  by_shift : (u : ℕ) (p : Point) → Each P (shift m u p).gone
  unfolding shift
  by_shift u p = Each-filter P (λ x. has x u) m.tets h

  by_collapse : (u v : ℕ) → Each P (collapse m u v).gone
  unfolding collapse
  by_collapse u v = Each-filter P (λ x. has x u) m.tets h

  by_face_swap : (a b c : ℕ) → Each P (face_swap m a b c).gone
  unfolding face_swap
  by_face_swap a b c = from (find (λ x. has_face (a ∷ b ∷ c ∷ []) x || has_face (a ∷ c ∷ b ∷ []) x) m.tets) (λ x e. (found_at (λ x. has_face (a ∷ b ∷ c ∷ []) x || has_face (a ∷ c ∷ b ∷ []) x) m.tets x e).0)
    where
      at : (x y : List ℕ) (o : Option ℕ) → P x → P y → Each P (swapped_at m a b c x y o).gone
      at x y None p q = tt
      at x y (Some e) p q = (p, (q, tt))

      across : (x : List ℕ) → P x → (o : Option (List ℕ)) → ((y : List ℕ) → o ≡ Some y → Among m.tets y) → Each P (swapped_across m a b c x o).gone
      across x p None i = tt
      across x p (Some y) i = at x y (first_outside x y) p (among-Each P m.tets y h (i y refl))

      from : (o : Option (List ℕ)) → ((x : List ℕ) → o ≡ Some x → Among m.tets x) → Each P (swapped_from m a b c o).gone
      from None i = tt
      from (Some x) i = across x (among-Each P m.tets x h (i x refl)) (find (is_across (a ∷ b ∷ c ∷ []) x) m.tets) (λ y e. (found_at (is_across (a ∷ b ∷ c ∷ []) x) m.tets y e).0)

  by_edge_swap : (u v : ℕ) → Each P (edge_swap m u v).gone
  unfolding edge_swap
  by_edge_swap u v = from (filter (λ x. has x u && has x v) m.tets) (Each-filter P (λ x. has x u && has x v) m.tets h)
    where
      at : (gone : List (List ℕ)) (x : List ℕ) (o : Option ℕ) → Each P gone → Each P (unhinged_at m u v gone x o).gone
      at gone x None p = tt
      at gone x (Some c) p = p

      from : (gone : List (List ℕ)) → Each P gone → Each P (unhinged m u v gone).gone
      from [] p = tt
      from (x ∷ others) p = at (x ∷ others) x (first_outside x (flat_map (λ y. y) others)) p

  each-gone : (l : ℕ) (t : Try) → Each P (result_of l m t).gone
  each-gone l (Split u v) = by_split u v
  each-gone l (Shift u way) = by_shift u (target l m u way)
  each-gone l (Collapse u v) = by_collapse u v
  each-gone l (FaceSwap a b c) = by_face_swap a b c
  each-gone l (EdgeSwap u v) = by_edge_swap u v

pub gone-positive : (l : ℕ) (m : Mesh) (t : Try) → IsWellFormed m → AllPositive m → All (IsPositive (result_of l m t).mesh.points) (result_of l m t).gone
gone-positive l m t f p =
    let r = result_of l m t in
    All-from_recursion (IsPositive r.mesh.points) r.gone
    (positive-longer m.points r.mesh.points (longer_result l m t) r.gone
    (each-gone m (Cornered (length m.points)) (cornered_tets m f) l t)
    (each-gone m (IsPositive m.points) (recursion_from_All (IsPositive m.points) m.tets p) l t))

-- An insertion keeps that the mesh tiles: whatever the edges that were cut, since refinement keeps that the mesh weaves, and no tetrahedron is inverted.
use Rattle.std.proofs.Common.{◌≡◌, ℕ, Bool, List, [], ◌∷◌, ◌++◌, map, All, sym, subst, inl, inr}
use Rattle.std.specs.List.{Contains, filter, AllByRecursion as Each}
use Rattle.std.proofs.lemmas.Bool.{cases_Bool}
use Rattle.std.proofs.lemmas.List.Elements.{All-from_recursion, recursion_from_All, All-contains_itself}
use Rattle.grid.specs.declared.shapes.Tri.{Tri}
use Rattle.grid.specs.Determinants.{IsPositive}
use Rattle.grid.specs.Meshes.{Mesh, IsWellFormed, Weave, Tiles}
use Rattle.grid.specs.Simplices.{all_faces, rising}
use Rattle.mesh_types.specs.Phases.{section, is_section_face}
use Rattle.mesh_types.specs.Tracking.{in_order_once, with_tracked}
use Rattle.grid.proofs.ForCallers.{Each-append}
use Rattle.mesh_types.proofs.ForCallers.{Each-in_order_once, tiling_law}
use Rattle.cutting_rule.specs.Until.{until}
use Rattle.cutting_rule.proofs.ForCallers.{until-weaves}

-- a mesh that weaves, whose tetrahedra are positive, tiles with more of its faces tracked
pub tiles-tracked : (n : Mesh) (fs : List (List ℕ)) (l : ℕ) → Weave n l → All (IsPositive n.points) n.tets → Each (Contains (map rising (all_faces n.tets))) fs → Tiles (with_tracked n fs) l
unfolding with_tracked
tiles-tracked n fs l w positive faces = record {
  positive = positive;
  fills = record {
    once = w.fills.once;
    rim = w.fills.rim;
    volume_is = w.fills.volume_is;
    tracked_are = All-from_recursion (Contains (map rising (all_faces n.tets))) (in_order_once (n.tracked ++ fs))
        (Each-in_order_once (Contains (map rising (all_faces n.tets))) (n.tracked ++ fs)
        (Each-append (Contains (map rising (all_faces n.tets))) n.tracked fs (recursion_from_All (Contains (map rising (all_faces n.tets))) n.tracked w.fills.tracked_are) faces));
  };
}

each-risen : (P : List ℕ → Type 0) (test : List ℕ → Bool) (xs : List (List ℕ)) → Each P (map rising xs) → Each P (map rising (filter test xs))
each-risen P test [] h = tt
each-risen P test (x ∷ xs) h = elim (cases_Bool (test x)) [
  | inl e ↦ rw e (h.0, each-risen P test xs h.1)
  | inr e ↦ rw e (each-risen P test xs h.1)
]

section-faces : (n : Mesh) (t : Tri) → Each (Contains (map rising (all_faces n.tets))) (section n t)
unfolding section
section-faces n t =
    let P = Contains (map rising (all_faces n.tets)) in
    Each-in_order_once P (map rising (filter (is_section_face n.points t) (all_faces n.tets)))
    (each-risen P (is_section_face n.points t) (all_faces n.tets) (recursion_from_All P (map rising (all_faces n.tets)) (All-contains_itself (map rising (all_faces n.tets)))))

pub tiles-cut : (m n : Mesh) (t : Tri) (l : ℕ) → IsWellFormed m → Tiles m l → n ≡ until m t 4 → All (IsPositive n.points) n.tets → Tiles (with_tracked n (section n t)) l
tiles-cut m n t l w h e positive = tiles-tracked n (section n t) l (subst (λ (x : Mesh). Weave x l) (sym e) (until-weaves m t l 4 w (tiling_law m l w h))) positive (section-faces n t)

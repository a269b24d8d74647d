-- The law of refinement.
use Rattle.std.proofs.Common.{ℕ, map, length}
use Rattle.std.specs.List.{Contains}
use Rattle.std.proofs.lemmas.List.Elements.{All-from_recursion, recursion_from_All, All-weaker}
use Rattle.grid.specs.Simplices.{all_faces, rising, IsTet}
use Rattle.grid.specs.Meshes.{Mesh, IsTriple, IsWellFormed, Weave}
use Rattle.mesh_types.specs.Refines.{refine, RefinementLaw}
use Rattle.mesh_types.proofs.Woven.{Woven}
use Rattle.grid.proofs.ForCallers.{Each-weaker, Each-both}
use Rattle.mesh_types.proofs.Between.{Cornered}
use Rattle.mesh_types.proofs.Tracked.{IsFaceOf}
use Rattle.mesh_types.proofs.Refinement.{cornered_of, refine-Woven}
use Rattle.mesh_types.proofs.Found.{rising_face, IsFaceOf-from_Contains}
use Rattle.mesh_types.proofs.WellFormed.{refine-IsWellFormed}

woven_of : (m : Mesh) (l : ℕ) → Weave m l → Woven m.points m.tets m.tracked l
woven_of m l w = record {
  once = w.fills.once;
  rim = w.fills.rim;
  volume_is = w.fills.volume_is;
  tracked_are_faces = All-weaker (Contains (map rising (all_faces m.tets))) (IsFaceOf m.tets) (IsFaceOf-from_Contains m.tets) m.tracked w.fills.tracked_are;
  no_twins = w.no_twins;
}

weave_from : (m : Mesh) (l : ℕ) → IsWellFormed m → Woven m.points m.tets m.tracked l → Weave m l
weave_from m l f w =
    let k = length m.points in
    let tets = Each-weaker (IsTet k) (Cornered k) (cornered_of k) m.tets (recursion_from_All (IsTet k) m.tets f.tets_are) in
    record {
      fills = record {
        once = w.once;
        rim = w.rim;
        volume_is = w.volume_is;
        tracked_are = All-from_recursion (Contains (map rising (all_faces m.tets))) m.tracked
            (Each-weaker (λ t. IsTriple k t × IsFaceOf m.tets t) (Contains (map rising (all_faces m.tets))) (λ t h. rising_face k m.tets t tets h.0.rises h.1) m.tracked
            (Each-both (IsTriple k) (IsFaceOf m.tets) m.tracked (recursion_from_All (IsTriple k) m.tracked f.triples_are) (recursion_from_All (IsFaceOf m.tets) m.tracked w.tracked_are_faces)));
      };
      no_twins = w.no_twins;
    }

pub refinement_law : RefinementLaw
refinement_law m l es cuts f w =
    let g = refine-IsWellFormed m l es cuts f in
    (g, weave_from (refine m es) l g (refine-Woven m l es f.tets_are cuts (woven_of m l w)))

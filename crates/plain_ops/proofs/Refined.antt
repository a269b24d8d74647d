-- A refined mesh by its parts.
use Rattle.std.proofs.Common.{◌≡◌, ℕ, ◌+◌, not, List, ◌++◌, length, map, ◌∙◌, ap}
use Rattle.std.specs.List.{filter, flat_map}
use Rattle.grid.specs.Simplices.{rising}
use Rattle.grid.specs.Meshes.{Mesh}
use Rattle.mesh_types.specs.declared.cut.Cut.{Cut}
use Rattle.mesh_types.specs.Refines.{is_touched, sub_all, in_order, refine}

-- the pieces of the touched tetrahedra, for new points numbered from k on
abbrev pub pieces_from : Mesh → List Cut → ℕ → List (List ℕ)
pieces_from m cuts k = flat_map (sub_all k cuts) (filter (λ x. is_touched cuts x) m.tets)

pub refined : (m : Mesh) (cuts : List Cut) (k : ℕ) (new : Mesh) → k ≡ length m.points → new.points ≡ m.points ++ map (λ e. e.at) cuts → new.tets ≡ filter (λ x. not (is_touched cuts x)) m.tets ++ pieces_from m cuts k → new.tracked ≡ in_order (map rising (flat_map (sub_all k cuts) m.tracked)) → new.made ≡ m.made + length (pieces_from m cuts k) → new ≡ refine m cuts
unfolding refine
refined m cuts k new first points tets tracked made =
    let tets_path = tets ∙ ap (λ n. filter (λ x. not (is_touched cuts x)) m.tets ++ pieces_from m cuts n) first in
    let tracked_path = tracked ∙ ap (λ n. in_order (map rising (flat_map (sub_all n cuts) m.tracked))) first in
    let made_path = made ∙ ap (λ n. m.made + length (pieces_from m cuts n)) first in
    λ i. record { points = points i; tets = tets_path i; tracked = tracked_path i; made = made_path i }

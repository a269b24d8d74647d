use Rattle.std.proofs.Common.{◌≡◌, Bool, None, drop}
use Rattle.std.specs.List.{filter, flat_map}
use Rattle.grid.specs.Views.{corners_of}
use Rattle.mesh_types.specs.declared.tries.Try.{Try}
use Rattle.mesh_types.specs.Tries.{is_candidate}
use Rattle.improve.specs.Search.{lowest, tries_at_tet}
use Rattle.improve.proofs.listing.list_tries.Given as goal

abbrev pub invariant-loop-tet : goal.invariant-loop-tet
invariant-loop-tet l = (p : Try → Bool) →
    lowest p (lowest p None l.tries.items) (filter (is_candidate (corners_of l.star)) (flat_map (tries_at_tet l.kind l.u) (corners_of (drop l.tet-index l.star))))
    ≡ lowest p None (filter (is_candidate (corners_of l.star)) (flat_map (tries_at_tet l.kind l.u) (corners_of l.star)))

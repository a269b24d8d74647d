use Rattle.std.proofs.Common.{◌≡◌, Bool, None, drop}
use Rattle.std.specs.List.{filter, flat_map}
use Rattle.grid.specs.Views.{corners_of}
use Rattle.mesh_types.specs.declared.tries.Try.{Try}
use Rattle.mesh_types.specs.Tries.{is_candidate}
use Rattle.improve.specs.Search.{lowest, tries_at_corner, tries_at_tet}
use Rattle.improve.proofs.listing.push_of_tet.Given as goal

abbrev pub invariant-loop-v : goal.invariant-loop-v
invariant-loop-v l = (p : Try → Bool) →
    lowest p (lowest p None l.tries.items) (filter (is_candidate (corners_of l.star)) (flat_map (tries_at_corner l.kind l.u l.fn.tet.0) (drop l.v-index l.fn.tet.0)))
    ≡ lowest p (lowest p None l.fn.tries.items) (filter (is_candidate (corners_of l.star)) (tries_at_tet l.kind l.u l.fn.tet.0))

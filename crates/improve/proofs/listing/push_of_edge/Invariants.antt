use Rattle.std.proofs.Common.{◌≡◌, Bool, None, drop, map}
use Rattle.std.specs.List.{filter}
use Rattle.mesh_types.specs.declared.tries.Try.{Try}
use Rattle.mesh_types.specs.declared.tries.Try.TheVariants.{FaceSwap}
use Rattle.grid.specs.Views.{corners_of}
use Rattle.mesh_types.specs.Tries.{is_candidate}
use Rattle.improve.specs.Search.{lowest}
use Rattle.improve.proofs.listing.push_of_edge.Given as goal

abbrev pub invariant-loop-w : goal.invariant-loop-w
invariant-loop-w l = (p : Try → Bool) →
    lowest p (lowest p None l.tries.items) (filter (is_candidate (corners_of l.star)) (map (λ w. FaceSwap l.u l.v w) (drop l.w-index l.fn.tet.0)))
    ≡ lowest p (lowest p None l.fn.tries.items) (filter (is_candidate (corners_of l.star)) (map (λ w. FaceSwap l.u l.v w) l.fn.tet.0))

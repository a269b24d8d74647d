use Rattle.std.proofs.Common.{◌++◌, ap, ap₂, ◌∙◌}
use Rattle.std.proofs.lemmas.List.{map-append}
use Rattle.mesh_types.specs.Lattice.{cube}
use Rattle.mesh_types.specs.Views.{corners_of}
use Rattle.background.proofs.SoFar.{so_far-more}
use Rattle.background.proofs.subdivision.tets.Goals as goal

pub loop-i-preserved : goal.loop-i-preserved
loop-i-preserved c =
    ap corners_of c.in_ok-extend_from_slice.ensures.items
    ∙ map-append (λ t. t.0) c.loop-i.tets.items c.cube_tets.result
    ∙ ap₂ ◌++◌ c.loop-i.invariant c.cube_tets.ensures
    ∙ so_far-more (cube c.args.cells) c.args.cells c.loop-i.i c.loop-j.j c.loop-k.k

use Rattle.std.proofs.Common.{sym, ◌∙◌, ◌++◌, List}
use Rattle.std.proofs.lemmas.List.{at_drop_more}
use Rattle.std.specs.List.{filter, flat_map}
use Rattle.grid.specs.declared.shapes.Tet.{Tet}
use Rattle.grid.specs.Views.{corners_of}
use Rattle.mesh_types.specs.Refines.{is_touched, sub_all}
use Rattle.plain_ops.proofs.Appended.{pieces_step}
use Rattle.plain_ops.proofs.refining.pieces_of.Goals as goal

pub loop-tet-preserved : goal.loop-tet-preserved
loop-tet-preserved c =
    pieces_step (sub_all c.args.first c.args.cuts.now) (λ x. is_touched c.args.cuts.now x) _ (corners_of _) (corners_of c.loop-tet.all.items) (corners_of c.push_pieces.new.all.items) _
    c.in_ok-push_pieces.ensures
    (sym (at_drop_more (λ (ts : List Tet). corners_of c.loop-tet.all.items ++ flat_map (sub_all c.args.first c.args.cuts.now) (filter (λ x. is_touched c.args.cuts.now x) (corners_of ts))) c.args.tets.now c.loop-tet.tet-index _ c.loop-tet-test.true) ∙ c.loop-tet.invariant)

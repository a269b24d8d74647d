use Rattle.std.proofs.Common.{◌∙◌}
use Rattle.std.specs.List.{list_all}
use Rattle.grid.specs.Views.{corners_of}
use Rattle.plain_ops.specs.Afters.{has_single_faces}
use Rattle.plain_ops.specs.PlainResults.{result_in}
use Rattle.plain_ops.proofs.SingleFaces.{single_is}
use Rattle.plain_ops.proofs.after.is_single.Goals as goal

pub returns : goal.returns
returns c =
    single_is (result_in c.args.made.now) c.are_single.result
    (c.are_single.ensures ∙ (λ i. list_all (has_single_faces (corners_of (c.as_slice.ensures i))) (corners_of (c.deref.ensures.value i))))

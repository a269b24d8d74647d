use Rattle.std.proofs.Common.{◌∙◌, ap}
use Rattle.mesh_io.specs.MemPlace.{put}
use Rattle.mesh_io.proofs.MemNames.{slice_set-put}
use Rattle.mesh_io.proofs.mem_place.empty.Goals as goal

pub returns : goal.returns
returns c =
    slice_set-put c.args.files.now.items c.args.at _ c.index_mut.result.now c.requires (ap (λ f. f.name) c.index_mut.ensures.value)
    ∙ ap (put c.args.files.now.items c.args.at) c.clear.ensures

use Rattle.std.proofs.Common.{◌++◌, ◌∙◌, ap, sym}
use Rattle.mesh_io.specs.MemPlace.{put}
use Rattle.mesh_io.proofs.MemNames.{slice_set-put, bytes_at-get_or}
use Rattle.std.proofs.lemmas.Result.{on_ok_weaker}
use Rattle.mesh_io.proofs.mem_place.append.Goals as goal

pub returns-clause-ok : goal.returns-clause-ok
returns-clause-ok c =
    let files = c.args.files.now.items in
    let old = c.index_mut.result.now in
    let bytes_is = bytes_at-get_or files c.args.at old c.requires ∙ ap (λ f. f.bytes) (sym c.index_mut.ensures.value) in
    on_ok_weaker c.extend_from_slice.result (λ appended. slice_set-put files c.args.at _ old c.requires (ap (λ f. f.name) c.index_mut.ensures.value) ∙ ap (put files c.args.at) (appended ∙ ap (λ bs. bs ++ c.args.bytes.now) (sym bytes_is))) c.extend_from_slice.ensures.ok

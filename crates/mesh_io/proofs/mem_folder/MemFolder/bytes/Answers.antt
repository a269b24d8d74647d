use Rattle.std.proofs.Common.{◌∙◌, ap, subst, sym, Some}
use Rattle.mesh_io.specs.MemFiles.{lookup}
use Rattle.mesh_io.specs.MemPlace.{HasName}
use Rattle.mesh_io.specs.MemState.{MemState}
use Rattle.mesh_io.proofs.MemNames.{lookup-name_at, bytes_at-get_or}
use Rattle.mesh_io.proofs.mem_folder.MemFolder.bytes.Goals as goal

pub returns-in-Some : goal.returns-in-Some
returns-in-Some c =
    let files = c.self.inside.files.items in
    let has : HasName files c.in-Some.i c.args.name.now = subst (λ fs. HasName fs c.in-Some.i c.args.name.now) c.deref.ensures.value c.in-Some.ensures in
    ap (λ (m : MemState). lookup m.files c.args.name.now) (sym c.self.view_is) ∙ ap (lookup files) (sym has.1) ∙ lookup-name_at files c.in-Some.i c.self.invariant.names has.0
    ∙ ap Some (bytes_at-get_or files c.in-Some.i c.index.result.now has.0 ∙ ap (λ f. f.bytes) (sym c.index.ensures) ∙ sym c.as_slice.ensures)

use Rattle.std.proofs.Common.{◌≡◌, ◌∙◌, ap, sym}
use Rattle.std.proofs.lemmas.Slice.Eq.{bytes_eq-Decides}
use Rattle.mesh_io.proofs.MemNames.{name_at-get_or}
use Rattle.mesh_io.proofs.mem_place.find.Goals as goal

pub returns-then-eq : goal.returns-then-eq
returns-then-eq c =
    let same : c.as_str.result.now ≡ c.args.name.now = (bytes_eq-Decides c.as_str.result.now c.args.name.now).0 (sym c.eq.ensures ∙ c.if-eq.true) in
    (c.loop-i-test.true, name_at-get_or c.args.files.now c.loop-i.i c.index-files-i.result c.loop-i-test.true ∙ ap (λ f. f.name) (sym c.index-files-i.is) ∙ sym c.as_str.ensures ∙ same)

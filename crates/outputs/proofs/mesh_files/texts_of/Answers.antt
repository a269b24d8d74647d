use Rattle.std.proofs.Common.{◌∙◌, ap, length, ◌++◌}
use Rattle.std.proofs.lemmas.List.{length-map}
use Rattle.grid.specs.declared.shapes.Tet.{Tet}
use Rattle.mesh_types.specs.Views.{mesh_of}
use Rattle.msh_text.specs.declared.file_mesh.MshMesh.{MshMesh}
use Rattle.outputs.specs.MeshFiles.{files_of}
use Rattle.outputs.specs.Summary.{summary_line}
use Rattle.outputs.proofs.Making.{few-tets, tets-in_range, tracked-in_range, file-digits, texts_are}
use Rattle.outputs.proofs.mesh_files.texts_of.Goals as goal

pub outside-requires : goal.outside-requires
outside-requires c = rw c.as_slice.ensures (few-tets c.args.made.mesh c.requires.meshed.well_formed c.requires.meshed.within)

pub msh_of-requires-clause-tets : goal.msh_of-requires-clause-tets
msh_of-requires-clause-tets c = tets-in_range (mesh_of c.args.made.mesh) c.requires.meshed.well_formed

pub msh_of-requires-clause-tracked : goal.msh_of-requires-clause-tracked
msh_of-requires-clause-tracked c = tracked-in_range (mesh_of c.args.made.mesh) c.requires.meshed.well_formed

pub msh_of-requires-clause-few_points : goal.msh_of-requires-clause-few_points
msh_of-requires-clause-few_points c = c.requires.meshed.within.points_few

pub msh_of-requires-clause-one_each : goal.msh_of-requires-clause-one_each
msh_of-requires-clause-one_each c =
    ap length c.deref.ensures.value ∙ (c.in_ok-outside.ensures.one_each ∙ (length-map c.as_slice.result.now (λ (t : Tet). t.0) ∙ ap length c.as_slice.ensures))

pub push_files-requires-clause-digits : goal.push_files-requires-clause-digits
push_files-requires-clause-digits c =
    file-digits c.args.asked c.args.soup.now c.args.made c.deref.result.now c.in_ok-file.file c.requires.asked (rw c.unwrap_or-digits.ensures at c.in_ok-file.ensures)

pub returns : goal.returns
returns c =
    let asked = c.args.asked in
    let names = c.args.names in
    let soup = c.args.soup.now in
    let made = c.args.made in
    let first = c.args.first.items in
    let regions = c.in_ok-outside.outside.items in
    let file_is = rw (c.deref.ensures.value, c.unwrap_or-digits.ensures) at c.in_ok-file.ensures in
    record {
      made = made;
      meshed = c.requires.meshed;
      regions = regions;
      are_regions = rw (c.as_slice.ensures, c.as_slice-2.ensures) at c.in_ok-outside.ensures;
      texts_are = texts_are asked names first soup made regions _
          (c.from_vec.ensures ∙ (c.in_ok-push_files.ensures ∙ λ i. first ++ files_of names (file_is i) (c.report_of-report.ensures i)))
          (c.from_vec-2.ensures ∙ (c.in_ok-line.ensures ∙ ap (λ (f : MshMesh). summary_line f made) file_is));
    }

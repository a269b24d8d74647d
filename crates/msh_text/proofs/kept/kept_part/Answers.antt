use Rattle.std.proofs.Common.{List, ◌≡◌, ap, ◌∙◌}
use Rattle.msh_text.specs.declared.file_mesh.MshTet.{MshTet}
use Rattle.msh_text.specs.FileMesh.{kept_tets, nodes_of}
use Rattle.msh_text.proofs.KeptNodes.{marked_are, kept_made}
use Rattle.msh_text.proofs.kept.kept_part.Goals as goal

pub returns : goal.returns
returns c =
    let m = c.args.mesh.now in
    let tets : c.in_ok-tets.tets.items ≡ kept_tets m.tets = c.in_ok-tets.ensures ∙ ap kept_tets c.as_slice.ensures in
    let given : c.deref.result.now ≡ kept_tets m.tets = c.deref.ensures.value ∙ tets in
    let nodes : c.in_ok-nodes.nodes.items ≡ nodes_of (kept_tets m.tets) m.nodes =
    c.in_ok-nodes.ensures ∙ marked_are c.deref-2.result.now c.in_ok-marks.marks.items c.deref.result.now c.as_slice-nodes.result.now c.number_bound.result c.deref-2.ensures.value c.number_bound.ensures c.in_ok-marks.ensures.marks
    ∙ ap (λ (ts : List MshTet). nodes_of ts c.as_slice-nodes.result.now) given ∙ ap (nodes_of (kept_tets m.tets)) c.as_slice-nodes.ensures in
    kept_made m _ _ _ (c.from_vec.ensures ∙ nodes) (c.from_vec-2.ensures ∙ tets) c.new.ensures

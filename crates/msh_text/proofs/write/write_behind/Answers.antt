use Rattle.std.proofs.Common.{List, [], ◌++◌, ◌+◌, ap, ◌∙◌, length}
use Rattle.std.specs.Prelude.{codes}
use Rattle.std.specs.List.{enumerate_from, flat_map}
use Rattle.grid.specs.declared.shapes.Face.{Face}
use Rattle.lines.proofs.ForCallers.{put_more}
use Rattle.msh_text.specs.declared.file_mesh.MshNode.{MshNode}
use Rattle.msh_text.specs.declared.file_mesh.MshTet.{MshTet}
use Rattle.msh_text.specs.Text.{count_line, face_line, middle_text, node_line, tet_line}
use Rattle.msh_text.proofs.SaysText.{seven_texts}
use Rattle.msh_text.proofs.write.write_behind.Goals as goal

pub returns : goal.returns
unfolding middle_text
returns c =
    let m = c.args.mesh.now in
    let tets = c.as_slice-tets.ensures in
    let tracked = c.as_slice-tracked.ensures in
    (put_more [] _ c.args.head.now (c.in_ok-put.ensures ∙ ap (λ bs. bs ++ c.args.head.now) c.in_ok-out.ensures.items)
    (put_more _ _ (count_line (length m.nodes)) (c.in_ok-put_count.ensures ∙ ap (λ (ns : List MshNode). c.put.new.out.items ++ count_line (length ns)) c.as_slice-nodes.ensures)
    (put_more _ _ (flat_map (node_line m.digits) m.nodes) (c.in_ok-put_nodes.ensures ∙ ap (λ (ns : List MshNode). c.put_count.new.out.items ++ flat_map (node_line m.digits) ns) c.as_slice-nodes.ensures)
    (put_more _ _ middle_text c.in_ok-put-2.ensures
    (put_more _ _ (count_line (length m.tets + length m.tracked)) (c.in_ok-put_count-2.ensures ∙ ap (λ (ts : List MshTet). c.put-2.new.out.items ++ count_line (length ts + length c.as_slice-tracked.result.now)) tets ∙ ap (λ (fs : List Face). c.put-2.new.out.items ++ count_line (length m.tets + length fs)) tracked)
    (put_more _ _ (flat_map tet_line (enumerate_from 1 m.tets)) (c.in_ok-put_tets.ensures ∙ ap (λ (ts : List MshTet). c.put_count-2.new.out.items ++ flat_map tet_line (enumerate_from 1 ts)) tets)
    (put_more _ _ (flat_map face_line (enumerate_from (length m.tets + 1) m.tracked)) (c.in_ok-put_faces.ensures ∙ ap (λ (ts : List MshTet). c.put_tets.new.out.items ++ flat_map face_line (enumerate_from (length ts + 1) c.as_slice-tracked.result.now)) tets ∙ ap (λ (fs : List Face). c.put_tets.new.out.items ++ flat_map face_line (enumerate_from (length m.tets + 1) fs)) tracked)
    c.in_ok-put-3.ensures)))))))
    ∙ ap (λ bs. c.args.head.now ++ bs) (seven_texts (count_line (length m.nodes)) (flat_map (node_line m.digits) m.nodes) middle_text (count_line (length m.tets + length m.tracked)) (flat_map tet_line (enumerate_from 1 m.tets)) (flat_map face_line (enumerate_from (length m.tets + 1) m.tracked)) (codes "$EndElements\n"))

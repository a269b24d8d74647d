use Rattle.std.proofs.Common.{ℕ, ℤ, List, length, ◌++◌, ap, ap₂, ◌∙◌}
use Rattle.std.specs.Prelude.{codes}
use Rattle.std.specs.List.{flat_map}
use Rattle.off_text.specs.Text.{count_line, vertex_line, face_line, off_text}
use Rattle.off_text.proofs.write.write_off.Goals as goal

pub returns : goal.returns
unfolding off_text
returns c =
    let vertices = c.as_slice-vertices.ensures in
    let faces = c.as_slice-faces.ensures in
    let first = c.in_ok-put.ensures ∙ ap (λ (bs : List ℕ). bs ++ codes "OFF\n") c.in_ok-out.ensures.items in
    let second = c.in_ok-put_counts.ensures ∙ ap₂ (λ (vs : List (List ℤ)) (fs : List (List ℕ)). c.put.new.out.items ++ count_line (length vs) (length fs)) vertices faces ∙ ap (λ (bs : List ℕ). bs ++ count_line (length c.args.raw.now.vertices) (length c.args.raw.now.faces)) first in
    let third = c.in_ok-put_vertices.ensures ∙ ap₂ (λ (bs : List ℕ) (vs : List (List ℤ)). bs ++ flat_map vertex_line vs) second vertices in
    c.in_ok-put_faces.ensures ∙ ap₂ (λ (bs : List ℕ) (fs : List (List ℕ)). bs ++ flat_map face_line fs) third faces

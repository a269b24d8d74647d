use Rattle.std.proofs.Common.{rules, SFits, w32, to_z-of_z, ℕ, ℤ, List, ap, ◌∙◌, ◌++◌, [], length}
use Rattle.std.specs.Prelude.{codes}
use Rattle.lines.proofs.ForCallers.{put_more, put_last}
use Rattle.std.specs.List.{enumerate_from, flat_map}
use Rattle.mesh_types.specs.declared.outcome.Outcome.{Outcome}
use Rattle.mesh_types.specs.declared.tries.TryLine.{TryLine}
use Rattle.report_text.specs.declared.report.Covering.{Covering}
use Rattle.report_text.specs.Text.{named_line, size_text, shift_text, triangle_line, journal_text, second_text, covering_line, report_text}
use Rattle.report_text.proofs.write.write_report.Goals as goal

pub returns : goal.returns
unfolding report_text
returns c =
    let r = c.args.report.now in
    let fside : SFits w32 r.side = search rules in
    (put_more [] _ (codes "tetsoup report 1\n") (c.in_ok-put.ensures ∙ ap (λ bs. bs ++ codes "tetsoup report 1\n") c.in_ok-out.ensures.items)
    (put_more _ _ (named_line (codes "epsilon ") r.epsilon) (c.in_ok-put_named.ensures ∙ ap (λ (n : ℕ). c.put.new.out.items ++ named_line (codes "epsilon ") n) c.from.ensures)
    (put_more _ _ (named_line (codes "cells ") r.cells) (c.in_ok-put_named-2.ensures ∙ ap (λ (n : ℕ). c.put_named.new.out.items ++ named_line (codes "cells ") n) c.from-2.ensures)
    (put_more _ _ (named_line (codes "budget ") r.budget) (c.in_ok-put_named-3.ensures ∙ ap (λ (n : ℕ). c.put_named-2.new.out.items ++ named_line (codes "budget ") n) c.from-3.ensures)
    (put_more _ _ (size_text r.digits r.side) (c.in_ok-put_size.ensures ∙ ap (λ (z : ℤ). c.put_named-3.new.out.items ++ size_text r.digits z) (to_z-of_z fside))
    (put_more _ _ (shift_text r.shift) c.in_ok-put_shift.ensures
    (put_more _ _ (named_line (codes "triangles ") (length r.outcomes)) (c.in_ok-put_named-4.ensures ∙ ap (λ (os : List Outcome). c.put_shift.new.out.items ++ named_line (codes "triangles ") (length os)) c.as_slice-outcomes.ensures)
    (put_more _ _ (flat_map (triangle_line r.shift) (enumerate_from 0 r.outcomes)) (c.in_ok-put_triangles.ensures ∙ ap (λ (os : List Outcome). c.put_named-4.new.out.items ++ flat_map (triangle_line r.shift) (enumerate_from 0 os)) c.as_slice-outcomes.ensures)
    (put_more _ _ (journal_text r.journal.lines r.end) (c.in_ok-put_journal.ensures ∙ ap (λ (ls : List TryLine). c.put_triangles.new.out.items ++ journal_text ls r.end) c.as_slice.ensures)
    (put_more _ _ (second_text r.shift r.second) c.in_ok-put_second.ensures
    (put_more _ _ (named_line (codes "tracked ") (length r.faces)) (c.in_ok-put_named-5.ensures ∙ ap (λ (fs : List Covering). c.put_second.new.out.items ++ named_line (codes "tracked ") (length fs)) c.as_slice-faces.ensures)
    (put_last _ (flat_map covering_line r.faces) (c.in_ok-put_faces.ensures ∙ ap (λ (fs : List Covering). c.put_named-5.new.out.items ++ flat_map covering_line fs) c.as_slice-faces.ensures)))))))))))))

use Rattle.std.proofs.Common.{rules, SFits, w32, w64, to_z, of_z, to_z-of_z, ap, ◌∙◌, ◌++◌, ◌≡◌}
use Rattle.std.specs.Prelude.{pos, slice_index_or, ◌+ℤ◌}
use Rattle.std.proofs.lemmas.Result.{on_ok_weaker}
use Rattle.lines.specs.Fields.{space, decimal_word}
use Rattle.lines.proofs.ForCallers.{put_more, put_last}
use Rattle.report_text.proofs.put_words.put_point.Goals as goal

pub returns : goal.returns
returns c =
    let fx : SFits w32 c.args.point.x = search rules in
    let fy : SFits w32 c.args.point.y = search rules in
    let fz : SFits w32 c.args.point.z = search rules in
    let f0 : SFits w64 (slice_index_or c.args.shift 0 (pos 0)) = search rules in
    let f1 : SFits w64 (slice_index_or c.args.shift 1 (pos 0)) = search rules in
    let f2 : SFits w64 (slice_index_or c.args.shift 2 (pos 0)) = search rules in
    let ex : to_z w32 (of_z w32 c.args.point.x) ≡ c.args.point.x = to_z-of_z fx in
    let ey : to_z w32 (of_z w32 c.args.point.y) ≡ c.args.point.y = to_z-of_z fy in
    let ez : to_z w32 (of_z w32 c.args.point.z) ≡ c.args.point.z = to_z-of_z fz in
    let e0 : to_z w64 (of_z w64 (slice_index_or c.args.shift 0 (pos 0))) ≡ slice_index_or c.args.shift 0 (pos 0) = to_z-of_z f0 in
    let e1 : to_z w64 (of_z w64 (slice_index_or c.args.shift 1 (pos 0))) ≡ slice_index_or c.args.shift 1 (pos 0) = to_z-of_z f1 in
    let e2 : to_z w64 (of_z w64 (slice_index_or c.args.shift 2 (pos 0))) ≡ slice_index_or c.args.shift 2 (pos 0) = to_z-of_z f2 in
    on_ok_weaker c.put_moved-3.result (λ e.
    put_more _ _ (decimal_word 0 space (c.args.point.x +ℤ slice_index_or c.args.shift 0 (pos 0))) (c.in_ok-put_moved.ensures ∙ ap (λ z. c.args.out.now.items ++ decimal_word 0 space z) (cc (ex, e0)))
    (put_more _ _ (decimal_word 0 space (c.args.point.y +ℤ slice_index_or c.args.shift 1 (pos 0))) (c.in_ok-put_moved-2.ensures ∙ ap (λ z. c.put_moved.new.out.items ++ decimal_word 0 space z) (cc (ey, e1)))
    (put_last _ (decimal_word 0 c.args.end (c.args.point.z +ℤ slice_index_or c.args.shift 2 (pos 0))) (e ∙ ap (λ z. c.put_moved-2.new.out.items ++ decimal_word 0 c.args.end z) (cc (ez, e2)))))) c.put_moved-3.ensures

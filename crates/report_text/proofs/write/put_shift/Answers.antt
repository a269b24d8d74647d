use Rattle.std.proofs.Common.{rules, SFits, w64, to_z-of_z, ap, ◌∙◌, ◌++◌}
use Rattle.std.specs.Prelude.{codes, pos, slice_index_or}
use Rattle.std.proofs.lemmas.Result.{on_ok_weaker}
use Rattle.lines.specs.Fields.{space, feed, decimal_word}
use Rattle.lines.proofs.ForCallers.{put_more, put_last}
use Rattle.report_text.proofs.write.put_shift.Goals as goal

pub returns : goal.returns
returns c =
    let f0 : SFits w64 (slice_index_or c.args.shift 0 (pos 0)) = search rules in
    let f1 : SFits w64 (slice_index_or c.args.shift 1 (pos 0)) = search rules in
    let f2 : SFits w64 (slice_index_or c.args.shift 2 (pos 0)) = search rules in
    on_ok_weaker c.put_signed-3.result (λ e.
    put_more _ _ (codes "shift ") c.in_ok-put.ensures
    (put_more _ _ (decimal_word 0 space (slice_index_or c.args.shift 0 (pos 0))) (c.in_ok-put_signed.ensures ∙ ap (λ z. c.put.new.out.items ++ decimal_word 0 space z) (to_z-of_z f0))
    (put_more _ _ (decimal_word 0 space (slice_index_or c.args.shift 1 (pos 0))) (c.in_ok-put_signed-2.ensures ∙ ap (λ z. c.put_signed.new.out.items ++ decimal_word 0 space z) (to_z-of_z f1))
    (put_last _ (decimal_word 0 feed (slice_index_or c.args.shift 2 (pos 0))) (e ∙ ap (λ z. c.put_signed-2.new.out.items ++ decimal_word 0 feed z) (to_z-of_z f2)))))) c.put_signed-3.ensures

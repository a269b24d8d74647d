use Rattle.std.proofs.Common.{rules, sym, ap, ◌∙◌, ◌++◌, [], length, ◌≡◌}
use Rattle.std.specs.Prelude.{codes}
use Rattle.lines.specs.Fields.{space, word}
use Rattle.lines.proofs.ForCallers.{put_more, put_last}
use Rattle.mesh_types.specs.declared.cert.Cert.TheVariants as certs
use Rattle.report_text.specs.Rules.{bracket}
use Rattle.report_text.specs.Text.{cert_text}
use Rattle.std.proofs.Common.{◌-◌, get_or, ◌∷◌, ℕ}
use Rattle.std.proofs.lemmas.Result.{on_ok_weaker}
use Rattle.report_text.proofs.CertText.{leaf_text, bottom_text, split_text, four_parts}
use Rattle.report_text.proofs.put_lines.+put_cert.Goals as goal

pub returns-in-Leaf : goal.returns-in-Leaf
returns-in-Leaf t c = on_ok_weaker c.put_word.result (λ e. e ∙ ap (λ (n : ℕ). c.args.out.now.items ++ word c.args.end n) c.from.ensures ∙ ap (λ bs. c.args.out.now.items ++ bs) (sym (leaf_text c.args.levels c.args.end c.in-Leaf.t c.args.cert.now c.in-Leaf.is))) c.put_word.ensures

pub returns-then-levels-eq0 : goal.returns-then-levels-eq0
returns-then-levels-eq0 t c =
    on_ok_weaker c.put-then-levels-eq0.result (λ e. put_more _ _ (codes "(") c.in_ok-put-in-Split.ensures (put_last _ (c.args.end ∷ []) e) ∙ ap (λ bs. c.args.out.now.items ++ bs) (sym (bottom_text c.args.levels c.args.end c.in-Split.parts c.args.cert.now c.if-levels-eq0.true c.in-Split.is))) c.put-then-levels-eq0.ensures

pub returns-in_ok-put_cert-in-Split-4 : goal.returns-in_ok-put_cert-in-Split-4
returns-in_ok-put_cert-in-Split-4 t c =
    let four : length c.get.result.now ≡ 4 = search rules in
    let whole = split_text c.args.levels c.args.end c.get.result.now c.args.cert.now c.if-levels-eq0.false four (c.in-Split.is ∙ ap certs.Split (sym c.get.ensures)) c.index-get-0.result c.index-get-1.result c.index-get-2.result c.index-get-3.result in
    let p = cert_text (c.args.levels - 1) space (get_or c.get.result.now 0 c.index-get-0.result) in
    let q = cert_text (c.args.levels - 1) space (get_or c.get.result.now 1 c.index-get-1.result) in
    let r = cert_text (c.args.levels - 1) space (get_or c.get.result.now 2 c.index-get-2.result) in
    let s = cert_text (c.args.levels - 1) bracket (get_or c.get.result.now 3 c.index-get-3.result) in
    on_ok_weaker c.put-in-Split.result (λ e.
    put_more _ _ (codes "(") c.in_ok-put-in-Split.ensures
    (put_more _ _ p c.in_ok-put_cert-in-Split.ensures
    (put_more _ _ q c.in_ok-put_cert-in-Split-2.ensures
    (put_more _ _ r c.in_ok-put_cert-in-Split-3.ensures
    (put_more _ _ s c.in_ok-put_cert-in-Split-4.ensures
    (put_last _ (c.args.end ∷ []) e)))))
    ∙ ap (λ bs. c.args.out.now.items ++ bs) (sym (four_parts p q r s (c.args.end ∷ [])) ∙ sym whole)) c.put-in-Split.ensures

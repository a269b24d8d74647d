use Rattle.std.proofs.Common.{ap, sym, ◌∙◌, SFits, w64, to_z-of_z, Ok, Result, rules, ℤ, Bool}
use Rattle.off_text.specs.declared.issue.OffKind.{OffKind}
use Rattle.off_text.specs.Numbers.{parts_of, is_negative, with_sign}
use Rattle.off_text.specs.PartsView.{parts_view}
use Rattle.off_text.proofs.Coordinates.{coordinate_by, bad_number, not_whole, too_large, value_is, whole_digits}
use Rattle.off_text.proofs.coordinate.whole_coordinate.Goals as goal

abbrev said : ℤ → Result ℤ OffKind
said z = Ok z

pub returns-then-not-is_well_formed : goal.returns-then-not-is_well_formed
returns-then-not-is_well_formed c =
    let p = parts_view c.parts_of-parts.result in
    sym (coordinate_by c.args.word.now p _ (c.parts_of-parts.ensures ∙ ap parts_of c.without_sign.ensures)
    (bad_number (is_negative c.args.word.now) p (sym c.is_well_formed.ensures ∙ c.if-not-is_well_formed.true)))

pub returns-then-not-is_whole : goal.returns-then-not-is_whole
returns-then-not-is_whole c =
    let p = parts_view c.parts_of-parts.result in
    sym (coordinate_by c.args.word.now p _ (c.parts_of-parts.ensures ∙ ap parts_of c.without_sign.ensures)
    (not_whole (is_negative c.args.word.now) p (sym c.is_well_formed.ensures ∙ c.if-not-is_well_formed.false) (sym c.is_whole.ensures ∙ c.if-not-is_whole.true)))

pub decimal-n-requires : goal.decimal-n-requires
decimal-n-requires c = whole_digits (parts_view c.parts_of-parts.result) c.without_sign.result.now c.parts_of-parts.ensures

pub returns-then-n-gt-LARGEST : goal.returns-then-n-gt-LARGEST
returns-then-n-gt-LARGEST c =
    let p = parts_view c.parts_of-parts.result in
    sym (coordinate_by c.args.word.now p _ (c.parts_of-parts.ensures ∙ ap parts_of c.without_sign.ensures)
    (too_large (is_negative c.args.word.now) p c.decimal-n.result (sym c.is_well_formed.ensures ∙ c.if-not-is_well_formed.false) (sym c.is_whole.ensures ∙ c.if-not-is_whole.false) c.decimal-n.ensures c.if-n-gt-LARGEST.true))

pub returns : goal.returns
returns c =
    let p = parts_view c.parts_of-parts.result in
    let fits : SFits w64 c.with_sign.result = search rules in
    ap said (to_z-of_z fits ∙ c.with_sign.ensures ∙ ap (λ (b : Bool). with_sign b c.decimal-n.result) c.is_negative.ensures)
    ∙ sym (coordinate_by c.args.word.now p _ (c.parts_of-parts.ensures ∙ ap parts_of c.without_sign.ensures)
    (value_is (is_negative c.args.word.now) p c.decimal-n.result (sym c.is_well_formed.ensures ∙ c.if-not-is_well_formed.false) (sym c.is_whole.ensures ∙ c.if-not-is_whole.false) c.decimal-n.ensures c.if-n-gt-LARGEST.false))

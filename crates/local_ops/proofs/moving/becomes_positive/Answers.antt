use Rattle.std.proofs.Common.{◌∙◌, sym}
use Rattle.local_ops.proofs.Becoming.{both_then, both_else, one, split-positive, shift-positive}
use Rattle.local_ops.proofs.moving.becomes_positive.Goals as goal

pub returns-then-is_positive_with : goal.returns-then-is_positive_with
returns-then-is_positive_with c =
    let points = c.args.slots.now.points in
    rw c.in-Split.is (both_then _ _ _ _ c.is_positive_with.ensures c.if-is_positive_with.true c.is_positive_with-then-is_positive_with.ensures ∙ sym (split-positive points c.args.at c.args.tet.0 c.requires.there c.in-Split.u c.in-Split.v))

pub returns-else-is_positive_with : goal.returns-else-is_positive_with
returns-else-is_positive_with c =
    let points = c.args.slots.now.points in
    rw c.in-Split.is (both_else _ _ _ c.is_positive_with.ensures c.if-is_positive_with.false ∙ sym (split-positive points c.args.at c.args.tet.0 c.requires.there c.in-Split.u c.in-Split.v))

pub returns-in-Shift : goal.returns-in-Shift
returns-in-Shift c =
    let points = c.args.slots.now.points in
    rw c.in-Shift.is (one _ _ c.is_positive_with-in-Shift.ensures ∙ sym (shift-positive points c.args.at c.args.tet.0 c.requires.there c.in-Shift.u c.in-Shift.field-1))

use Rattle.std.proofs.Common.{◌∙◌, sym, ap}
use Rattle.std.specs.Prelude.{nat_lt}
use Rattle.std.proofs.lemmas.Bool.{lt-ltb, le-ltb}
use Rattle.local_ops.proofs.Becoming.{both_then, both_else, one, split-lower, shift-lower, split-signs, shift-signs}
use Rattle.local_ops.proofs.moving.becomes_lower.Goals as goal

pub energy_with-requires-clause-positive : goal.energy_with-requires-clause-positive
energy_with-requires-clause-positive c =
    (split-signs c.args.slots.now.points c.args.at c.args.tet.0 c.requires.there c.in-Split.u c.in-Split.v (rw c.in-Split.is at c.requires.signs)).0

pub energy_with-requires-then-energy_with-most-clause-positive : goal.energy_with-requires-then-energy_with-most-clause-positive
energy_with-requires-then-energy_with-most-clause-positive c =
    (split-signs c.args.slots.now.points c.args.at c.args.tet.0 c.requires.there c.in-Split.u c.in-Split.v (rw c.in-Split.is at c.requires.signs)).1

pub energy_with-requires-in-Shift-clause-positive : goal.energy_with-requires-in-Shift-clause-positive
energy_with-requires-in-Shift-clause-positive c =
    shift-signs c.args.slots.now.points c.args.at c.args.tet.0 c.requires.there c.in-Shift.u c.in-Shift.field-1 (rw c.in-Shift.is at c.requires.signs)

pub returns-then-energy_with-most : goal.returns-then-energy_with-most
returns-then-energy_with-most c =
    let points = c.args.slots.now.points in
    let n = c.args.most in
    rw c.in-Split.is (both_then _ _ _ _ (ap (λ k. nat_lt k n) c.energy_with.ensures) (lt-ltb c.energy_with.result n c.if-energy_with-most.true) (ap (λ k. nat_lt k n) c.energy_with-then-energy_with-most.ensures)
    ∙ sym (split-lower points c.args.at c.args.tet.0 c.requires.there c.in-Split.u c.in-Split.v n))

pub returns-else-energy_with-most : goal.returns-else-energy_with-most
returns-else-energy_with-most c =
    let points = c.args.slots.now.points in
    let n = c.args.most in
    rw c.in-Split.is (both_else _ _ _ (ap (λ k. nat_lt k n) c.energy_with.ensures) (le-ltb c.energy_with.result n c.if-energy_with-most.false) ∙ sym (split-lower points c.args.at c.args.tet.0 c.requires.there c.in-Split.u c.in-Split.v n))

pub returns-in-Shift : goal.returns-in-Shift
returns-in-Shift c =
    let points = c.args.slots.now.points in
    let n = c.args.most in
    rw c.in-Shift.is (one _ _ (ap (λ k. nat_lt k n) c.energy_with-in-Shift.ensures) ∙ sym (shift-lower points c.args.at c.args.tet.0 c.requires.there c.in-Shift.u c.in-Shift.field-1 n))

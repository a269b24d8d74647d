use Rattle.std.proofs.Common.{◌∙◌, ◌++◌, pos, ap, List, ℕ}
use Rattle.mesh_types.specs.declared.cut.Cut.{Cut}
use Rattle.mesh_store.proofs.AtEdges.{goes_on, found-all}
use Rattle.mesh_store.proofs.touching.touched_slots.Goals as goal

pub loop-cut-preserved : goal.loop-cut-preserved
loop-cut-preserved c =
    let none : Cut = record { u = 0; v = 0; at = record { x = pos 0; y = pos 0; z = pos 0 } } in
    goes_on c.args.cuts.now c.args.slots.now.slots c.loop-cut.cut-index none c.loop-cut.touched.items c.having2.new.into.items c.extend_from_slice.new.self.items c.loop-cut-test.true c.in_ok-having2.ensures
    (c.in_ok-extend_from_slice.ensures.items ∙ ap (λ (is : List ℕ). c.loop-cut.touched.items ++ is) c.deref.ensures.value) c.loop-cut.invariant

pub returns : goal.returns
returns c = found-all c.args.cuts.now c.args.slots.now.slots c.loop-cut.cut-index c.loop-cut.touched.items c.rise.new.numbers.items c.loop-cut-test.false c.loop-cut.invariant c.rise.ensures.rising c.rise.ensures.same

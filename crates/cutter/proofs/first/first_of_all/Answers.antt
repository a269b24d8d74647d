use Rattle.std.proofs.Common.{◌≡◌, length, get_or, arith, rules, []}
use Rattle.cutting_rule.specs.declared.edge.Edge.{Edge}
use Rattle.cutter.proofs.FirstSlots.{first-step, pair}
use Rattle.cutter.proofs.first.first_of_all.Goals as goal

pub loop-edge-preserved : goal.loop-edge-preserved
loop-edge-preserved c =
    let none : Edge = record { 0 = [] } in
    let es = c.args.edges.now in
    let i = c.loop-edge.edge-index in
    let long : length (get_or es i none).0 ≡ 2 = search rules in
    first-step c.args.slots.now.slots es i none _ _ c.loop-edge.first c.in_ok-having.having c.earlier-first.result (omega arith) (pair (get_or es i none).0 long) c.earlier-first.ensures c.loop-edge.invariant c.in_ok-having.ensures

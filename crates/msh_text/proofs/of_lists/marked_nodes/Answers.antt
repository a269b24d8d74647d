use Rattle.std.proofs.Common.{arith}
use Rattle.std.proofs.lemmas.Grind.{common_steps}
use Rattle.grid.specs.Determinants.{origin}
use Rattle.msh_text.proofs.Nodes.{marked_nodes-yes, marked_nodes-no}
use Rattle.msh_text.proofs.of_lists.marked_nodes.Goals.{then-used-i+in_ok-push, else-used-i}
use Rattle.msh_text.proofs.of_lists.marked_nodes.Goals as goal

pub loop-i-preserved : goal.loop-i-preserved
loop-i-preserved c = elim c.if-used-i.branch [
  | then-used-i+in_ok-push w ↦ let rest = marked_nodes-yes c.args.shift c.args.used.now c.args.points.now c.loop-i.i origin c.loop-i-test.true w.if-used-i.true in grind (arith, common_steps)
  | else-used-i w ↦ let rest = marked_nodes-no c.args.shift c.args.used.now c.args.points.now c.loop-i.i origin c.loop-i-test.true w.if-used-i.false in cc
]

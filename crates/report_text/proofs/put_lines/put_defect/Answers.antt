use Rattle.std.specs.Prelude.{codes}
use Rattle.std.proofs.lemmas.Result.{on_ok_weaker}
use Rattle.lines.proofs.ForCallers.{put_more}
use Rattle.report_text.proofs.put_lines.put_defect.Goals as goal

pub returns-in_ok-put-in-Inverted : goal.returns-in_ok-put-in-Inverted
returns-in_ok-put-in-Inverted c = rw c.in-Inverted.is (on_ok_weaker c.put_four.result (λ e. put_more _ _ (codes "rolled-back inverted ") c.in_ok-put-in-Inverted.ensures e) c.put_four.ensures)

pub returns-in_ok-put-in-Unresolved : goal.returns-in_ok-put-in-Unresolved
returns-in_ok-put-in-Unresolved c = rw c.in-Unresolved.is (on_ok_weaker c.put_four-in-Unresolved.result (λ e. put_more _ _ (codes "rolled-back unresolved ") c.in_ok-put-in-Unresolved.ensures e) c.put_four-in-Unresolved.ensures)

pub returns-in_ok-put-in-Stray : goal.returns-in_ok-put-in-Stray
returns-in_ok-put-in-Stray c = rw c.in-Stray.is (on_ok_weaker c.put_three.result (λ e. put_more _ _ (codes "rolled-back stray ") c.in_ok-put-in-Stray.ensures e) c.put_three.ensures)

pub returns-in_ok-put-in-Uncovered : goal.returns-in_ok-put-in-Uncovered
returns-in_ok-put-in-Uncovered c = rw c.in-Uncovered.is (on_ok_weaker c.put_three-in-Uncovered.result (λ e. put_more _ _ (codes "rolled-back uncovered ") c.in_ok-put-in-Uncovered.ensures e) c.put_three-in-Uncovered.ensures)

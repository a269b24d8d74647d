use Rattle.std.proofs.Common.{◌≡◌, ◌-◌, [], length}
use Rattle.lines.specs.Forms.{repeat}
use Rattle.lines.proofs.ForCallers.{Continues}
use Rattle.report_text.specs.Rules.{more_outcomes}
use Rattle.report_text.proofs.read_lists.read_outcomes.Given as goal

abbrev pub invariant-loop-i : goal.invariant-loop-i
invariant-loop-i l = record {
  so_far : Continues (repeat (more_outcomes l.side l.shift) l.count []) l.fn.bytes (repeat (more_outcomes l.side l.shift) (l.count - l.i) l.outcomes.items) l.rest;
  length : length l.outcomes.items ≡ l.i;
}

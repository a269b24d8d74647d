use Rattle.std.proofs.Common.{◌≡◌, ◌-◌, []}
use Rattle.lines.specs.Forms.{repeat}
use Rattle.lines.proofs.ForCallers.{Continues}
use Rattle.report_text.specs.Rules.{more_again, least_next}
use Rattle.report_text.proofs.read_lists.read_again.Given as goal

abbrev pub invariant-loop : goal.invariant-loop
invariant-loop l = record {
  so_far : Continues (repeat (more_again l.triangles l.side l.shift) l.count []) l.fn.bytes (repeat (more_again l.triangles l.side l.shift) (l.count - l.counter) l.again.items) l.rest;
  least : l.least ≡ least_next l.again.items;
}

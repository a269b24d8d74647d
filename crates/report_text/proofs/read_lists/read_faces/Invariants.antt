use Rattle.std.proofs.Common.{◌-◌, []}
use Rattle.lines.specs.Forms.{repeat}
use Rattle.lines.proofs.ForCallers.{Continues}
use Rattle.report_text.specs.Rules.{more_faces}
use Rattle.report_text.proofs.read_lists.read_faces.Given as goal

abbrev pub invariant-loop : goal.invariant-loop
invariant-loop l = Continues (repeat more_faces l.count []) l.fn.bytes (repeat more_faces (l.count - l.counter) l.faces.items) l.rest

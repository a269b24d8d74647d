use Rattle.std.proofs.Common.{subst}
use Rattle.std.proofs.lemmas.Result.{err_from_is_err_and}
use Rattle.lines.specs.Forms.{Reads}
use Rattle.lines.proofs.ForCallers.{starts, goes_on, fails, gives_on}
use Rattle.report_text.specs.declared.kinds.PartKind.{PartKind}
use Rattle.report_text.specs.declared.report.Tail.{Tail}
use Rattle.report_text.specs.Rules.{second_part, one_of, part_kind_text}
use Rattle.report_text.proofs.read_second.read_second.Goals as goal

pub returns-in_err-kind : goal.returns-in_err-kind
unfolding second_part
returns-in_err-kind c =
    let p = err_from_is_err_and c.from_residual.result c.from_residual.ensures.1 in
    rw (p.1, p.2) (fails c.in_err-kind.field-0.0 (starts (second_part c.args.triangles c.args.side c.args.shift c.args.most) c.args.bytes.now) c.in_err-kind.ensures)

pub returns-in-Second : goal.returns-in-Second
unfolding second_part
returns-in-Second c = gives_on (λ (t : Tail). (t.second, t.faces)) c.read_members.result (goes_on (starts (second_part c.args.triangles c.args.side c.args.shift c.args.most) c.args.bytes.now) (subst (λ (k : PartKind). Reads (one_of part_kind_text) c.args.bytes.now k c.in_ok-kind.rest.now) c.in-Second.is c.in_ok-kind.ensures)) c.read_members.ensures

pub returns-in-Tracked : goal.returns-in-Tracked
unfolding second_part
returns-in-Tracked c = gives_on (λ (t : Tail). (t.second, t.faces)) c.read_tracked.result (goes_on (starts (second_part c.args.triangles c.args.side c.args.shift c.args.most) c.args.bytes.now) (subst (λ (k : PartKind). Reads (one_of part_kind_text) c.args.bytes.now k c.in_ok-kind.rest.now) c.in-Tracked.is c.in_ok-kind.ensures)) c.read_tracked.ensures

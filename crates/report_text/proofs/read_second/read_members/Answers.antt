use Rattle.std.proofs.Common.{List, Some, sym, subst}
use Rattle.std.proofs.lemmas.Result.{err_from_is_err_and}
use Rattle.lines.proofs.ForCallers.{starts, goes_on, ends, fails}
use Rattle.lines.specs.Forms.{Reads}
use Rattle.mesh_types.specs.declared.outcome.Again.{Again}
use Rattle.report_text.specs.declared.kinds.PartKind.TheVariants as part_kinds
use Rattle.report_text.specs.Rules.{part_behind}
use Rattle.report_text.proofs.read_second.read_members.Goals as goal

pub returns-in_err-members : goal.returns-in_err-members
returns-in_err-members c =
    let p = err_from_is_err_and c.from_residual.result c.from_residual.ensures.1 in
    rw (p.1, p.2) (fails c.in_err-members.field-0.0 (starts (part_behind c.args.triangles c.args.side c.args.shift c.args.most part_kinds.Second) c.args.bytes.now) c.in_err-members.ensures.gives)

pub returns-in_err-again : goal.returns-in_err-again
returns-in_err-again c =
    let p = err_from_is_err_and c.from_residual-in_err-again.result c.from_residual-in_err-again.ensures.1 in
    rw (p.1, p.2) (fails c.in_err-again.field-0.0 (goes_on (starts (part_behind c.args.triangles c.args.side c.args.shift c.args.most part_kinds.Second) c.args.bytes.now) c.in_ok-members.ensures.gives) c.in_err-again.ensures)

pub returns-in_err-tries : goal.returns-in_err-tries
returns-in_err-tries c =
    let p = err_from_is_err_and c.from_residual-in_err-tries.result c.from_residual-in_err-tries.ensures.1 in
    rw (p.1, p.2) (fails c.in_err-tries.field-0.0 (goes_on (goes_on (starts (part_behind c.args.triangles c.args.side c.args.shift c.args.most part_kinds.Second) c.args.bytes.now) c.in_ok-members.ensures.gives) c.in_ok-again.ensures) c.in_err-tries.ensures)

pub returns-in_err-faces : goal.returns-in_err-faces
returns-in_err-faces c =
    let p = err_from_is_err_and c.from_residual-in_err-faces.result c.from_residual-in_err-faces.ensures.1 in
    rw (p.1, p.2) (fails c.in_err-faces.field-0.0 (goes_on (goes_on (goes_on (starts (part_behind c.args.triangles c.args.side c.args.shift c.args.most part_kinds.Second) c.args.bytes.now) c.in_ok-members.ensures.gives) c.in_ok-again.ensures) c.in_ok-tries.ensures) c.in_err-faces.ensures.gives)

pub returns : goal.returns
returns c =
    subst (λ (members : List Again). Reads (part_behind c.args.triangles c.args.side c.args.shift c.args.most part_kinds.Second) c.args.bytes.now (Some (record { again = members; journal = c.in_ok-tries.tries.journal; end = c.in_ok-tries.tries.end }), c.in_ok-faces.faces) c.in_ok-faces.rest.now) (sym c.from_vec.ensures)
    (ends (goes_on (goes_on (goes_on (goes_on (starts (part_behind c.args.triangles c.args.side c.args.shift c.args.most part_kinds.Second) c.args.bytes.now) c.in_ok-members.ensures.gives) c.in_ok-again.ensures) c.in_ok-tries.ensures) c.in_ok-faces.ensures.gives))

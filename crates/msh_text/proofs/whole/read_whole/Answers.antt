use Rattle.std.proofs.Common.{ℕ, List, Bool, sym, subst}
use Rattle.std.proofs.lemmas.Result.{err_from_is_err_and}
use Rattle.lines.specs.Forms.{Reads, repeat}
use Rattle.lines.specs.Gives.{Fails}
use Rattle.lines.proofs.ForCallers.{starts, goes_on, ends, fails}
use Rattle.msh_text.specs.declared.file_mesh.MshNode.{MshNode}
use Rattle.msh_text.specs.Rules.{msh_rules, more_elements, no_elements}
use Rattle.msh_text.proofs.SaysText.{elements_by_marks}
use Rattle.msh_text.proofs.whole.read_whole.Goals as goal

pub returns-in_err-rest-clause-gives : goal.returns-in_err-rest-clause-gives
unfolding msh_rules
returns-in_err-rest-clause-gives c =
    let p = err_from_is_err_and c.from_residual.result c.from_residual.ensures.1 in
    rw (p.1, p.2) (fails c.in_err-rest.field-0.0 (starts (msh_rules c.args.d) c.args.bytes.now) c.in_err-rest.ensures)

pub returns-in_err-count-clause-gives : goal.returns-in_err-count-clause-gives
unfolding msh_rules
returns-in_err-count-clause-gives c =
    let p = err_from_is_err_and c.from_residual-in_err-count.result c.from_residual-in_err-count.ensures.1 in
    rw (p.1, p.2) (fails c.in_err-count.field-0.0 (goes_on (starts (msh_rules c.args.d) c.args.bytes.now) c.in_ok-rest.ensures) c.in_err-count.ensures.gives)

pub returns-in_err-nodes-clause-gives : goal.returns-in_err-nodes-clause-gives
unfolding msh_rules
returns-in_err-nodes-clause-gives c =
    let p = err_from_is_err_and c.from_residual-in_err-nodes.result c.from_residual-in_err-nodes.ensures.1 in
    rw (p.1, p.2) (fails c.in_err-nodes.field-0.0 (goes_on (goes_on (starts (msh_rules c.args.d) c.args.bytes.now) c.in_ok-rest.ensures) c.in_ok-count.ensures.gives) c.in_err-nodes.ensures.gives)

pub returns-in_err-rest-2-clause-gives : goal.returns-in_err-rest-2-clause-gives
unfolding msh_rules
returns-in_err-rest-2-clause-gives c =
    let p = err_from_is_err_and c.from_residual-in_err-rest-2.result c.from_residual-in_err-rest-2.ensures.1 in
    rw (p.1, p.2) (fails c.in_err-rest-2.field-0.0 (goes_on (goes_on (goes_on (starts (msh_rules c.args.d) c.args.bytes.now) c.in_ok-rest.ensures) c.in_ok-count.ensures.gives) c.in_ok-nodes.ensures.gives) c.in_err-rest-2.ensures)

pub returns-in_err-count-2-clause-gives : goal.returns-in_err-count-2-clause-gives
unfolding msh_rules
returns-in_err-count-2-clause-gives c =
    let p = err_from_is_err_and c.from_residual-in_err-count-2.result c.from_residual-in_err-count-2.ensures.1 in
    rw (p.1, p.2) (fails c.in_err-count-2.field-0.0 (goes_on (goes_on (goes_on (goes_on (starts (msh_rules c.args.d) c.args.bytes.now) c.in_ok-rest.ensures) c.in_ok-count.ensures.gives) c.in_ok-nodes.ensures.gives) c.in_ok-rest-2.ensures) c.in_err-count-2.ensures.gives)

pub returns-in_err-elements-clause-gives : goal.returns-in_err-elements-clause-gives
unfolding msh_rules
returns-in_err-elements-clause-gives c =
    let p = err_from_is_err_and c.from_residual-in_err-elements.result c.from_residual-in_err-elements.ensures.1 in
    rw (p.1, p.2) (fails c.in_err-elements.field-0.0 (goes_on (goes_on (goes_on (goes_on (goes_on (starts (msh_rules c.args.d) c.args.bytes.now) c.in_ok-rest.ensures) c.in_ok-count.ensures.gives) c.in_ok-nodes.ensures.gives) c.in_ok-rest-2.ensures) c.in_ok-count-2.ensures.gives) (elements_by_marks c.deref-2.result.now c.in_ok-marks.marks.items c.deref.result.now c.in_ok-nodes.nodes.items c.deref-2.ensures.value c.deref.ensures.value c.in_ok-marks.ensures.marks (λ (t : ℕ → Bool). Fails (repeat (more_elements t) c.in_ok-count-2.count no_elements) c.in_ok-count-2.rest.now c.in_err-elements.field-0.0) c.in_err-elements.ensures))

pub returns-in_err-rest-3-clause-gives : goal.returns-in_err-rest-3-clause-gives
unfolding msh_rules
returns-in_err-rest-3-clause-gives c =
    let p = err_from_is_err_and c.from_residual-in_err-rest-3.result c.from_residual-in_err-rest-3.ensures.1 in
    rw (p.1, p.2) (fails c.in_err-rest-3.field-0.0 (goes_on (goes_on (goes_on (goes_on (goes_on (goes_on (starts (msh_rules c.args.d) c.args.bytes.now) c.in_ok-rest.ensures) c.in_ok-count.ensures.gives) c.in_ok-nodes.ensures.gives) c.in_ok-rest-2.ensures) c.in_ok-count-2.ensures.gives) (elements_by_marks c.deref-2.result.now c.in_ok-marks.marks.items c.deref.result.now c.in_ok-nodes.nodes.items c.deref-2.ensures.value c.deref.ensures.value c.in_ok-marks.ensures.marks (λ (t : ℕ → Bool). Reads (repeat (more_elements t) c.in_ok-count-2.count no_elements) c.in_ok-count-2.rest.now c.in_ok-elements.elements c.in_ok-elements.rest.now) c.in_ok-elements.ensures)) c.in_err-rest-3.ensures)

pub returns-clause-gives : goal.returns-clause-gives
unfolding msh_rules
returns-clause-gives c =
    subst (λ (ns : List MshNode). Reads (msh_rules c.args.d) c.args.bytes.now (record { digits = c.args.d; nodes = ns; tets = c.in_ok-elements.elements.tets; tracked = c.in_ok-elements.elements.tracked }) c.in_ok-rest-3.rest.now) (sym c.from_vec.ensures)
    (ends (goes_on (goes_on (goes_on (goes_on (goes_on (goes_on (goes_on (starts (msh_rules c.args.d) c.args.bytes.now) c.in_ok-rest.ensures) c.in_ok-count.ensures.gives) c.in_ok-nodes.ensures.gives) c.in_ok-rest-2.ensures) c.in_ok-count-2.ensures.gives) (elements_by_marks c.deref-2.result.now c.in_ok-marks.marks.items c.deref.result.now c.in_ok-nodes.nodes.items c.deref-2.ensures.value c.deref.ensures.value c.in_ok-marks.ensures.marks (λ (t : ℕ → Bool). Reads (repeat (more_elements t) c.in_ok-count-2.count no_elements) c.in_ok-count-2.rest.now c.in_ok-elements.elements c.in_ok-elements.rest.now) c.in_ok-elements.ensures)) c.in_ok-rest-3.ensures))

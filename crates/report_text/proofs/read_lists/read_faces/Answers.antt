use Rattle.std.proofs.Common.{[], ◌∷◌, ◌++◌}
use Rattle.std.proofs.lemmas.Result.{err_from_is_err_and}
use Rattle.lines.specs.Forms.{repeat}
use Rattle.lines.proofs.ForCallers.{starts, goes_on, ends, fails, repeats, repeat_stops, repeats_all}
use Rattle.report_text.specs.Rules.{more_faces}
use Rattle.report_text.proofs.read_lists.read_faces.Goals as goal

pub returns-in_err-behind : goal.returns-in_err-behind
unfolding more_faces
returns-in_err-behind c =
    let p = err_from_is_err_and c.from_residual.result c.from_residual.ensures.1 in
    rw (p.1, p.2) (repeat_stops (repeat (more_faces) c.args.count []) c.args.bytes.now (more_faces) c.args.count c.loop.counter c.loop.faces.items c.loop.rest.now c.in_err-behind.field-0.0 c.loop-test.true c.loop.invariant
    (fails c.in_err-behind.field-0.0 (starts (more_faces c.loop.faces.items) c.loop.rest.now) c.in_err-behind.ensures))

pub returns-in_err-a : goal.returns-in_err-a
unfolding more_faces
returns-in_err-a c =
    let p = err_from_is_err_and c.from_residual-in_err-a.result c.from_residual-in_err-a.ensures.1 in
    rw (p.1, p.2) (repeat_stops (repeat (more_faces) c.args.count []) c.args.bytes.now (more_faces) c.args.count c.loop.counter c.loop.faces.items c.loop.rest.now c.in_err-a.field-0.0 c.loop-test.true c.loop.invariant
    (fails c.in_err-a.field-0.0 (goes_on (starts (more_faces c.loop.faces.items) c.loop.rest.now) c.in_ok-behind.ensures) c.in_err-a.ensures.gives))

pub returns-in_err-b : goal.returns-in_err-b
unfolding more_faces
returns-in_err-b c =
    let p = err_from_is_err_and c.from_residual-in_err-b.result c.from_residual-in_err-b.ensures.1 in
    rw (p.1, p.2) (repeat_stops (repeat (more_faces) c.args.count []) c.args.bytes.now (more_faces) c.args.count c.loop.counter c.loop.faces.items c.loop.rest.now c.in_err-b.field-0.0 c.loop-test.true c.loop.invariant
    (fails c.in_err-b.field-0.0 (goes_on (goes_on (starts (more_faces c.loop.faces.items) c.loop.rest.now) c.in_ok-behind.ensures) c.in_ok-a.ensures.gives) c.in_err-b.ensures.gives))

pub returns-in_err-c : goal.returns-in_err-c
unfolding more_faces
returns-in_err-c c =
    let p = err_from_is_err_and c.from_residual-in_err-c.result c.from_residual-in_err-c.ensures.1 in
    rw (p.1, p.2) (repeat_stops (repeat (more_faces) c.args.count []) c.args.bytes.now (more_faces) c.args.count c.loop.counter c.loop.faces.items c.loop.rest.now c.in_err-c.field-0.0 c.loop-test.true c.loop.invariant
    (fails c.in_err-c.field-0.0 (goes_on (goes_on (goes_on (starts (more_faces c.loop.faces.items) c.loop.rest.now) c.in_ok-behind.ensures) c.in_ok-a.ensures.gives) c.in_ok-b.ensures.gives) c.in_err-c.ensures.gives))

pub returns-in_err-cert : goal.returns-in_err-cert
unfolding more_faces
returns-in_err-cert c =
    let p = err_from_is_err_and c.from_residual-in_err-cert.result c.from_residual-in_err-cert.ensures.1 in
    rw (p.1, p.2) (repeat_stops (repeat (more_faces) c.args.count []) c.args.bytes.now (more_faces) c.args.count c.loop.counter c.loop.faces.items c.loop.rest.now c.in_err-cert.field-0.0 c.loop-test.true c.loop.invariant
    (fails c.in_err-cert.field-0.0 (goes_on (goes_on (goes_on (goes_on (starts (more_faces c.loop.faces.items) c.loop.rest.now) c.in_ok-behind.ensures) c.in_ok-a.ensures.gives) c.in_ok-b.ensures.gives) c.in_ok-c.ensures.gives) c.in_err-cert.ensures))

pub loop-preserved : goal.loop-preserved
unfolding more_faces
loop-preserved c = rw c.in_ok-push.ensures.items (repeats (repeat (more_faces) c.args.count []) c.args.bytes.now (more_faces) c.args.count c.loop.counter c.loop.faces.items c.loop.rest.now (c.loop.faces.items ++ record { face = record { 0 = c.in_ok-a.a ∷ c.in_ok-b.b ∷ c.in_ok-c.c ∷ [] }; cert = c.in_ok-cert.cert } ∷ []) c.in_ok-cert.behind.now c.loop-test.true c.loop.invariant
    (ends (goes_on (goes_on (goes_on (goes_on (goes_on (starts (more_faces c.loop.faces.items) c.loop.rest.now) c.in_ok-behind.ensures) c.in_ok-a.ensures.gives) c.in_ok-b.ensures.gives) c.in_ok-c.ensures.gives) c.in_ok-cert.ensures)))

pub returns : goal.returns
returns c = repeats_all (repeat (more_faces) c.args.count []) c.args.bytes.now (more_faces) c.args.count c.loop.counter c.loop.faces.items c.loop.rest.now c.loop-test.false c.loop.invariant

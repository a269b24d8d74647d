use Rattle.std.proofs.Common.{ℕ, List, subst, ◌∙◌}
use Rattle.mesh_io.specs.Sink.{Appended}
use Rattle.checking.proofs.Judging.{refused, judged, told_of, unsaid}
use Rattle.checking.proofs.command.check.Goals as goal

pub returns-in-Err : goal.returns-in-Err
returns-in-Err g c =
    rw c.refuse.ensures.status
    (refused c.args.job.now (g.F.Folder.state c.args.folder.now) (g.F.Folder.state c.read_case.new.folder) (g.O.Sink.state c.args.out.now) (g.O.Sink.state c.refuse.new.out) c.in-Err.issue c.in-Err.ensures.reads c.refuse.ensures.line)

pub returns-in-Ok-write_all : goal.returns-in-Ok-write_all
returns-in-Ok-write_all g c =
    let job = c.args.job.now in
    let old = g.F.Folder.state c.args.folder.now in
    let new = g.F.Folder.state c.read_case.new.folder in
    let told = c.in-Ok-judge.told in
    rw c.status_of.ensures
    (told_of job old new (g.O.Sink.state c.args.out.now) (g.O.Sink.state c.write_all.new.sink) c.in-Ok.case told.finding c.in-Ok.ensures.reads
    (judged job old new c.in-Ok.case told.finding c.in-Ok.ensures.reads c.in-Ok-judge.ensures.finding c.in-Ok-judge.ensures.sound)
    c.in-Ok-judge.ensures.finding
    (subst (λ (l : List ℕ). Appended (g.O.Sink.state c.args.out.now) (g.O.Sink.state c.write_all.new.sink) l) (c.deref.ensures.value ∙ c.in-Ok-judge.ensures.line) c.in-Ok-write_all.ensures.ok))

pub returns-in-Ok-judge : goal.returns-in-Ok-judge
returns-in-Ok-judge g c =
    let job = c.args.job.now in
    let old = g.F.Folder.state c.args.folder.now in
    let new = g.F.Folder.state c.read_case.new.folder in
    let told = c.in-Ok-judge.told in
    unsaid job old new (g.O.Sink.state c.args.out.now) (g.O.Sink.state c.write_all.new.sink) c.in-Ok.case told.finding c.in-Err-write_all.field-0 c.in-Ok.ensures.reads
    (judged job old new c.in-Ok.case told.finding c.in-Ok.ensures.reads c.in-Ok-judge.ensures.finding c.in-Ok-judge.ensures.sound)
    (rw (c.deref.ensures.value ∙ c.in-Ok-judge.ensures.line) at c.in-Err-write_all.ensures)

use Rattle.std.proofs.Common.{map, ap, Ok, ◌∙◌}
use Rattle.tet_words.specs.declared.job.Job.TheVariants as jobs
use Rattle.mesh_run.proofs.Answering.{answered, mesh_done, check_done, demo_done, words_refused, no_job}
use Rattle.mesh_run.proofs.program.run.Goals as goal

pub returns-in-Ok-Mesh : goal.returns-in-Ok-Mesh
returns-in-Ok-Mesh g c =
    answered (map (λ w. w.now) c.args.words.now) (jobs.Mesh c.in-Ok-Mesh.job) (g.F.Folder.state c.args.folder.now) (g.F.Folder.state c.mesh.new.folder) (g.O.Sink.state c.args.out.now) (g.O.Sink.state c.mesh.new.out) c.mesh.result
    (c.in-Ok-Mesh.ensures.answers ∙ ap Ok c.in-Ok-Mesh.field-0-is)
    (mesh_done c.in-Ok-Mesh.job (g.F.Folder.state c.args.folder.now) (g.F.Folder.state c.mesh.new.folder) (g.O.Sink.state c.args.out.now) (g.O.Sink.state c.mesh.new.out) c.mesh.result c.mesh.ensures)

pub returns-in-Ok-Check : goal.returns-in-Ok-Check
returns-in-Ok-Check g c =
    answered (map (λ w. w.now) c.args.words.now) (jobs.Check c.in-Ok-Check.job) (g.F.Folder.state c.args.folder.now) (g.F.Folder.state c.check.new.folder) (g.O.Sink.state c.args.out.now) (g.O.Sink.state c.check.new.out) c.check.result
    (c.in-Ok-Check.ensures.answers ∙ ap Ok c.in-Ok-Check.field-0-is)
    (check_done c.in-Ok-Check.job (g.F.Folder.state c.args.folder.now) (g.F.Folder.state c.check.new.folder) (g.O.Sink.state c.args.out.now) (g.O.Sink.state c.check.new.out) c.check.result c.check.ensures)

pub returns-in-Ok-Demo : goal.returns-in-Ok-Demo
returns-in-Ok-Demo g c =
    answered (map (λ w. w.now) c.args.words.now) (jobs.Demo c.in-Ok-Demo.job) (g.F.Folder.state c.args.folder.now) (g.F.Folder.state c.demo.new.folder) (g.O.Sink.state c.args.out.now) (g.O.Sink.state c.demo.new.out) c.demo.result
    (c.in-Ok-Demo.ensures.answers ∙ ap Ok c.in-Ok-Demo.field-0-is)
    (demo_done c.in-Ok-Demo.job (g.F.Folder.state c.args.folder.now) (g.F.Folder.state c.demo.new.folder) (g.O.Sink.state c.args.out.now) (g.O.Sink.state c.demo.new.out) c.demo.result c.demo.ensures)

pub returns-in-Err-Refused : goal.returns-in-Err-Refused
returns-in-Err-Refused g c =
    words_refused (map (λ w. w.now) c.args.words.now) c.in-Err-Refused.fault (g.F.Folder.state c.args.folder.now) (g.O.Sink.state c.args.out.now) (g.O.Sink.state c.say_three.new.out)
    (rw c.in-Err-Refused.field-0-is at c.in-Err-Refused.ensures.answers) (rw c.in-Err-Refused.field-0-is at (rw c.text.ensures at (rw c.as_bytes.ensures.value at c.say_three.ensures)))

pub returns-in-Err-Memory : goal.returns-in-Err-Memory
returns-in-Err-Memory g c = no_job (map (λ w. w.now) c.args.words.now) (g.F.Folder.state c.args.folder.now) (g.O.Sink.state c.args.out.now) (g.O.Sink.state c.say.new.out) c.say.ensures

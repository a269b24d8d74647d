use Rattle.mesh_run.proofs.Working.{demo-limits, no_demo, demoed}
use Rattle.mesh_run.proofs.meshing.demo.Goals as goal

pub finish-requires-clause-asked : goal.finish-requires-clause-asked
finish-requires-clause-asked g c = demo-limits

pub finish-requires-clause-names : goal.finish-requires-clause-names
finish-requires-clause-names g c = rw c.in-Ok.ensures.files c.requires.names.different

pub returns-in-Ok : goal.returns-in-Ok
returns-in-Ok g c =
    demoed c.args.job c.requires (g.F.Folder.state c.args.folder.now) (g.F.Folder.state c.finish.new.folder) (g.O.Sink.state c.args.out.now) (g.O.Sink.state c.finish.new.out) c.finish.result
    (rw c.in-Ok.ensures.soup at (rw c.in-Ok.ensures.files at c.finish.ensures))

pub returns-in-Err : goal.returns-in-Err
returns-in-Err g c =
    no_demo c.args.job (g.F.Folder.state c.args.folder.now) (g.O.Sink.state c.args.out.now) (g.O.Sink.state c.say.new.out) c.say.ensures

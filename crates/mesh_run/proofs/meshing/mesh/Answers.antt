use Rattle.mesh_run.proofs.Working.{refused, meshed, asked-limits}
use Rattle.mesh_run.proofs.meshing.mesh.Goals as goal

pub finish-requires-clause-asked : goal.finish-requires-clause-asked
finish-requires-clause-asked g c = asked-limits c.args.job c.requires

pub finish-requires-clause-names : goal.finish-requires-clause-names
finish-requires-clause-names g c = rw c.new.ensures.items c.requires.names.different.1

pub returns-in-Err : goal.returns-in-Err
returns-in-Err g c =
    rw c.refuse.ensures.status
    (refused c.args.job (g.F.Folder.state c.args.folder.now) (g.F.Folder.state c.read_soup.new.folder) (g.O.Sink.state c.args.out.now) (g.O.Sink.state c.refuse.new.out) c.in-Err.issue
    (rw c.as_str-input.ensures at c.in-Err.ensures.reads) c.refuse.ensures.line)

pub returns : goal.returns
returns g c =
    meshed c.args.job c.requires (g.F.Folder.state c.args.folder.now) (g.F.Folder.state c.read_soup.new.folder) (g.F.Folder.state c.finish.new.folder) (g.O.Sink.state c.args.out.now) (g.O.Sink.state c.finish.new.out) c.in-Ok.soup c.finish.result
    (rw c.as_str-input.ensures at c.in-Ok.ensures.reads) (rw c.new.ensures.items at c.finish.ensures)

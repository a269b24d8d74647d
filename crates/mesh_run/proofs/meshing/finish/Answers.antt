use Rattle.outputs.proofs.Making.{names_differ}
use Rattle.mesh_run.proofs.Working.{no_texts, written}
use Rattle.mesh_run.proofs.meshing.finish.Goals as goal

pub write_texts-requires : goal.write_texts-requires
write_texts-requires g c = names_differ c.args.asked c.args.names c.args.first.items c.args.soup.now c.in-Ok.texts c.requires.names c.in-Ok.ensures

pub returns-in-Ok : goal.returns-in-Ok
returns-in-Ok g c =
    written c.args.asked c.args.names c.args.first.items c.args.soup.now c.in-Ok.texts c.requires.asked c.requires.boxed (g.F.Folder.state c.args.folder.now) (g.F.Folder.state c.write_texts.new.folder) (g.O.Sink.state c.args.out.now) (g.O.Sink.state c.write_texts.new.out) c.write_texts.result
    c.in-Ok.ensures c.write_texts.ensures

pub returns-in-Err : goal.returns-in-Err
returns-in-Err g c =
    no_texts c.args.asked c.args.names c.args.first.items c.args.soup.now (g.F.Folder.state c.args.folder.now) (g.O.Sink.state c.args.out.now) (g.O.Sink.state c.say.new.out) c.say.ensures

use Rattle.mesh_io.proofs.ReadSoFar.{whole}
use Rattle.mesh_io.proofs.read.read_all.Goals as goal

pub returns-in-Ok-vec : goal.returns-in-Ok-vec
returns-in-Ok-vec g c = whole (g.F.Folder.state c.args.folder.now) (g.F.Folder.state c.open.new.self) (g.F.Folder.state c.read_rest.new.folder) c.args.name.now c.args.limit c.read_rest.result c.in-Ok.ensures.call c.in-Ok.ensures.quiet c.in-Ok.ensures.ok c.read_rest.ensures

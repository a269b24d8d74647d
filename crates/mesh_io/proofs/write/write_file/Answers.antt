use Rattle.std.proofs.Common.{arith}
use Rattle.std.proofs.lemmas.Grind.{common_steps}
use Rattle.mesh_io.proofs.Written.{writes_on}
use Rattle.mesh_io.proofs.write.write_file.Goals as goal

pub loop-rest-preserved : goal.loop-rest-preserved
loop-rest-preserved g c = writes_on (g.F.Folder.state c.args.folder.now) (g.F.Folder.state c.loop-rest.folder) (g.F.Folder.state c.write.new.self) c.args.name.now c.args.bytes.now c.loop-rest.rest.now _ c.in_ok-count.count c.loop-rest.invariant c.in_ok-count.ensures (grind (arith, common_steps))

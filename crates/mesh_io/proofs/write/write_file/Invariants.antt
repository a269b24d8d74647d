use Rattle.std.proofs.Common.{length}
use Rattle.mesh_io.proofs.Written.{HasWritten}
use Rattle.mesh_io.proofs.write.write_file.Given as goal

abbrev pub invariant-loop-rest : goal.invariant-loop-rest
invariant-loop-rest g l = HasWritten (g.F.Folder.state l.fn.folder) (g.F.Folder.state l.folder) l.name l.bytes l.rest

abbrev pub decreases-loop-rest : goal.decreases-loop-rest
decreases-loop-rest g l = length l.rest

use Rattle.std.proofs.Common.{length}
use Rattle.mesh_io.proofs.Written.{HasAppended}
use Rattle.mesh_io.proofs.write.write_all.Given as goal

abbrev pub invariant-loop-rest : goal.invariant-loop-rest
invariant-loop-rest g l = HasAppended (g.O.Sink.state l.initial.sink) (g.O.Sink.state l.sink) l.bytes l.rest

abbrev pub decreases-loop-rest : goal.decreases-loop-rest
decreases-loop-rest g l = length l.rest

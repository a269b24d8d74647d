use Rattle.std.proofs.Common.{arith}
use Rattle.std.proofs.lemmas.Grind.{common_steps}
use Rattle.mesh_io.proofs.Written.{appends_on}
use Rattle.mesh_io.proofs.write.write_all.Goals as goal

pub loop-rest-preserved : goal.loop-rest-preserved
loop-rest-preserved g c = appends_on (g.O.Sink.state c.args.sink.now) (g.O.Sink.state c.loop-rest.sink) (g.O.Sink.state c.write.new.self) c.args.bytes.now c.loop-rest.rest.now _ c.in_ok-count.count c.loop-rest.invariant c.in_ok-count.ensures (grind (arith, common_steps))

use Rattle.std.proofs.Common.{arith, ap, length, ◌≡◌, ◌++◌, take, length-append, length-take}
use Rattle.std.proofs.lemmas.Grind.{common_steps}
use Rattle.mesh_io.proofs.ReadSoFar.{goes_on}
use Rattle.mesh_io.proofs.read.read_rest.Goals as goal

pub loop-count-preserved : goal.loop-count-preserved
loop-count-preserved g c =
    let more : c.extend_from_slice.new.self.items ≡ c.loop-count.bytes.items ++ take c.in-Ok.count c.read.new.into = grind (arith, common_steps) in
    record {
      read = goes_on (g.F.Folder.state c.args.folder.now) (g.F.Folder.state c.loop-count.folder) (g.F.Folder.state c.read.new.self) c.loop-count.bytes.items c.read.new.into c.extend_from_slice.new.self.items c.in-Ok.count c.loop-count.invariant.read c.in-Ok.ensures more;
      short = omega (arith, ap length more, length-append c.loop-count.bytes.items (take c.in-Ok.count c.read.new.into), length-take c.in-Ok.count c.read.new.into);
    }

use Rattle.std.proofs.Common.{length, ◌+◌, ◌-◌, ◌≤◌}
use Rattle.mesh_io.proofs.ReadSoFar.{HasRead}
use Rattle.mesh_io.proofs.read.read_rest.Given as goal

abbrev pub invariant-loop-count : goal.invariant-loop-count
invariant-loop-count g l = record {
  read : HasRead (g.F.Folder.state l.initial.folder) (g.F.Folder.state l.folder) l.bytes.items;
  short : length l.bytes.items ≤ l.limit;
}

abbrev pub decreases-loop-count : goal.decreases-loop-count
decreases-loop-count g l = l.limit + 1 - length l.bytes.items

use Rattle.std.proofs.Common.{◌≤◌}
use Rattle.insertion.proofs.FreshFaces.{FoundTo}
use Rattle.insertion.proofs.bare.fresh_faces.Given as goal

abbrev pub invariant-loop-u : goal.invariant-loop-u
invariant-loop-u l = record {
  from : l.first ≤ l.u;
  found : FoundTo l.tracked l.first l.u l.faces.items;
}

use Rattle.std.proofs.Common.{◌≡◌, take}
use Rattle.mesh_store.specs.Changes.{IsSameTransaction, points_made}
use Rattle.mesh_store.proofs.store.Store.make_points.Given as goal

abbrev pub invariant-loop-cut : goal.invariant-loop-cut
invariant-loop-cut l = record {
  parts : l.self.parts ≡ points_made (take l.cut-index l.cuts) l.initial.self.parts;
  goes_on : IsSameTransaction l.initial.self l.self;
}

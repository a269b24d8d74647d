use Rattle.std.proofs.Common.{◌≡◌, drop}
use Rattle.grid.specs.Views.{triples_of}
use Rattle.mesh_store.specs.Changes.{IsSameTransaction, all_put}
use Rattle.mesh_store.proofs.store.Store.track_all.Given as goal

abbrev pub invariant-loop-face : goal.invariant-loop-face
invariant-loop-face l = record {
  parts : all_put (triples_of (drop l.face-index l.faces)) l.self.parts ≡ all_put (triples_of l.faces) l.initial.self.parts;
  points : l.self.parts.points ≡ l.initial.self.parts.points;
  goes_on : IsSameTransaction l.initial.self l.self;
}

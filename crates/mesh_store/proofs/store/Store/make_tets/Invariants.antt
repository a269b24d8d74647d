use Rattle.std.proofs.Common.{◌≡◌, take}
use Rattle.grid.specs.Views.{corners_of}
use Rattle.mesh_store.specs.Changes.{IsSameTransaction, tets_made}
use Rattle.mesh_store.proofs.store.Store.make_tets.Given as goal

abbrev pub invariant-loop-tet : goal.invariant-loop-tet
invariant-loop-tet l = record {
  parts : l.self.parts ≡ tets_made (corners_of (take l.tet-index l.tets)) l.initial.self.parts;
  goes_on : IsSameTransaction l.initial.self l.self;
}

use Rattle.std.proofs.Common.{◌≡◌, drop}
use Rattle.std.specs.List.{list_any}
use Rattle.grid.specs.Views.{triples_of}
use Rattle.grid.specs.Simplices.{same_triple}
use Rattle.local_ops.proofs.covering.is_listed.Given as goal

abbrev pub invariant-loop-other : goal.invariant-loop-other
invariant-loop-other l = list_any (same_triple l.face.0) (triples_of (drop l.other-index l.faces)) ≡ list_any (same_triple l.face.0) (triples_of l.faces)

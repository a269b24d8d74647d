use Rattle.std.proofs.Common.{◌≡◌, drop}
use Rattle.std.specs.Prelude.{nat_lt}
use Rattle.std.specs.List.{list_all}
use Rattle.grid.specs.Simplices.{count, faces}
use Rattle.grid.specs.Views.{corners_of, triples_of}
use Rattle.plain_ops.proofs.after.has_single_faces.Given as goal

abbrev pub invariant-loop-face : goal.invariant-loop-face
invariant-loop-face l = record {
  are : triples_of l.face-items ≡ faces l.fn.tet.0;
  rest : list_all (λ g. nat_lt (count g (corners_of l.tets)) 2) (triples_of (drop l.face-index l.face-items)) ≡ list_all (λ g. nat_lt (count g (corners_of l.tets)) 2) (faces l.fn.tet.0);
}

use Rattle.std.proofs.Common.{take, flat_map}
use Rattle.grid.specs.declared.shapes.Tet.{Tet}
use Rattle.grid.specs.Simplices.{faces}
use Rattle.face_table.specs.Passes.{AreCounted}
use Rattle.face_table.proofs.pairs.first_repeat.Given as goal

abbrev pub invariant-loop-tet : goal.invariant-loop-tet
invariant-loop-tet l = AreCounted l.table (flat_map (λ (t : Tet). faces t.0) (take l.tet-index l.tets))

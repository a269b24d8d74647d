use Rattle.std.proofs.Common.{take, flat_map}
use Rattle.grid.specs.declared.shapes.Tet.{Tet}
use Rattle.grid.specs.Simplices.{faces}
use Rattle.face_table.specs.Pairing.{LooseHave, LieOnOneSide}
use Rattle.face_table.proofs.pairs.first_loose.Given as goal

abbrev pub invariant-loop-tet : goal.invariant-loop-tet
invariant-loop-tet l = LooseHave (LieOnOneSide l.points l.fn.side) l.table (flat_map (λ (t : Tet). faces t.0) (take l.tet-index l.tets))

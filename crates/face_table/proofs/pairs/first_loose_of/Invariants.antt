use Rattle.std.proofs.Common.{[], ◌∷◌, take, flat_map}
use Rattle.grid.specs.declared.shapes.Face.{Face}
use Rattle.face_table.specs.Pairing.{LooseHave, LieOnOneSide}
use Rattle.face_table.proofs.pairs.first_loose_of.Given as goal

abbrev pub invariant-loop-face : goal.invariant-loop-face
invariant-loop-face l = LooseHave (LieOnOneSide l.points l.fn.side) l.table (flat_map (λ (f : Face). f.0 ∷ []) (take l.face-index l.face-items))

use Rattle.std.proofs.Common.{◌≡◌, take, map, true}
use Rattle.mesh_store.proofs.filling.tracking.Given as goal

abbrev pub invariant-loop-face : goal.invariant-loop-face
invariant-loop-face l = l.tracked ≡ map (λ f. (f, true)) (take l.face-index l.faces)

use Rattle.std.proofs.Common.{◌≡◌, ◌++◌, drop, filter}
use Rattle.grid.specs.Simplices.{has}
use Rattle.mesh_store.proofs.touching.push_having.Given as goal

abbrev pub invariant-loop-face : goal.invariant-loop-face
invariant-loop-face l = l.touched.items ++ filter (λ f. has f.0 l.v) (drop l.face-index l.faces) ≡ l.initial.touched.items ++ filter (λ f. has f.0 l.v) l.faces

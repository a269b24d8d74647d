use Rattle.std.proofs.Common.{◌≡◌, map, take}
use Rattle.soup.specs.Placement.{placed_triangle}
use Rattle.soup.proofs.moves.placed_triangles.Given as goal

abbrev pub invariant-loop-face : goal.invariant-loop-face
invariant-loop-face l = l.triangles.items ≡ map (placed_triangle l.shift l.vertices) (take l.face-index l.faces)

use Rattle.std.proofs.Common.{◌≡◌}
use Rattle.soup.specs.HeightField.{square_at}
use Rattle.soup.proofs.Places.{so_far}
use Rattle.soup.proofs.terrain.faces.Given as goal

abbrev pub invariant-loop-i : goal.invariant-loop-i
invariant-loop-i l = l.faces.items ≡ so_far (square_at l.k) l.k l.i l.j

abbrev pub invariant-loop-j : goal.invariant-loop-j
invariant-loop-j l = l.faces.items ≡ so_far (square_at l.k) l.k 0 l.j

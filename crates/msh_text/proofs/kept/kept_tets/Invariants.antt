use Rattle.std.proofs.Common.{◌≡◌, take}
use Rattle.msh_text.specs.FileMesh.{kept_tets}
use Rattle.msh_text.proofs.kept.kept_tets.Given as goal

abbrev pub invariant-loop-tet : goal.invariant-loop-tet
invariant-loop-tet l = l.kept.items ≡ kept_tets (take l.tet-index l.tets)

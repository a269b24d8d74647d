use Rattle.std.proofs.Common.{◌≡◌, drop}
use Rattle.mesh_io.specs.MemFiles.{lookup}
use Rattle.mesh_io.proofs.mem_place.find.Given as goal

-- the first files have other names
abbrev pub invariant-loop-i : goal.invariant-loop-i
invariant-loop-i l = lookup l.files l.name ≡ lookup (drop l.i l.files) l.name

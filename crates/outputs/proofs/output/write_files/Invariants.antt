use Rattle.std.proofs.Common.{take}
use Rattle.outputs.proofs.Writing.{SoFar}
use Rattle.outputs.proofs.output.write_files.Given as goal

abbrev pub invariant-loop-file : goal.invariant-loop-file
invariant-loop-file g l = SoFar (take l.file-index l.files) (g.F.Folder.state l.fn.folder) (g.F.Folder.state l.folder)

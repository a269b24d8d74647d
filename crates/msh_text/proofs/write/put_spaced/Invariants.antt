use Rattle.std.proofs.Common.{◌≡◌, ◌++◌, take}
use Rattle.msh_text.specs.Text.{spaced}
use Rattle.msh_text.proofs.write.put_spaced.Given as goal

abbrev pub invariant-loop-n : goal.invariant-loop-n
invariant-loop-n l = l.out.items ≡ l.initial.out.items ++ spaced (take l.n-index l.numbers)

use Rattle.std.proofs.Common.{◌≡◌, drop, map}
use Rattle.tet_words.specs.Names.{has_equal}
use Rattle.tet_words.proofs.names.has_equal.Given as goal

abbrev pub invariant-loop-i : goal.invariant-loop-i
invariant-loop-i l = has_equal (map (λ n. n.now) (drop l.i l.names)) ≡ has_equal (map (λ n. n.now) l.names)

use Rattle.std.proofs.Common.{◌≡◌, drop, map}
use Rattle.std.specs.List.{list_any}
use Rattle.tet_words.specs.Names.{is_bad}
use Rattle.tet_words.proofs.names.has_bad.Given as goal

abbrev pub invariant-loop-name : goal.invariant-loop-name
invariant-loop-name l = list_any is_bad (map (λ n. n.now) (drop l.name-index l.names)) ≡ list_any is_bad (map (λ n. n.now) l.names)

use Rattle.std.proofs.Common.{map, sym, ◌∙◌}
use Rattle.tet_words.proofs.Ranges.{are_names}
use Rattle.tet_words.proofs.names.check_names.Goals as goal

pub returns-clause-names : goal.returns-clause-names
returns-clause-names c = are_names (map (λ n. n.now) c.args.names.now) (sym c.has_bad.ensures ∙ c.if-has_bad.false) (sym c.has_equal.ensures ∙ c.if-has_equal.false)

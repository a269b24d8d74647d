use Rattle.std.proofs.Common.{sym, ◌∙◌}
use Rattle.tet_words.proofs.Ranges.{is_cells_power}
use Rattle.tet_words.proofs.numbers.cells_in.Goals as goal

pub returns-clause-cells : goal.returns-clause-cells
returns-clause-cells c = is_cells_power c.in_ok-n.n (sym c.is_cells.ensures ∙ c.if-not-is_cells.false)

-- The numbers of a report by which its soup is placed.
use Rattle.std.proofs.Common.{◌≡◌, ℕ, ◌≤◌, ◌^◌, true, List, refl, sym, subst, ◌∙◌, lit≤, eqb}
use Rattle.std.specs.Prelude.{codes}
use Rattle.std.proofs.lemmas.Bool.{true≢false, eqb-true}
use Rattle.tet_words.proofs.Ranges.{first_or}
use Rattle.grid.specs.Limits.{IsCells, most_epsilon}
use Rattle.lines.specs.Forms.{Reads}
use Rattle.lines.specs.Fields.{Between}
use Rattle.report_text.specs.declared.report.Report.{Report}
use Rattle.report_text.specs.Rules.{cell_counts, is_one_of, report_rules}
use Rattle.report_text.specs.Rules as rules
use Rattle.report_text.proofs.ForCallers.{named_is}

-- ---- cells
power_of : (n k power : ℕ) → k ≡ 2 ^ power → power ≤ 5 → eqb k n ≡ true → IsCells n
power_of n k power is most same = record { power = power; power_most = most; is = sym (eqb-true k n same) ∙ is }

cells_of : (n : ℕ) → is_one_of cell_counts n ≡ true → IsCells n
cells_of n =
    first_or (eqb 1 n) _ (power_of n 1 0 refl (lit≤ tt))
    (first_or (eqb 2 n) _ (power_of n 2 1 refl (lit≤ tt))
    (first_or (eqb 4 n) _ (power_of n 4 2 refl (lit≤ tt))
    (first_or (eqb 8 n) _ (power_of n 8 3 refl (lit≤ tt))
    (first_or (eqb 16 n) _ (power_of n 16 4 refl (lit≤ tt))
    (first_or (eqb 32 n) _ (power_of n 32 5 refl (lit≤ tt)) (λ none. absurd (true≢false (sym none))))))))

-- ---- what the rules say
pub record HasNumbers (r : Report) : Type 0 where
  pub epsilon_least : 1 ≤ r.epsilon
  pub epsilon_most : r.epsilon ≤ most_epsilon
  pub cells : IsCells r.cells

pub numbers-of : (r : Report) (bytes rest : List ℕ) → Reads report_rules bytes r rest → HasNumbers r
unfolding Reads report_rules
numbers-of r bytes rest h =
    let epsilon = h.3 in
    let cells = epsilon.3 in
    let epsilon_is = named_is (codes "epsilon ") (Between 1 most_epsilon) epsilon.0 _ _ epsilon.2 in
    let cells_is = named_is (codes "cells ") rules.IsCells cells.0 _ _ cells.2 in
    subst HasNumbers cells.3.3.3.3.3.3.3.3.3.0 (record { epsilon_least = epsilon_is.0; epsilon_most = epsilon_is.1; cells = cells_of cells.0 cells_is.1 })

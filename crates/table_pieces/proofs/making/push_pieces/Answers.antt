use Rattle.std.proofs.Common.{ℕ, List, ◌++◌, ◌∙◌, ap, map, subst, sym}
use Rattle.grid.specs.Simplices.{Rises}
use Rattle.grid.specs.Views.{corners_of}
use Rattle.grid.proofs.ForCallers.{rising-Rises}
use Rattle.table_pieces.specs.Labels.{arranged, number_at}
use Rattle.table_pieces.proofs.Names.{pieces-are}
use Rattle.table_pieces.proofs.Rows.{row-few, row-is}
use Rattle.table_pieces.proofs.making.push_pieces.Goals as goal

pub labels_of-labels-requires-clause-rise : goal.labels_of-labels-requires-clause-rise
labels_of-labels-requires-clause-rise c = subst Rises (sym c.rising-corners.ensures) (rising-Rises c.args.tet.0 c.requires.corners.different)

pub push_row-requires-clause-labels : goal.push_row-requires-clause-labels
push_row-requires-clause-labels c =
    let row = c.pieces-row in
    let mask = c.labels_of-labels.result.mask in
    row-few mask _ (row-is mask row.result.count row.result.list _ row.ensures.count row.ensures.pieces) row.ensures.labels

pub returns-in_ok-push_row : goal.returns-in_ok-push_row
returns-in_ok-push_row c =
    let row = c.pieces-row in
    let labels = c.labels_of-labels in
    let f : List ℕ → List ℕ = λ y. arranged c.ranks.result (map (number_at labels.result.numbers) y) in
    c.in_ok-push_row.ensures
    ∙ ap (λ (ys : List (List ℕ)). corners_of c.args.all.now.items ++ ys)
    (ap (map f) (row-is labels.result.mask row.result.count row.result.list _ row.ensures.count row.ensures.pieces)
    ∙ pieces-are c.args.first c.args.cuts.now c.args.tet.0 c.rising-corners.result labels.result.numbers c.ranks.result labels.result.mask c.rising-corners.ensures c.requires.corners c.requires.cuts labels.ensures c.ranks.ensures)

use Rattle.std.proofs.Common.{ℕ, subst, sym, ap, ◌∙◌, pos, arith}
use Rattle.soup.specs.declared.raw.Soup.{Soup}
use Rattle.soup.specs.Placement.{IsLeastSide, IsInItsBox}
use Rattle.soup.proofs.Boxed.{side_is, in_its_box, least_side}
use Rattle.soup.proofs.placing.place.Goals as goal

pub placed_in-requires-clause-fits : goal.placed_in-requires-clause-fits
placed_in-requires-clause-fits c =
    let l = side_is c.args.raw.now c.args.e c.args.cells _ _ _ c.requires.cells c.measure_of-measure.ensures.extent_is c.max.ensures c.side_for-side.ensures c.if-room-gt-MOST_ROOM.false in
    omega (arith, l.has_room)

pub placed_in-requires-clause-side : goal.placed_in-requires-clause-side
placed_in-requires-clause-side c =
    (side_is c.args.raw.now c.args.e c.args.cells _ _ _ c.requires.cells c.measure_of-measure.ensures.extent_is c.max.ensures c.side_for-side.ensures c.if-room-gt-MOST_ROOM.false).most

pub returns-clause-least : goal.returns-clause-least
returns-clause-least c =
    let l = side_is c.args.raw.now c.args.e c.args.cells _ _ _ c.requires.cells c.measure_of-measure.ensures.extent_is c.max.ensures c.side_for-side.ensures c.if-room-gt-MOST_ROOM.false in
    subst (IsLeastSide c.args.raw.now c.args.e c.args.cells) (sym (ap (λ (soup : Soup). soup.side) c.in_ok-soup.ensures ∙ ap (λ (n : ℕ). pos n) l.is)) (least_side c.args.raw.now c.args.e c.args.cells l.needed)

pub returns-clause-inside : goal.returns-clause-inside
returns-clause-inside c =
    let l = side_is c.args.raw.now c.args.e c.args.cells _ _ _ c.requires.cells c.measure_of-measure.ensures.extent_is c.max.ensures c.side_for-side.ensures c.if-room-gt-MOST_ROOM.false in
    subst (λ (n : ℕ). IsInItsBox c.args.e n c.in_ok-soup.soup) l.is
    (subst (IsInItsBox c.args.e c.side_for-side.result) (sym c.in_ok-soup.ensures) (in_its_box c.args.raw.now c.side_for-side.result c.args.e c.requires.coordinates c.requires.corners l.has_room l.most))

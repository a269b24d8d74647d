use Rattle.std.proofs.Common.{◌≡◌, ap, sym, subst, map, take, get_or, length, nat_abs, arith, length-append, length-take}
use Rattle.std.proofs.lemmas.List.{length-map}
use Rattle.grid.specs.Boxes.{IsInBox}
use Rattle.mesh_types.specs.declared.cut.Cut.{Cut}
use Rattle.pieces.proofs.SplitLemmas.{no_cut}
use Rattle.mesh_store.specs.Parts.{StoreView, Parts}
use Rattle.mesh_store.proofs.store.Store.make_points.Goals as goal

pub make_point-requires-clause-in_box : goal.make_point-requires-clause-in_box
make_point-requires-clause-in_box c =
    subst (λ s. IsInBox (nat_abs s) (get_or c.args.cuts.now c.loop-cut.cut-index no_cut).at) (sym c.loop-cut.invariant.goes_on.side) (c.requires.in_box c.loop-cut.cut-index no_cut c.loop-cut-test.true)

pub returns-then-points-ge-MOST_POINTS-clause-full : goal.returns-then-points-ge-MOST_POINTS-clause-full
returns-then-points-ge-MOST_POINTS-clause-full c =
    let v : length c.self.inside.slots.points ≡ length c.loop-cut.self.parts.points = ap (λ (v : StoreView). length v.parts.points) c.self.view_is in
    let now = ap (λ (m : Parts). length m.points) c.loop-cut.invariant.parts in
    let done = take c.loop-cut.cut-index c.args.cuts.now in
    λ _. omega (arith, v, now, length-append c.args.self.now.parts.points (map (λ (e : Cut). e.at) done), length-map done (λ (e : Cut). e.at), length-take c.loop-cut.cut-index c.args.cuts.now, c.loop-cut-test.true)

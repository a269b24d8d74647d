use Rattle.std.proofs.Common.{List, ℕ, ◌<◌, [], length, get_or, flat_map, MatchOption, All, take, to_z, of_z, to_z-of_z, subst, sym, ap, ◌∙◌}
use Rattle.std.proofs.lemmas.List.{take_all}
use Rattle.std.proofs.lemmas.List.Folds.{flat_map-map}
use mir.Syntax.{w32}
use Rattle.grid.specs.declared.shapes.Tet.{Tet}
use Rattle.grid.specs.Simplices.{faces, all_faces}
use Rattle.grid.specs.Views.{corners_of, triples_of}
use Rattle.face_table.specs.Pairing.{LooseHave, IsFirstLooseWithout, LieOnOneSide}
use Rattle.face_table.proofs.PassLemmas.{loose-more, loose-at, faces-in_range, All-triples}
use Rattle.face_table.proofs.pairs.first_loose.Goals as goal

abbrev no_tet : Tet
no_tet = record { 0 = [] }

pub first_loose_of-requires : goal.first_loose_of-requires
first_loose_of-requires c =
    let in_range = λ (f : List ℕ). All (λ n. n < length c.args.points.now) f in
    All-triples in_range c.faces.result
    (subst (All in_range) (sym c.faces.ensures.faces)
    (faces-in_range (length c.args.points.now) (get_or c.args.tets.now c.loop-tet.tet-index no_tet).0 (c.requires c.loop-tet.tet-index no_tet c.loop-tet-test.true)))

pub loop-tet-preserved : goal.loop-tet-preserved
loop-tet-preserved c =
    let Has = LieOnOneSide c.args.points.now (to_z w32 (of_z w32 c.args.side)) in
    let rest = subst (λ o. MatchOption o (LooseHave Has c.args.table.now (triples_of c.faces.result)) (λ f. IsFirstLooseWithout Has c.args.table.now (triples_of c.faces.result) f.0)) c.in_default.is c.first_loose_of.ensures in
    loose-more Has c.args.table.now (λ (t : Tet). faces t.0) c.args.tets.now c.loop-tet.tet-index no_tet c.loop-tet-test.true c.loop-tet.invariant
    (subst (LooseHave Has c.args.table.now) c.faces.ensures.faces rest)

pub returns-in-Some : goal.returns-in-Some
returns-in-Some c =
    let f = c.in-Some.face.0 in
    let Has = LieOnOneSide c.args.points.now (to_z w32 (of_z w32 c.args.side)) in
    let all = all_faces (corners_of c.args.tets.now) in
    subst (λ z. IsFirstLooseWithout (LieOnOneSide c.args.points.now z) c.args.table.now all f) (to_z-of_z c.ranges.side)
    (subst (λ fs. IsFirstLooseWithout Has c.args.table.now fs f) (sym (flat_map-map faces (λ (t : Tet). t.0) c.args.tets.now))
    (loose-at Has c.args.table.now (λ (t : Tet). faces t.0) c.args.tets.now c.loop-tet.tet-index no_tet c.loop-tet-test.true f c.loop-tet.invariant
    (subst (λ fs. IsFirstLooseWithout Has c.args.table.now fs f) c.faces.ensures.faces c.in-Some.ensures)))

pub returns : goal.returns
returns c =
    let some = flat_map (λ (t : Tet). faces t.0) (take c.loop-tet.tet-index c.args.tets.now) in
    subst (LooseHave (LieOnOneSide c.args.points.now c.args.side) c.args.table.now)
    (ap (flat_map (λ (t : Tet). faces t.0)) (take_all c.loop-tet.tet-index c.args.tets.now c.loop-tet-test.false) ∙ sym (flat_map-map faces (λ (t : Tet). t.0) c.args.tets.now))
    (subst (λ z. LooseHave (LieOnOneSide c.args.points.now z) c.args.table.now some) (to_z-of_z c.ranges.side) c.loop-tet.invariant)

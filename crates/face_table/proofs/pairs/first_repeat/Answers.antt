use Rattle.std.proofs.Common.{◌≡◌, [], ◌++◌, length, take, flat_map, MatchOption, subst, sym, ap, ◌∙◌, arith}
use Rattle.std.proofs.lemmas.List.Folds.{flat_map-map}
use Rattle.std.proofs.Math.Seq.{take-length}
use Rattle.grid.specs.declared.shapes.Tet.{Tet}
use Rattle.grid.specs.Simplices.{faces, all_faces}
use Rattle.grid.specs.Views.{corners_of, triples_of}
use Rattle.face_table.specs.Passes.{AreCounted, IsRepeatAfter}
use Rattle.face_table.proofs.PassLemmas.{repeat-at, repeat-first, counted-more}
use Rattle.face_table.proofs.pairs.first_repeat.Goals as goal

abbrev no_tet : Tet
no_tet = record { 0 = [] }

pub loop-tet-preserved : goal.loop-tet-preserved
loop-tet-preserved c =
    let counted = subst (λ o. MatchOption o (AreCounted c.first_repeat_of.new.table (c.loop-tet.table ++ triples_of c.faces.result)) (λ f. IsRepeatAfter c.loop-tet.table (triples_of c.faces.result) f.0)) c.in_default.is c.in_ok-face.ensures in
    counted-more (λ (t : Tet). faces t.0) c.args.tets.now c.loop-tet.tet-index no_tet c.loop-tet-test.true [] c.loop-tet.table c.first_repeat_of.new.table c.loop-tet.invariant
    (subst (λ fs. AreCounted c.first_repeat_of.new.table (c.loop-tet.table ++ fs)) c.faces.ensures.faces counted)

pub returns : goal.returns
returns c =
    let all : c.loop-tet.tet-index ≡ length c.args.tets.now = omega arith in
    let e = ap (λ i. flat_map (λ (t : Tet). faces t.0) (take i c.args.tets.now)) all ∙ ap (flat_map (λ (t : Tet). faces t.0)) (take-length c.args.tets.now) ∙ sym (flat_map-map faces (λ (t : Tet). t.0) c.args.tets.now) in
    subst (AreCounted c.loop-tet.table) e c.loop-tet.invariant

pub returns-in-Some : goal.returns-in-Some
returns-in-Some c =
    let f = c.in-Some.face.0 in
    let found = subst (λ o. MatchOption o (AreCounted c.first_repeat_of.new.table (c.loop-tet.table ++ triples_of c.faces.result)) (λ f. IsRepeatAfter c.loop-tet.table (triples_of c.faces.result) f.0)) c.in-Some.is c.in_ok-face.ensures in
    repeat-first (all_faces (corners_of c.args.tets.now)) f
    (subst (λ fs. IsRepeatAfter [] fs f) (sym (flat_map-map faces (λ (t : Tet). t.0) c.args.tets.now))
    (repeat-at (λ (t : Tet). faces t.0) c.args.tets.now c.loop-tet.tet-index no_tet c.loop-tet-test.true [] c.loop-tet.table f c.loop-tet.invariant
    (subst (λ fs. IsRepeatAfter c.loop-tet.table fs f) c.faces.ensures.faces found)))

use Rattle.std.proofs.Common.{rules, ◌≡◌, [], ◌∷◌, length, get_or, take, flat_map, to_z, of_z, to_z-of_z, subst, sym, ap, ◌∙◌, arith, true≢false}
use Rattle.std.proofs.lemmas.List.{take_all}
use Rattle.std.proofs.lemmas.List.Concat.{flat_map_single}
use mir.Syntax.{w32}
use Rattle.grid.specs.declared.shapes.Face.{Face}
use Rattle.grid.specs.Views.{triples_of}
use Rattle.face_table.specs.Occurrences.{occurrences}
use Rattle.face_table.specs.Pairing.{LooseHave, IsFirstLooseWithout, IsLoose, LieOnOneSide}
use Rattle.face_table.proofs.PassLemmas.{loose-one, loose-more, loose-without, loose-at}
use Rattle.face_table.proofs.SharedSides.{LieOnOneSide-rotation}
use Rattle.face_table.proofs.pairs.first_loose_of.Goals as goal
use Rattle.face_table.proofs.pairs.first_loose_of.Goals.{else-count-eq0-via-then-count-eq0+else-not-share_side, else-count-eq0-via-else-count-eq0}

abbrev no_face : Face
no_face = record { 0 = [] }

pub returns-then-not-share_side : goal.returns-then-not-share_side
returns-then-not-share_side c =
    let i = c.loop-face.face-index in
    let four : length c.args.faces ≡ 4 = search rules in
    let f = (get_or c.args.faces i no_face).0 in
    let points = c.args.points.now in
    let side = to_z w32 (of_z w32 c.args.side) in
    let loose : IsLoose c.args.table.now f = ap (λ g. occurrences g c.args.table.now) (sym c.reverse.ensures.reversed) ∙ sym c.count.ensures ∙ c.if-count-eq0.true in
    let first = loose-at (LieOnOneSide points side) c.args.table.now (λ (f : Face). f.0 ∷ []) c.args.faces i no_face (omega arith) f c.loop-face.invariant
    (loose-without (LieOnOneSide points side) c.args.table.now f loose (λ s. true≢false (sym (c.share_side.ensures.1 s) ∙ c.if-not-share_side.true))) in
    subst (λ z. IsFirstLooseWithout (LieOnOneSide points z) c.args.table.now (triples_of c.args.faces) f) (to_z-of_z c.ranges.side)
    (subst (λ fs. IsFirstLooseWithout (LieOnOneSide points side) c.args.table.now fs f) (flat_map_single (λ (f : Face). f.0) c.args.faces) first)

pub loop-face-preserved : goal.loop-face-preserved
loop-face-preserved c =
    let i = c.loop-face.face-index in
    let four : length c.args.faces ≡ 4 = search rules in
    let f = (get_or c.args.faces i no_face).0 in
    let side = to_z w32 (of_z w32 c.args.side) in
    loose-more (LieOnOneSide c.args.points.now side) c.args.table.now (λ (f : Face). f.0 ∷ []) c.args.faces i no_face (omega arith) c.loop-face.invariant
    (loose-one (LieOnOneSide c.args.points.now side) c.args.table.now f (LieOnOneSide-rotation c.args.points.now side f) (λ loose. elim c.else-count-eq0.branch [
      | else-count-eq0-via-then-count-eq0+else-not-share_side w ↦ w.share_side.ensures.0 w.if-not-share_side.false
      | else-count-eq0-via-else-count-eq0 w ↦ absurd (w.if-count-eq0.false (c.count.ensures ∙ ap (λ g. occurrences g c.args.table.now) c.reverse.ensures.reversed ∙ loose))
    ]))

pub returns : goal.returns
returns c =
    let four : length c.args.faces ≡ 4 = search rules in
    let some = flat_map (λ (f : Face). f.0 ∷ []) (take c.loop-face.face-index c.args.faces) in
    subst (LooseHave (LieOnOneSide c.args.points.now c.args.side) c.args.table.now)
    (ap (flat_map (λ (f : Face). f.0 ∷ [])) (take_all c.loop-face.face-index c.args.faces (omega arith)) ∙ flat_map_single (λ (f : Face). f.0) c.args.faces)
    (subst (λ z. LooseHave (LieOnOneSide c.args.points.now z) c.args.table.now some) (to_z-of_z c.ranges.side) c.loop-face.invariant)

use Rattle.std.proofs.Common.{rules, ◌≡◌, ◌<◌, [], ◌∷◌, length, get_or, subst, arith}
use Rattle.std.proofs.lemmas.List.Concat.{flat_map_single}
use Rattle.grid.specs.declared.shapes.Face.{Face}
use Rattle.face_table.specs.Occurrences.{occurrences}
use Rattle.face_table.specs.Passes.{IsRepeatAfter}
use Rattle.face_table.proofs.PassLemmas.{repeat-at, repeat-one, counted-more, counted-one}
use Rattle.face_table.proofs.pairs.first_repeat_of.Goals as goal

abbrev no_face : Face
no_face = record { 0 = [] }

pub returns-then-before-gt0 : goal.returns-then-before-gt0
returns-then-before-gt0 c =
    let i = c.loop-face.face-index in
    let four : length c.args.faces ≡ 4 = search rules in
    let f = (get_or c.args.faces i no_face).0 in
    let some = subst (λ n. 0 < n) c.in_ok-before.ensures.before c.if-before-gt0.true in
    subst (λ fs. IsRepeatAfter c.args.table.now fs f) (flat_map_single (λ (f : Face). f.0) c.args.faces)
    (repeat-at (λ (f : Face). f.0 ∷ []) c.args.faces i no_face (omega arith) c.args.table.now c.loop-face.table f c.loop-face.invariant (repeat-one c.loop-face.table f c.loop-face.invariant.once some))

pub loop-face-preserved : goal.loop-face-preserved
loop-face-preserved c =
    let i = c.loop-face.face-index in
    let four : length c.args.faces ≡ 4 = search rules in
    let f = (get_or c.args.faces i no_face).0 in
    let none : occurrences f c.loop-face.table ≡ 0 = omega (arith, c.in_ok-before.ensures.before, c.if-before-gt0.false) in
    counted-more (λ (f : Face). f.0 ∷ []) c.args.faces i no_face (omega arith) c.args.table.now c.loop-face.table c.note.new.self c.loop-face.invariant
    (counted-one c.loop-face.table c.note.new.self f c.loop-face.invariant.once none c.in_ok-before.ensures.added)

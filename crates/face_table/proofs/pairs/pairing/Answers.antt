use Rattle.std.proofs.Common.{MatchOption, ℤ, to_z-of_z, subst}
use Rattle.grid.specs.Simplices.{all_faces}
use Rattle.grid.specs.Views.{corners_of}
use Rattle.face_table.specs.Passes.{AreCounted}
use Rattle.face_table.specs.declared.pairs.Paired.TheVariants.{Good, Loose}
use Rattle.face_table.specs.Pairing.{LooseHave, IsFirstLooseWithout, IsFirstRepeat, IsPairedBy, LieOnOneSide}
use Rattle.face_table.proofs.PassLemmas.{LooseHave-same, IsFirstLooseWithout-same, NoneTwice-same}
use Rattle.face_table.proofs.SharedSides.{IsPairedBy-pos}
use Rattle.face_table.proofs.pairs.pairing.Goals as goal

pub returns-in-Some-first_loose : goal.returns-in-Some-first_loose
returns-in-Some-first_loose c =
    let faces = all_faces (corners_of c.args.tets.now) in
    let table = c.first_repeat.new.table in
    let face = c.in-Some-first_loose.face in
    let counted = subst (λ o. MatchOption o (AreCounted table faces) (λ f. IsFirstRepeat faces f.0)) c.in_default.is c.in_ok-face.ensures in
    let Has : (z : ℤ) → _ = LieOnOneSide c.args.points.now in
    let first = subst (λ z. IsFirstLooseWithout (Has z) table faces face.0) (to_z-of_z c.ranges.side) c.in-Some-first_loose.ensures in
    let paired : IsPairedBy (Has c.args.side) faces (Loose face) = (NoneTwice-same table faces counted, IsFirstLooseWithout-same (Has c.args.side) table faces faces face.0 counted.same first) in
    record { is = λ l e. IsPairedBy-pos c.args.points.now c.args.side l faces (Loose face) e paired; any_side = paired }

pub returns : goal.returns
returns c =
    let faces = all_faces (corners_of c.args.tets.now) in
    let table = c.first_repeat.new.table in
    let counted = subst (λ o. MatchOption o (AreCounted table faces) (λ f. IsFirstRepeat faces f.0)) c.in_default.is c.in_ok-face.ensures in
    let Has : (z : ℤ) → _ = LieOnOneSide c.args.points.now in
    let have = subst (λ z. LooseHave (Has z) table faces) (to_z-of_z c.ranges.side) c.in-None.ensures in
    let paired : IsPairedBy (Has c.args.side) faces Good = (NoneTwice-same table faces counted, LooseHave-same (Has c.args.side) table faces faces counted.same have) in
    record { is = λ l e. IsPairedBy-pos c.args.points.now c.args.side l faces Good e paired; any_side = paired }

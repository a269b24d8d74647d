use Rattle.std.proofs.Common.{rules, ◌≡◌, ◌↔◌, ◌+◌, ◌-◌, length, get_or, true, ap, sym, subst, ◌∙◌}
use Rattle.tri_distance.proofs.ForCallers.{never_is}
use Rattle.mesh_types.specs.declared.cert.Cert.TheVariants as made
use Rattle.mesh_types.specs.Certificates.{Covers}
use Rattle.cover.proofs.Parts.{piece_at, leaf-Covers, parts-Covers}
use Rattle.cover.proofs.Found.{never}
use Rattle.cover.proofs.checking.+covers.Goals as goal

pub returns-in-Leaf : goal.returns-in-Leaf
returns-in-Leaf f c =
    let covers = leaf-Covers c.args.triangles.now c.args.e c.args.levels c.args.k c.args.face.now c.in-Leaf.t c.args.cert.now c.in-Leaf.is in
    subst (λ (A : Type 0). (c.is_leaf.result ≡ true) ↔ A) (sym covers) c.is_leaf.ensures

pub returns-then-not-covers : goal.returns-then-not-covers
returns-then-not-covers f c =
    let four : length c.get.result.now ≡ 4 = search rules in
    let all = parts-Covers c.args.triangles.now c.args.e c.args.levels c.args.k c.args.face.now c.quarters.result c.if-levels-eq0.false c.quarters.ensures.value
    c.args.cert.now c.get.result.now (c.in-Split.is ∙ ap made.Split (sym c.get.ensures)) four
    c.index-get-0.result c.index-get-1.result c.index-get-2.result c.index-get-3.result in
    let part : (c.covers.result ≡ true) ↔ Covers c.args.triangles.now c.args.e (c.args.levels - 1) (c.args.k + 1) (piece_at c.quarters.result 0) (get_or c.get.result.now 0 c.index-get-0.result) = c.covers.ensures in
    never_is (λ h. never c.covers.result c.if-not-covers.true part (all.1 h).0)

pub returns-then-not-covers-2 : goal.returns-then-not-covers-2
returns-then-not-covers-2 f c =
    let four : length c.get.result.now ≡ 4 = search rules in
    let all = parts-Covers c.args.triangles.now c.args.e c.args.levels c.args.k c.args.face.now c.quarters.result c.if-levels-eq0.false c.quarters.ensures.value
    c.args.cert.now c.get.result.now (c.in-Split.is ∙ ap made.Split (sym c.get.ensures)) four
    c.index-get-0.result c.index-get-1.result c.index-get-2.result c.index-get-3.result in
    let part : (c.covers-in-Split.result ≡ true) ↔ Covers c.args.triangles.now c.args.e (c.args.levels - 1) (c.args.k + 1) (piece_at c.quarters.result 1) (get_or c.get.result.now 1 c.index-get-1.result) = c.covers-in-Split.ensures in
    never_is (λ h. never c.covers-in-Split.result c.if-not-covers-2.true part (all.1 h).1)

pub returns-then-not-covers-3 : goal.returns-then-not-covers-3
returns-then-not-covers-3 f c =
    let four : length c.get.result.now ≡ 4 = search rules in
    let all = parts-Covers c.args.triangles.now c.args.e c.args.levels c.args.k c.args.face.now c.quarters.result c.if-levels-eq0.false c.quarters.ensures.value
    c.args.cert.now c.get.result.now (c.in-Split.is ∙ ap made.Split (sym c.get.ensures)) four
    c.index-get-0.result c.index-get-1.result c.index-get-2.result c.index-get-3.result in
    let part : (c.covers-in-Split-2.result ≡ true) ↔ Covers c.args.triangles.now c.args.e (c.args.levels - 1) (c.args.k + 1) (piece_at c.quarters.result 2) (get_or c.get.result.now 2 c.index-get-2.result) = c.covers-in-Split-2.ensures in
    never_is (λ h. never c.covers-in-Split-2.result c.if-not-covers-3.true part (all.1 h).2)

pub returns-else-not-covers-3 : goal.returns-else-not-covers-3
returns-else-not-covers-3 f c =
    let four : length c.get.result.now ≡ 4 = search rules in
    let all = parts-Covers c.args.triangles.now c.args.e c.args.levels c.args.k c.args.face.now c.quarters.result c.if-levels-eq0.false c.quarters.ensures.value
    c.args.cert.now c.get.result.now (c.in-Split.is ∙ ap made.Split (sym c.get.ensures)) four
    c.index-get-0.result c.index-get-1.result c.index-get-2.result c.index-get-3.result in
    let part0 : (c.covers.result ≡ true) ↔ Covers c.args.triangles.now c.args.e (c.args.levels - 1) (c.args.k + 1) (piece_at c.quarters.result 0) (get_or c.get.result.now 0 c.index-get-0.result) = c.covers.ensures in
    let part1 : (c.covers-in-Split.result ≡ true) ↔ Covers c.args.triangles.now c.args.e (c.args.levels - 1) (c.args.k + 1) (piece_at c.quarters.result 1) (get_or c.get.result.now 1 c.index-get-1.result) = c.covers-in-Split.ensures in
    let part2 : (c.covers-in-Split-2.result ≡ true) ↔ Covers c.args.triangles.now c.args.e (c.args.levels - 1) (c.args.k + 1) (piece_at c.quarters.result 2) (get_or c.get.result.now 2 c.index-get-2.result) = c.covers-in-Split-2.ensures in
    let part3 : (c.covers-in-Split-3.result ≡ true) ↔ Covers c.args.triangles.now c.args.e (c.args.levels - 1) (c.args.k + 1) (piece_at c.quarters.result 3) (get_or c.get.result.now 3 c.index-get-3.result) = c.covers-in-Split-3.ensures in
    (λ b. all.0 (part0.0 c.if-not-covers.false, part1.0 c.if-not-covers-2.false, part2.0 c.if-not-covers-3.false, part3.0 b), λ h. part3.1 (all.1 h).3)

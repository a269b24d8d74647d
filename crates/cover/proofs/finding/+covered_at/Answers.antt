use Rattle.std.proofs.Common.{◌↔◌, ◌≡◌, ◌+◌, ◌-◌, true}
use Rattle.tri_distance.proofs.ForCallers.{never_is, always_is}
use Rattle.mesh_types.specs.Certificates.{IsLeastOfFace, HasNoneOfFace}
use Rattle.cover.specs.Levels.{HasCertificateAt}
use Rattle.cover.proofs.Parts.{piece_at, leaf-IsLeastCertificate, none-IsLeastCertificate, split-IsLeastCertificate, parts_of_certificate}
use Rattle.cover.proofs.Found.{some_near, none_near, never}
use Rattle.cover.proofs.finding.+covered_at.Goals as goal

pub returns-then-is_some : goal.returns-then-is_some
returns-then-is_some f c =
    let t = some_near (IsLeastOfFace c.args.env.now c.args.e c.args.k c.args.face.now) c.least_near.result c.is_some.result c.least_near.ensures.found c.is_some.ensures c.if-is_some.true in
    always_is (_, leaf-IsLeastCertificate c.args.env.now c.args.e c.args.levels c.args.k c.args.face.now t.0 t.1)

pub returns-then-levels-eq0 : goal.returns-then-levels-eq0
returns-then-levels-eq0 f c =
    let none = (none_near (HasNoneOfFace c.args.env.now c.args.e c.args.k c.args.face.now) c.least_near.result c.is_some.result c.least_near.ensures.none c.is_some.ensures c.if-is_some.false) in
    never_is (none-IsLeastCertificate c.args.env.now c.args.e c.args.levels c.args.k c.args.face.now c.if-levels-eq0.true none)

pub returns-then-not-covered_at : goal.returns-then-not-covered_at
returns-then-not-covered_at f c =
    let covered : (c.covered_at.result ≡ true) ↔ HasCertificateAt c.args.env.now c.args.e (c.args.levels - 1) (c.args.k + 1) (piece_at c.quarters.result 0) = c.covered_at.ensures in
    never_is (λ h. never c.covered_at.result c.if-not-covered_at.true covered (parts_of_certificate c.args.env.now c.args.e c.args.levels c.args.k c.args.face.now c.quarters.result c.if-levels-eq0.false (none_near (HasNoneOfFace c.args.env.now c.args.e c.args.k c.args.face.now) c.least_near.result c.is_some.result c.least_near.ensures.none c.is_some.ensures c.if-is_some.false) c.quarters.ensures.value h).first)

pub returns-then-not-covered_at-2 : goal.returns-then-not-covered_at-2
returns-then-not-covered_at-2 f c =
    let covered : (c.covered_at-2.result ≡ true) ↔ HasCertificateAt c.args.env.now c.args.e (c.args.levels - 1) (c.args.k + 1) (piece_at c.quarters.result 1) = c.covered_at-2.ensures in
    never_is (λ h. never c.covered_at-2.result c.if-not-covered_at-2.true covered (parts_of_certificate c.args.env.now c.args.e c.args.levels c.args.k c.args.face.now c.quarters.result c.if-levels-eq0.false (none_near (HasNoneOfFace c.args.env.now c.args.e c.args.k c.args.face.now) c.least_near.result c.is_some.result c.least_near.ensures.none c.is_some.ensures c.if-is_some.false) c.quarters.ensures.value h).second)

pub returns-then-not-covered_at-3 : goal.returns-then-not-covered_at-3
returns-then-not-covered_at-3 f c =
    let covered : (c.covered_at-3.result ≡ true) ↔ HasCertificateAt c.args.env.now c.args.e (c.args.levels - 1) (c.args.k + 1) (piece_at c.quarters.result 2) = c.covered_at-3.ensures in
    never_is (λ h. never c.covered_at-3.result c.if-not-covered_at-3.true covered (parts_of_certificate c.args.env.now c.args.e c.args.levels c.args.k c.args.face.now c.quarters.result c.if-levels-eq0.false (none_near (HasNoneOfFace c.args.env.now c.args.e c.args.k c.args.face.now) c.least_near.result c.is_some.result c.least_near.ensures.none c.is_some.ensures c.if-is_some.false) c.quarters.ensures.value h).third)

pub returns : goal.returns
returns f c =
    let covered1 : (c.covered_at.result ≡ true) ↔ HasCertificateAt c.args.env.now c.args.e (c.args.levels - 1) (c.args.k + 1) (piece_at c.quarters.result 0) = c.covered_at.ensures in
    let part1 = covered1.0 c.if-not-covered_at.false in
    let covered2 : (c.covered_at-2.result ≡ true) ↔ HasCertificateAt c.args.env.now c.args.e (c.args.levels - 1) (c.args.k + 1) (piece_at c.quarters.result 1) = c.covered_at-2.ensures in
    let part2 = covered2.0 c.if-not-covered_at-2.false in
    let covered3 : (c.covered_at-3.result ≡ true) ↔ HasCertificateAt c.args.env.now c.args.e (c.args.levels - 1) (c.args.k + 1) (piece_at c.quarters.result 2) = c.covered_at-3.ensures in
    let part3 = covered3.0 c.if-not-covered_at-3.false in
    let covered4 : (c.covered_at-4.result ≡ true) ↔ HasCertificateAt c.args.env.now c.args.e (c.args.levels - 1) (c.args.k + 1) (piece_at c.quarters.result 3) = c.covered_at-4.ensures in
    let none = (none_near (HasNoneOfFace c.args.env.now c.args.e c.args.k c.args.face.now) c.least_near.result c.is_some.result c.least_near.ensures.none c.is_some.ensures c.if-is_some.false) in (
      λ b.
          let part4 = covered4.0 b in
          (_, split-IsLeastCertificate c.args.env.now c.args.e c.args.levels c.args.k c.args.face.now c.quarters.result c.if-levels-eq0.false none c.quarters.ensures.value part1.0 part2.0 part3.0 part4.0 part1.1 part2.1 part3.1 part4.1),
      λ h. covered4.1 (parts_of_certificate c.args.env.now c.args.e c.args.levels c.args.k c.args.face.now c.quarters.result c.if-levels-eq0.false none c.quarters.ensures.value h).middle,
    )

use Rattle.std.proofs.Common.{◌≡◌, ◌+◌, ◌-◌, List, ◌∷◌, [], IfOk, subst, sym}
use Rattle.mesh_types.specs.declared.cert.Cert.{Cert}
use Rattle.mesh_types.specs.declared.cert.Cert.TheVariants as made
use Rattle.mesh_types.specs.Certificates.{IsLeastCertificate}
use Rattle.cover.proofs.Parts.{piece_at, leaf-IsLeastCertificate, split-IsLeastCertificate, parts_of_certificate, none_of_search, some_of_search}
use Rattle.cover.proofs.finding.+find_at.Goals as goal

pub returns-in-Some : goal.returns-in-Some
returns-in-Some f c = leaf-IsLeastCertificate c.args.env.now c.args.e c.args.levels c.args.k c.args.face.now c.in-Some.t c.in-Some.ensures.found

pub returns-in_default-2 : goal.returns-in_default-2
returns-in_default-2 f c h =
    let parts = parts_of_certificate c.args.env.now c.args.e c.args.levels c.args.k c.args.face.now c.quarters.result c.if-levels-eq0.false c.in_default.ensures.none c.quarters.ensures.value h in
    none_of_search c.args.env.now c.args.e (c.args.levels - 1) (c.args.k + 1) (piece_at c.quarters.result 0) c.find_at.result c.in_ok-at_a.field-0 c.find_at.ensures c.in_ok-at_a.was c.in_default-2.is parts.first

pub returns-in_default-3 : goal.returns-in_default-3
returns-in_default-3 f c h =
    let parts = parts_of_certificate c.args.env.now c.args.e c.args.levels c.args.k c.args.face.now c.quarters.result c.if-levels-eq0.false c.in_default.ensures.none c.quarters.ensures.value h in
    none_of_search c.args.env.now c.args.e (c.args.levels - 1) (c.args.k + 1) (piece_at c.quarters.result 1) c.find_at-2.result c.in_ok-at_b.field-0 c.find_at-2.ensures c.in_ok-at_b.was c.in_default-3.is parts.second

pub returns-in_default-4 : goal.returns-in_default-4
returns-in_default-4 f c h =
    let parts = parts_of_certificate c.args.env.now c.args.e c.args.levels c.args.k c.args.face.now c.quarters.result c.if-levels-eq0.false c.in_default.ensures.none c.quarters.ensures.value h in
    none_of_search c.args.env.now c.args.e (c.args.levels - 1) (c.args.k + 1) (piece_at c.quarters.result 2) c.find_at-3.result c.in_ok-at_c.field-0 c.find_at-3.ensures c.in_ok-at_c.was c.in_default-4.is parts.third

pub returns-in_default-5 : goal.returns-in_default-5
returns-in_default-5 f c h =
    let parts = parts_of_certificate c.args.env.now c.args.e c.args.levels c.args.k c.args.face.now c.quarters.result c.if-levels-eq0.false c.in_default.ensures.none c.quarters.ensures.value h in
    none_of_search c.args.env.now c.args.e (c.args.levels - 1) (c.args.k + 1) (piece_at c.quarters.result 3) c.find_at-4.result c.in_ok-middle.field-0 c.find_at-4.ensures c.in_ok-middle.was c.in_default-5.is parts.middle

pub returns : goal.returns
returns f c =
    let made_is : c.in_ok-new.field-0 ≡ c.in-Some-2.at_a ∷ c.in-Some-3.at_b ∷ c.in-Some-4.at_c ∷ c.in-Some-5.middle ∷ [] = subst (λ r. IfOk r (λ v. v ≡ c.in-Some-2.at_a ∷ c.in-Some-3.at_b ∷ c.in-Some-4.at_c ∷ c.in-Some-5.middle ∷ [])) c.in_ok-new.was c.new.ensures in
    subst (λ (parts : List Cert). IsLeastCertificate c.args.env.now c.args.e c.args.levels c.args.k c.args.face.now (made.Split parts)) (sym made_is)
    (split-IsLeastCertificate c.args.env.now c.args.e c.args.levels c.args.k c.args.face.now c.quarters.result c.if-levels-eq0.false c.in_default.ensures.none c.quarters.ensures.value c.in-Some-2.at_a c.in-Some-3.at_b c.in-Some-4.at_c c.in-Some-5.middle
    (some_of_search c.args.env.now c.args.e (c.args.levels - 1) (c.args.k + 1) (piece_at c.quarters.result 0) c.find_at.result c.in_ok-at_a.field-0 c.find_at.ensures c.in_ok-at_a.was c.in-Some-2.at_a c.in-Some-2.is)
    (some_of_search c.args.env.now c.args.e (c.args.levels - 1) (c.args.k + 1) (piece_at c.quarters.result 1) c.find_at-2.result c.in_ok-at_b.field-0 c.find_at-2.ensures c.in_ok-at_b.was c.in-Some-3.at_b c.in-Some-3.is)
    (some_of_search c.args.env.now c.args.e (c.args.levels - 1) (c.args.k + 1) (piece_at c.quarters.result 2) c.find_at-3.result c.in_ok-at_c.field-0 c.find_at-3.ensures c.in_ok-at_c.was c.in-Some-4.at_c c.in-Some-4.is)
    (some_of_search c.args.env.now c.args.e (c.args.levels - 1) (c.args.k + 1) (piece_at c.quarters.result 3) c.find_at-4.result c.in_ok-middle.field-0 c.find_at-4.ensures c.in_ok-middle.was c.in-Some-5.middle c.in-Some-5.is))

use Rattle.std.proofs.Common.{rules, ◌≡◌, length, [], ◌++◌, sym, subst, arith}
use Rattle.std.proofs.lemmas.List.{append-nil, take_all}
use Rattle.grid.specs.declared.shapes.Face.{Face}
use Rattle.grid.specs.Views.{triples_of}
use Rattle.cert_check.specs.Searches.{AreTriplesOf}
use Rattle.cert_check.proofs.Keys.{AreTriplesOf-take}
use Rattle.cert_check.proofs.tracked.add_triples.Goals as goal

abbrev no_face : Face
no_face = record { 0 = [] }

pub loop-face-init : goal.loop-face-init
loop-face-init c before h = subst (λ fs. AreTriplesOf fs c.args.triples.now.keys) (sym (append-nil before)) h

pub loop-face-preserved : goal.loop-face-preserved
loop-face-preserved c before h =
    let four : length c.args.faces.now ≡ 4 = search rules in
    subst (AreTriplesOf _) (sym c.in_ok-insert.ensures.keys)
    (AreTriplesOf-take before c.args.faces.now c.loop-face.face-index no_face (omega arith) c.loop-face.triples.keys c.rising.result (c.loop-face.invariant before h) c.rising.ensures.rising)

pub returns : goal.returns
returns c before h =
    let four : length c.args.faces.now ≡ 4 = search rules in
    subst (λ fs. AreTriplesOf (before ++ triples_of fs) c.loop-face.triples.keys) (take_all c.loop-face.face-index c.args.faces.now (omega arith)) (c.loop-face.invariant before h)

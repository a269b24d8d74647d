use Rattle.std.proofs.Common.{◌++◌, ◌∷◌, [], ◌+◌, sym, subst, take, length, List, ℕ}
use Rattle.grid.specs.Meshes.{IsTriple}
use Rattle.grid.specs.Views.{triples_of}
use Rattle.report_text.specs.declared.report.Covering.{Covering}
use Rattle.mesher.specs.Meshed.{AreCoverings, HasItsCertificate}
use Rattle.mesher.proofs.Certified.{coverings-push, triples-more, at_face}
use Rattle.mesher.proofs.coverings.coverings.Goals as goal

pub covering-requires-clause-there : goal.covering-requires-clause-there
covering-requires-clause-there c = at_face (IsTriple (length c.args.points.now)) c.args.faces.now c.loop-face.face-index _ c.requires.there c.loop-face-test.true

pub covering-requires-clause-covered : goal.covering-requires-clause-covered
covering-requires-clause-covered c = at_face (HasItsCertificate c.args.env.now c.args.e c.args.points.now) c.args.faces.now c.loop-face.face-index _ c.requires.covered c.loop-face-test.true

pub loop-face-preserved : goal.loop-face-preserved
loop-face-preserved c =
    let old = triples_of (take c.loop-face.face-index c.args.faces.now) in
    let more = coverings-push c.args.env.now c.args.e c.args.points.now old c.loop-face.made.items _ c.in_ok-next.next c.loop-face.invariant c.in_ok-next.ensures in
    let longer = subst (λ (ts : List (List ℕ)). AreCoverings c.args.env.now c.args.e c.args.points.now ts (c.loop-face.made.items ++ c.in_ok-next.next ∷ [])) (sym (triples-more c.args.faces.now c.loop-face.face-index _ c.loop-face-test.true)) more in
    subst (λ (cs : List Covering). AreCoverings c.args.env.now c.args.e c.args.points.now (triples_of (take (c.loop-face.face-index + 1) c.args.faces.now)) cs) (sym c.in_ok-push.ensures.items) longer

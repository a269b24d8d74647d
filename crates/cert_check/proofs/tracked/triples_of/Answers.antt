use Rattle.std.proofs.Common.{[], ◌++◌, take, ap, sym, subst, ◌∙◌}
use Rattle.std.proofs.lemmas.List.{take_all}
use Rattle.grid.specs.declared.shapes.Tet.{Tet}
use Rattle.grid.specs.Simplices.{all_faces}
use Rattle.grid.specs.Views.{corners_of}
use Rattle.cert_check.specs.Searches.{AreTriplesOf}
use Rattle.cert_check.proofs.Keys.{all_faces-take, AreTriplesOf-nil}
use Rattle.cert_check.proofs.tracked.triples_of.Goals as goal

abbrev no_tet : Tet
no_tet = record { 0 = [] }

pub loop-tet-init : goal.loop-tet-init
loop-tet-init c = subst (AreTriplesOf []) (sym c.new-triples.ensures.empty) AreTriplesOf-nil

pub loop-tet-preserved : goal.loop-tet-preserved
loop-tet-preserved c =
    let before = all_faces (corners_of (take c.loop-tet.tet-index c.args.tets.now)) in
    subst (λ fs. AreTriplesOf fs c.add_triples.new.triples.keys) (ap (λ fs. before ++ fs) c.faces.ensures.faces ∙ all_faces-take c.args.tets.now c.loop-tet.tet-index no_tet c.loop-tet-test.true)
    (c.in_ok-add_triples.ensures before c.loop-tet.invariant)

pub returns : goal.returns
returns c = subst (λ ts. AreTriplesOf (all_faces (corners_of ts)) c.loop-tet.triples.keys) (take_all c.loop-tet.tet-index c.args.tets.now c.loop-tet-test.false) c.loop-tet.invariant

use Rattle.std.proofs.Common.{◌∙◌, ℕ, List, [], ◌∷◌, ◌++◌, map, get_or, ap, sym, refl, append-nil}
use Rattle.grid.specs.declared.shapes.Face.{Face}
use Rattle.grid.specs.Simplices.{rising}
use Rattle.grid.specs.Views.{triples_of}
use Rattle.mesh_types.specs.Refines.{sub_all}
use Rattle.mesh_store.specs.Changes.{triple_pieces}
use Rattle.mesh_store.proofs.FacePieces.{pieces-append}
use Rattle.mesh_store.proofs.Listings.{listed-step, listed-all}
use Rattle.mesh_store.proofs.splitting.face_pieces.Goals as goal

pub loop-face-preserved : goal.loop-face-preserved
loop-face-preserved c =
    let none : Face = record { 0 = [] } in
    let f : List ℕ → List (List ℕ) = sub_all c.args.first c.args.cuts.now in
    let g : List Face → List (List ℕ) = λ fs. triple_pieces c.args.cuts.now c.args.first (triples_of fs) in
    listed-step g (triples_of c.loop-face.all.items) (g c.args.faces.now) c.args.faces.now (λ x xs. pieces-append c.args.cuts.now c.args.first (x.0 ∷ []) (triples_of xs)) (triples_of c.push_risen.new.all.items) c.loop-face.face-index none c.loop-face-test.true
    (c.in_ok-push_risen.ensures
    ∙ ap (λ (ys : List (List ℕ)). triples_of c.loop-face.all.items ++ map rising ys)
    (ap triples_of c.deref.ensures.value ∙ (c.in_ok-split.ensures ∙ sym (append-nil (f (get_or c.args.faces.now c.loop-face.face-index none).0)))))
    c.loop-face.invariant

pub returns : goal.returns
returns c =
    let g : List Face → List (List ℕ) = λ fs. triple_pieces c.args.cuts.now c.args.first (triples_of fs) in
    listed-all g (triples_of c.loop-face.all.items) (g c.args.faces.now) c.args.faces.now c.loop-face.face-index c.loop-face-test.false refl c.loop-face.invariant

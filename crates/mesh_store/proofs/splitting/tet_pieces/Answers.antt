use Rattle.std.proofs.Common.{◌≡◌, ◌∙◌, ℕ, List, [], ◌∷◌, ◌++◌, map, get_or, ap, sym, refl, append-nil, subst}
use Rattle.std.specs.List.{flat_map}
use Rattle.grid.specs.declared.shapes.Tet.{Tet}
use Rattle.grid.specs.Simplices.{IsTet}
use Rattle.grid.specs.Views.{corners_of}
use Rattle.mesh_types.specs.Refines.{sub_all}
use Rattle.mesh_store.specs.Exchanges.{tet_in}
use Rattle.mesh_store.proofs.Listings.{listed-step, listed-all}
use Rattle.mesh_store.proofs.splitting.tet_pieces.Goals as goal

joins : (f : List ℕ → List (List ℕ)) (t : ℕ → List ℕ) (i : ℕ) (is : List ℕ) → flat_map f (map t (i ∷ is)) ≡ flat_map f (map t (i ∷ [])) ++ flat_map f (map t is)
joins f t i is = ap (λ (ys : List (List ℕ)). ys ++ flat_map f (map t is)) (sym (append-nil (f (t i))))

pub loop-slot-preserved : goal.loop-slot-preserved
loop-slot-preserved c =
    let f : List ℕ → List (List ℕ) = sub_all c.args.first c.args.cuts.now in
    let t : ℕ → List ℕ = tet_in c.args.slots.now.slots in
    listed-step (λ (is : List ℕ). flat_map f (map t is)) (corners_of c.loop-slot.all.items) (flat_map f (map t c.args.numbers.now)) c.args.numbers.now (joins f t) (corners_of c.push_pieces.new.all.items) c.loop-slot.slot-index 0 c.loop-slot-test.true
    (c.in_ok-push_pieces.ensures
    ∙ ap (λ (ys : List (List ℕ)). corners_of c.loop-slot.all.items ++ ys)
    (ap (λ (x : Tet). f x.0) c.tet.ensures.value ∙ sym (append-nil (f (t (get_or c.args.numbers.now c.loop-slot.slot-index 0))))))
    c.loop-slot.invariant

pub returns : goal.returns
returns c =
    let g : List ℕ → List (List ℕ) = λ is. flat_map (sub_all c.args.first c.args.cuts.now) (map (tet_in c.args.slots.now.slots) is) in
    listed-all g (corners_of c.loop-slot.all.items) (g c.args.numbers.now) c.args.numbers.now c.loop-slot.slot-index c.loop-slot-test.false refl c.loop-slot.invariant

pub tet-requires : goal.tet-requires
tet-requires c = c.requires.there c.loop-slot.slot-index 0 c.loop-slot-test.true

pub push_pieces-requires-clause-corners : goal.push_pieces-requires-clause-corners
push_pieces-requires-clause-corners c =
    let i = get_or c.args.numbers.now c.loop-slot.slot-index 0 in
    subst (λ (x : Tet). IsTet c.args.first x.0) (sym c.tet.ensures.value) (c.requires.tets i _ (c.requires.there c.loop-slot.slot-index 0 c.loop-slot-test.true))

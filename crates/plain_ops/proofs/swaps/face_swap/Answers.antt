use Rattle.std.proofs.Common.{◌≡◌, ◌||◌, Bool, List, ℕ, IfOk, Option, None, Some, [], ◌∷◌, sym, subst}
use Rattle.std.specs.List.{find}
use Rattle.grid.specs.Views.{corners_of}
use Rattle.mesh_types.specs.Results.{face_swap, has_face, swapped_from}
use Rattle.mesh_types.specs.Views.{mesh_of}
use Rattle.plain_ops.specs.PlainResults.{IsFoundIn, result_in}
use Rattle.plain_ops.proofs.swaps.face_swap.Goals as goal

pub returns-in-None : goal.returns-in-None
unfolding face_swap
returns-in-None c =
    let m = mesh_of c.args.mesh.now in
    let p : List ℕ → Bool = λ x. has_face (c.args.a ∷ c.args.b ∷ c.args.c ∷ []) x || has_face (c.args.a ∷ c.args.c ∷ c.args.b ∷ []) x in
    let none : find p m.tets ≡ None = subst (λ (A : Type 0). A) (λ i. IsFoundIn p (corners_of (c.as_slice.ensures i)) (c.in-None.is i)) c.first_with_face.ensures in
    subst (λ (o : Option (List ℕ)). IfOk c.unchanged_result.result (λ r. result_in r ≡ swapped_from m c.args.a c.args.b c.args.c o)) (sym none) c.unchanged_result.ensures

pub returns-in-Some : goal.returns-in-Some
unfolding face_swap
returns-in-Some c =
    let m = mesh_of c.args.mesh.now in
    let p : List ℕ → Bool = λ x. has_face (c.args.a ∷ c.args.b ∷ c.args.c ∷ []) x || has_face (c.args.a ∷ c.args.c ∷ c.args.b ∷ []) x in
    let some : find p m.tets ≡ Some c.in-Some.tet.0 = subst (λ (A : Type 0). A) (λ i. IsFoundIn p (corners_of (c.as_slice.ensures i)) (c.in-Some.is i)) c.first_with_face.ensures in
    subst (λ (o : Option (List ℕ)). IfOk c.swap_across.result (λ r. result_in r ≡ swapped_from m c.args.a c.args.b c.args.c o)) (sym some) c.swap_across.ensures

use Rattle.std.proofs.Common.{◌≡◌, List, ℕ, IfOk, Option, None, Some, [], ◌∷◌, sym, subst}
use Rattle.std.specs.List.{find}
use Rattle.grid.specs.Views.{corners_of}
use Rattle.mesh_types.specs.Results.{is_across, swapped_across}
use Rattle.mesh_types.specs.Views.{mesh_of}
use Rattle.plain_ops.specs.PlainResults.{IsFoundIn, result_in}
use Rattle.plain_ops.proofs.swaps.swap_across.Goals as goal

pub returns-in-None : goal.returns-in-None
returns-in-None c =
    let m = mesh_of c.args.mesh.now in
    let p = is_across (c.args.a ∷ c.args.b ∷ c.args.c ∷ []) c.args.tet.0 in
    let none : find p m.tets ≡ None = subst (λ (A : Type 0). A) (λ i. IsFoundIn p (corners_of (c.as_slice.ensures i)) (c.in-None.is i)) c.first_across.ensures in
    subst (λ (o : Option (List ℕ)). IfOk c.unchanged_result.result (λ r. result_in r ≡ swapped_across m c.args.a c.args.b c.args.c c.args.tet.0 o)) (sym none) c.unchanged_result.ensures

pub returns-in-Some : goal.returns-in-Some
returns-in-Some c =
    let m = mesh_of c.args.mesh.now in
    let p = is_across (c.args.a ∷ c.args.b ∷ c.args.c ∷ []) c.args.tet.0 in
    let some : find p m.tets ≡ Some c.in-Some.other.0 = subst (λ (A : Type 0). A) (λ i. IsFoundIn p (corners_of (c.as_slice.ensures i)) (c.in-Some.is i)) c.first_across.ensures in
    subst (λ (o : Option (List ℕ)). IfOk c.swap_both.result (λ r. result_in r ≡ swapped_across m c.args.a c.args.b c.args.c c.args.tet.0 o)) (sym some) c.swap_both.ensures

use Rattle.std.proofs.Common.{◌∙◌, ◌<◌, [], ◌∷◌, All, length, ap, sym, subst}
use Rattle.std.specs.List.{find}
use Rattle.mesh_types.specs.Results.{is_across}
use Rattle.tet_slots.specs.Searches.{has_edge}
use Rattle.mesh_store.specs.Exchanges.{has_either, tet_in}
use Rattle.local_ops.proofs.NearSlots.{numbers-there}
use Rattle.local_ops.proofs.Swapped.{first-there, second-there}
use Rattle.local_ops.proofs.swapping.sides_of_face.Goals as goal

pub first_at_face-requires : goal.first_at_face-requires
first_at_face-requires c =
    let slots = c.args.slots.now.slots in
    subst (All (λ i. i < length slots)) (sym c.requires) (numbers-there (has_edge c.args.a c.args.b) slots)

pub tet-x-requires : goal.tet-x-requires
tet-x-requires c =
    let slots = c.args.slots.now.slots in
    first-there c.args.a c.args.b c.args.c slots c.in-Some.first
    (sym (c.in-Some.ensures ∙ ap (find (λ i. has_either (c.args.a ∷ c.args.b ∷ c.args.c ∷ []) (tet_in slots i))) c.requires))

pub first_across-requires : goal.first_across-requires
first_across-requires c =
    let slots = c.args.slots.now.slots in
    subst (All (λ i. i < length slots)) (sym c.requires) (numbers-there (has_edge c.args.a c.args.b) slots)

pub tet-requires : goal.tet-requires
tet-requires c =
    let slots = c.args.slots.now.slots in
    second-there c.args.a c.args.b c.args.c slots c.tet-x.result.0 c.in-Some-first_across.second
    (sym (c.in-Some-first_across.ensures ∙ ap (find (λ i. is_across (c.args.a ∷ c.args.b ∷ c.args.c ∷ []) c.tet-x.result.0 (tet_in slots i))) c.requires))

use Rattle.std.proofs.Common.{◌≡◌, ◌∙◌, ◌<◌, ℕ, List, All, length, map, ap, sym, subst}
use Rattle.std.specs.List.{list_all}
use Rattle.mesh_types.specs.declared.tries.Try.TheVariants.{Shift}
use Rattle.tet_slots.specs.Searches.{numbers_of}
use Rattle.local_ops.specs.Apart.{is_apart}
use Rattle.local_ops.specs.Attempts.{may_go}
use Rattle.local_ops.specs.Measures.{corners_at}
use Rattle.local_ops.proofs.NearSlots.{numbers-there}
use Rattle.local_ops.proofs.apart.are_apart.Goals as goal

pub all_apart-requires-clause-around : goal.all_apart-requires-clause-around
all_apart-requires-clause-around c =
    let slots = c.args.slots.now.slots in
    let is : c.deref.result.now ≡ numbers_of (may_go (Shift c.args.v 0)) 0 slots = c.deref.ensures.value ∙ c.in_ok-having.ensures in
    subst (All (λ i. i < length slots)) (sym is) (numbers-there (may_go (Shift c.args.v 0)) slots)

pub returns : goal.returns
returns c =
    let slots = c.args.slots.now.slots in
    let is : c.deref.result.now ≡ numbers_of (may_go (Shift c.args.v 0)) 0 slots = c.deref.ensures.value ∙ c.in_ok-having.ensures in
    c.all_apart.ensures ∙ ap (λ (ns : List ℕ). list_all (is_apart c.args.u c.args.v (map (corners_at slots) ns)) (map (corners_at slots) c.args.near.now)) is

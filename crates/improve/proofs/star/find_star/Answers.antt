use Rattle.std.proofs.Common.{◌≡◌, ◌∙◌, ap, length, [], refl, arith}
use Rattle.tet_slots.specs.Searches.{numbers_of, has_corner}
use Rattle.grid.specs.Simplices.{has}
use Rattle.mesh_store.proofs.ForCallers.{tets-numbers}
use Rattle.improve.proofs.Stars.{numbers-below}
use Rattle.improve.proofs.star.find_star.Goals as goal

pub loop-number-init : goal.loop-number-init
loop-number-init c =
    let e : c.deref-number-items.result.now ≡ numbers_of (has_corner c.args.u) 0 c.args.slots.now.slots = c.deref-number-items.ensures.value ∙ c.in_ok-having.ensures in
    rw (c.clear.ensures.items, e) (tets-numbers (has_corner c.args.u) (λ x. has x c.args.u) (λ s. refl) [] c.args.slots.now.slots)

pub tet-requires : goal.tet-requires
tet-requires c =
    let e : c.deref-number-items.result.now ≡ numbers_of (has_corner c.args.u) 0 c.args.slots.now.slots = c.deref-number-items.ensures.value ∙ c.in_ok-having.ensures in
    rw e (numbers-below (has_corner c.args.u) 0 c.args.slots.now.slots (length c.args.slots.now.slots) (omega arith) c.loop-number.number-index 0 (omega (arith, ap length e)))

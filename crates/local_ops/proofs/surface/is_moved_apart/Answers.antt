use Rattle.std.proofs.Common.{◌≡◌, ◌∙◌, ℕ, List, false, not, ap, sym}
use Rattle.std.specs.List.{list_any}
use Rattle.grid.specs.Simplices.{has, same_triple}
use Rattle.mesh_store.specs.Parts.{mesh_in}
use Rattle.local_ops.proofs.surface.is_moved_apart.Goals as goal

pub returns-else-has : goal.returns-else-has
returns-else-has c =
    let e : has c.args.face.0 c.args.v ≡ false = sym c.has.ensures.corner ∙ c.if-has.false in
    rw e (ap not (c.is_tracked.ensures ∙ ap (λ (t : List ℕ). list_any (same_triple t) (mesh_in c.args.store.now.parts).tracked) c.subst_rising.ensures))

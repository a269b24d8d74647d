use Rattle.std.proofs.Common.{◌≡◌, arith, ℕ, ◌+◌, ◌*◌, [], ◌∷◌, ◌++◌, ap, ap₂, ◌∙◌}
use Rattle.grid.specs.declared.shapes.Point.{Point}
use Rattle.mesh_types.specs.Lattice.{point}
use Rattle.background.proofs.SoFar.{so_far, so_far-more, so_far-all}
use Rattle.background.proofs.subdivision.points.Goals as goal

pub loop-i-preserved : goal.loop-i-preserved
loop-i-preserved c =
    let one = λ (i j k : ℕ). point (i * c.args.step) (j * c.args.step) (k * c.args.step) ∷ [] in
    c.in_ok-push.ensures.items
    ∙ ap₂ ◌++◌ c.loop-i.invariant (ap (λ (p : Point). p ∷ []) c.point_at.ensures)
    ∙ so_far-more one (c.args.cells + 1) c.loop-i.i c.loop-j.j c.loop-k.k

pub returns : goal.returns
returns c =
    let one = λ (i j k : ℕ). point (i * c.args.step) (j * c.args.step) (k * c.args.step) ∷ [] in
    let e : c.loop-k.k ≡ c.args.cells + 1 = omega arith in
    c.loop-k.invariant ∙ ap (so_far one (c.args.cells + 1) 0 0) e ∙ so_far-all one (c.args.cells + 1)

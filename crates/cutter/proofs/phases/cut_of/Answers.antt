use Rattle.std.proofs.Common.{◌≡◌, true, [], ◌∷◌, sym, subst}
use Rattle.grid.specs.Determinants.{point_at}
use Rattle.mesh_types.specs.CuttingRule.{splits}
use Rattle.cutter.proofs.phases.cut_of.Goals as goal

pub cut_between-requires-clause-apart : goal.cut_between-requires-clause-apart
cut_between-requires-clause-apart c =
    let points = c.args.slots.now.points in
    let m = c.args.plane.now in
    subst (λ p. splits m (p ∷ c.point-2.result ∷ []) ≡ true) (sym c.point.ensures)
    (subst (λ q. splits m (point_at points c.args.u ∷ q ∷ []) ≡ true) (sym c.point-2.ensures) c.requires.apart)

-- The snapped signs of the corners of a tetrahedron.
use Rattle.std.proofs.Common.{◌≡◌, ℤ, pos, List, map, ap, ◌∙◌}
use Rattle.std.specs.Int.Signed.{lt_z}
use Rattle.std.specs.List.{list_any}
use Rattle.std.specs.Ordering.{int_eq}
use Rattle.grid.specs.declared.shapes.Point.{Point}
use Rattle.grid.specs.Planes.{Plane, snap_sign}
use Rattle.grid.proofs.ForCallers.{any-map}
use Rattle.mesh_types.specs.CuttingRule.{lies_below, lies_above, lies_on}

-- some point lies on a side of the plane where some sign says so
module _ (m : Plane) (ps : List Point) (signs : List ℤ) (e : signs ≡ map (snap_sign m) ps) where
  pub signs-below : list_any (λ s. lt_z s (pos 0)) signs ≡ list_any (lies_below m) ps
  unfolding lies_below
  signs-below = ap (list_any (λ s. lt_z s (pos 0))) e ∙ any-map (λ s. lt_z s (pos 0)) (snap_sign m) ps

  pub signs-on : list_any (λ s. int_eq s (pos 0)) signs ≡ list_any (lies_on m) ps
  unfolding lies_on
  signs-on = ap (list_any (λ s. int_eq s (pos 0))) e ∙ any-map (λ s. int_eq s (pos 0)) (snap_sign m) ps

  pub signs-above : list_any (λ s. lt_z (pos 0) s) signs ≡ list_any (lies_above m) ps
  unfolding lies_above
  signs-above = ap (list_any (λ s. lt_z (pos 0) s)) e ∙ any-map (λ s. lt_z (pos 0) s) (snap_sign m) ps

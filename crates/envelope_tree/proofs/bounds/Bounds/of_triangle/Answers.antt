use Rattle.std.proofs.Common.{ℤ, subst, lit<, to_z, of_z, w32}
use Rattle.tri_distance.proofs.ForCallers.{up_to-IsWithin}
use Rattle.grid.specs.Boxes.{IsUpTo}
use Rattle.grid.specs.Limits.{largest_side}
use Rattle.envelope_tree.specs.declared.bounds.Interval.{Interval}
use Rattle.envelope_tree.specs.Bounds.{Spans}
use Rattle.envelope_tree.proofs.Kept.{kept_is}
use Rattle.envelope_tree.proofs.bounds.Bounds.of_triangle.Goals as goal

at : (i : Interval) (z : ℤ) → Spans i (to_z w32 (of_z w32 z)) → IsUpTo largest_side z → Spans i z
at i z s h = subst (Spans i) (kept_is w32 largest_side z (up_to-IsWithin z h) (lit< tt)) s

pub returns-clause-encloses : goal.returns-clause-encloses
returns-clause-encloses c =
    let x = c.hull.ensures in
    let y = c.hull-2.ensures in
    let z = c.hull-3.ensures in
    let h = c.requires.tri_in in record {
      first = record { x_in = at _ _ x.a_spanned h.a_in.x_in; y_in = at _ _ y.a_spanned h.a_in.y_in; z_in = at _ _ z.a_spanned h.a_in.z_in };
      second = record { x_in = at _ _ x.b_spanned h.b_in.x_in; y_in = at _ _ y.b_spanned h.b_in.y_in; z_in = at _ _ z.b_spanned h.b_in.z_in };
      third = record { x_in = at _ _ x.c_spanned h.c_in.x_in; y_in = at _ _ y.c_spanned h.c_in.y_in; z_in = at _ _ z.c_spanned h.c_in.z_in };
    }

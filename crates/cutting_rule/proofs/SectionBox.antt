-- The section of a triangle lies in its bounding box, widened.
use Rattle.std.proofs.Common.{◌≡◌, ℕ, ◌+◌, ◌*◌, ◌^◌, ◌<◌, ◌≤◌, Bool, true, not, List, [], ◌∷◌, length, map, ℤ, pos, ◌+ℤ◌, ◌-ℤ◌, ◌*ℤ◌, ◌≤ℤ◌, ◌<ℤ◌, refl, sym, ap, ◌∙◌, subst, arith, slice_index_or}
use Rattle.std.specs.Int.Signed.{lt_z}
use Rattle.std.proofs.lemmas.Bool.{and_parts}
use Rattle.std.proofs.lemmas.List.Elements.{recursion_from_All}
use lib.IntN.{nat_abs}
use Rattle.int_algebra.proofs.Laws.{linear}
use Rattle.int_algebra.proofs.Ring.{constant, variable, ◌⊗◌, ring}
use Rattle.int_algebra.proofs.Orders.{natural-NonNegative}
use Rattle.grid.specs.declared.shapes.Point.{Point}
use Rattle.grid.specs.declared.shapes.Tri.{Tri}
use Rattle.grid.specs.Boxes.{corner_of, IsInBox}
use Rattle.grid.specs.Determinants.{origin}
use Rattle.grid.specs.Vectors.{Vector, difference, dot}
use Rattle.grid.specs.Planes.{value_of, snap_sign, normal_of, unit_of, largest_axis, side_normal, side_plane, IsDegenerate}
use Rattle.grid.specs.Limits.{largest_side}
use Rattle.mesh_types.specs.CuttingRule.{lies_below, lies_on, section_plane, is_in_section}
use Rattle.planes.proofs.ForCallers.{side_plane-third}
use Rattle.cutting_rule.proofs.SnapReaches.{on_reach, above_reach, height_low, height_high}
use Rattle.cutting_rule.proofs.Weights.{chosen, across, value_to, turned_z, second-same, third-same, values-sum, value-along, mean-x, mean-y, mean-z}
use Rattle.cutting_rule.proofs.LongestAxes.{IsSmall, unit_small, turned_small, largest-IsAtMost, abs_turned, abs_in}
use Rattle.cutting_rule.proofs.Coordinates.{along, one_axis}
use Rattle.cutting_rule.specs.Bounds.{AreEnds, AreBounds}
use Rattle.cutting_rule.specs.Section.{IsWithin}
use Rattle.cutting_rule.specs.Spread.{IsSpreadBox, IsLengthAtMost}
use Rattle.vectors.proofs.VectorLemmas.{length-NonNegative}

one_times : (d : ℤ) → pos (1 ^ 2) *ℤ d ≡ d
one_times d = ring (d ∷ []) (constant (pos 1) ⊗ variable 0) (variable 0) refl

-- ---- the corners lie in the bounding box
ends_at : (f : Point → ℤ) (ps : List Point) (lo hi : ℤ) → length ps ≡ 3 → AreEnds lo hi (map f ps)
    → ((lo ≤ℤ f (slice_index_or ps 0 origin)) × (f (slice_index_or ps 0 origin) ≤ℤ hi)) × ((lo ≤ℤ f (slice_index_or ps 1 origin)) × (f (slice_index_or ps 1 origin) ≤ℤ hi)) × ((lo ≤ℤ f (slice_index_or ps 2 origin)) × (f (slice_index_or ps 2 origin) ≤ℤ hi))
ends_at f [] lo hi l h = absurd (omega (arith, l))
ends_at f (a ∷ []) lo hi l h = absurd (omega (arith, l))
ends_at f (a ∷ b ∷ []) lo hi l h = absurd (omega (arith, l))
ends_at f (a ∷ b ∷ c ∷ d ∷ ps) lo hi l h = absurd (omega (arith, l))
ends_at f (a ∷ b ∷ c ∷ []) lo hi l h =
    let low = recursion_from_All (λ v. lo ≤ℤ v) (f a ∷ f b ∷ f c ∷ []) h.lo_least in
    let high = recursion_from_All (λ v. v ≤ℤ hi) (f a ∷ f b ∷ f c ∷ []) h.hi_greatest in
    ((low.0, high.0), (low.1.0, high.1.0), (low.1.1.0, high.1.1.0))

squares : (n : Vector) (g : ℤ) → (g *ℤ g) ≤ℤ dot n n → (g *ℤ g) ≤ℤ (n.x *ℤ n.x +ℤ n.y *ℤ n.y +ℤ n.z *ℤ n.z)
unfolding dot
squares n g h = h

one_at_most : (d a : ℤ) → pos (nat_abs d) ≡ a → pos 0 <ℤ a → 1 ≤ nat_abs d
one_at_most d a e h =
    let some : pos 0 <ℤ pos (nat_abs d) = subst (λ (z : ℤ). pos 0 <ℤ z) (sym e) h in
    omega (arith, linear, some)

zero_below_three : 0 < 3
zero_below_three = omega arith

at_least_zero : (a : ℤ) → pos 0 <ℤ a → pos 0 ≤ℤ a
at_least_zero a h = omega (arith, linear, h)

as_integers : (m n : ℕ) → m ≤ n → pos m ≤ℤ pos n
as_integers m n h = omega (arith, linear, h)

-- ---- a triangle
module _ (t : Tri) where
  abbrev axis : Vector
  axis = unit_of (largest_axis (normal_of t))

  abbrev side : Bool
  side = lt_z (pos 0) (value_to true axis (corner_of t 0) (corner_of t 1) (corner_of t 2))

  second-normal : side_normal t 1 ≡ chosen side (across axis (corner_of t 1) (corner_of t 2))
  second-normal = ap (λ (z : ℤ). chosen (lt_z (pos 0) z) (across axis (corner_of t 1) (corner_of t 2))) (second-same axis (corner_of t 0) (corner_of t 1) (corner_of t 2) (corner_of t 0))

  third-normal : side_normal t 2 ≡ chosen side (across axis (corner_of t 2) (corner_of t 0))
  third-normal = ap (λ (z : ℤ). chosen (lt_z (pos 0) z) (across axis (corner_of t 2) (corner_of t 0))) (third-same axis (corner_of t 0) (corner_of t 1) (corner_of t 2) (corner_of t 0))

  abbrev value_at : ℕ → Point → ℤ
  value_at i p = dot (side_normal t i) (difference p (corner_of t i))

  -- a point that does not lie below a side
  not_below : (i : ℕ) (p : Point) (w : ℕ) → dot (side_normal t i) (side_normal t i) ≤ℤ pos (w * w) → not (lies_below (side_plane t i) p) ≡ true → (pos 0 -ℤ pos w) ≤ℤ value_at i p
  unfolding lies_below snap_sign value_of
  not_below i p w h e =
      let le : (pos (1 ^ 2) *ℤ dot (side_normal t i) (side_normal t i)) ≤ℤ (pos w *ℤ pos w) = subst (λ (z : ℤ). z ≤ℤ pos (w * w)) (sym (one_times _)) h in
      above_reach (pos (1 ^ 2) *ℤ dot (side_normal t i) (side_normal t i)) (pos w) (value_at i p) (natural-NonNegative w) le e

  -- a point on the plane
  near_plane : (p : Point) → lies_on (section_plane t) p ≡ true → (dot (normal_of t) (difference p (corner_of t 0)) *ℤ dot (normal_of t) (difference p (corner_of t 0))) ≤ℤ dot (normal_of t) (normal_of t)
  unfolding lies_on snap_sign value_of section_plane
  near_plane p e =
      let r = pos (1 ^ 2) *ℤ dot (normal_of t) (normal_of t) in
      let some : pos 0 ≤ℤ r = subst (λ (z : ℤ). pos 0 ≤ℤ z) (sym (one_times _)) (length-NonNegative (normal_of t)) in
      let v = dot (normal_of t) (difference p (corner_of t 0)) in
      subst (λ (z : ℤ). (v *ℤ v) ≤ℤ z) (one_times _) (on_reach r v some e)

  -- the corners are in the box, u, v and w are at least as long as the normals of the sides, and the area is at most the normal's longest component
  module _ (lo hi l h : Point) (u v w area : ℕ) (three : length t.0 ≡ 3) (some_area : ¬ IsDegenerate t) (ends : AreBounds lo hi t.0)
      (u_in : dot (side_normal t 0) (side_normal t 0) ≤ℤ pos (u * u)) (v_in : dot (side_normal t 1) (side_normal t 1) ≤ℤ pos (v * v)) (w_in : dot (side_normal t 2) (side_normal t 2) ≤ℤ pos (w * w))
      (area_in : (n : ℕ) → 1 ≤ n → IsLengthAtMost (normal_of t) n → area ≤ n) (spread : IsSpreadBox lo hi (u + v + w) area l h) where
    pub section-IsWithin : (p : Point) → IsInBox largest_side p → is_in_section t p ≡ true → IsWithin l h p
    unfolding is_in_section value_of
    section-IsWithin p p_in e =
        let a = corner_of t 0 in
        let b = corner_of t 1 in
        let c = corner_of t 2 in
        let n = normal_of t in
        let tests = and_parts _ _ e in
        let first = and_parts _ _ tests.1 in
        let second = and_parts _ _ first.1 in
        let third = and_parts _ _ second.1 in
        let f_0 = value_to side axis a b p in
        let f_1 = value_to side axis b c p in
        let f_2 = value_to side axis c a p in
        let above_0 : (pos 0 -ℤ pos u) ≤ℤ f_0 = not_below 0 p u u_in first.0 in
        let above_1 : (pos 0 -ℤ pos v) ≤ℤ f_1 = subst (λ (m : Vector). (pos 0 -ℤ pos v) ≤ℤ dot m (difference p b)) second-normal (not_below 1 p v v_in second.0) in
        let above_2 : (pos 0 -ℤ pos w) ≤ℤ f_2 = subst (λ (m : Vector). (pos 0 -ℤ pos w) ≤ℤ dot m (difference p c)) third-normal (not_below 2 p w w_in third.0) in
        let whole = f_0 +ℤ f_1 +ℤ f_2 in
        let d = dot n axis in
        let sum : whole ≡ value_to side axis a b c = values-sum axis a b c p side in
        let third_positive : pos 0 <ℤ value_to side axis a b c = side_plane-third t 0 zero_below_three some_area in
        let positive : pos 0 <ℤ whole = subst (λ (z : ℤ). pos 0 <ℤ z) (sym sum) third_positive in
        let is : pos (nat_abs d) ≡ whole = abs_turned side d whole (sum ∙ value-along axis a b c p side) positive in
        let longest = largest-IsAtMost n in
        let within : (z : ℤ) → nat_abs z ≤ nat_abs d → ((pos 0 -ℤ whole) ≤ℤ z) × (z ≤ℤ whole) = λ z k. subst (λ (q : ℤ). ((pos 0 -ℤ q) ≤ℤ z) × (z ≤ℤ q)) is (abs_in z (nat_abs d) k) in
        let x_in = within n.x longest.x_in in
        let y_in = within n.y longest.y_in in
        let z_in = within n.z longest.z_in in
        let not_below_0 : pos 0 ≤ℤ whole = at_least_zero whole positive in
        let g = dot n (difference p a) in
        let close = squares n g (near_plane p tests.0) in
        let g_low = height_low n.x n.y n.z whole g x_in y_in z_in not_below_0 close in
        let g_high = height_high n.x n.y n.z whole g x_in y_in z_in not_below_0 close in
        let small = unit_small (largest_axis n) in
        let along_ = λ (z : ℤ) (k : IsSmall z). along g (turned_z side z) (pos 2 *ℤ whole) g_low g_high (turned_small side z k).0 (turned_small side z k).1 in
        let least : area ≤ nat_abs d = area_in (nat_abs d) (one_at_most d whole is positive) longest in
        let enough : pos area ≤ℤ whole = subst (λ (z : ℤ). pos area ≤ℤ z) is (as_integers area (nat_abs d) least) in
        let xs = ends_at (λ (q : Point). q.x) t.0 lo.x hi.x three ends.x_ends in
        let ys = ends_at (λ (q : Point). q.y) t.0 lo.y hi.y three ends.y_ends in
        let zs = ends_at (λ (q : Point). q.z) t.0 lo.z hi.z three ends.z_ends in
        let at_x = one_axis f_0 f_1 f_2 u v w area c.x a.x b.x lo.x hi.x l.x h.x p.x (g *ℤ turned_z side axis.x) spread.x_spread p_in.x_in above_0 above_1 above_2 xs.2 xs.0 xs.1 enough positive (mean-x axis a b c p side) (along_ axis.x small.0) in
        let at_y = one_axis f_0 f_1 f_2 u v w area c.y a.y b.y lo.y hi.y l.y h.y p.y (g *ℤ turned_z side axis.y) spread.y_spread p_in.y_in above_0 above_1 above_2 ys.2 ys.0 ys.1 enough positive (mean-y axis a b c p side) (along_ axis.y small.1) in
        let at_z = one_axis f_0 f_1 f_2 u v w area c.z a.z b.z lo.z hi.z l.z h.z p.z (g *ℤ turned_z side axis.z) spread.z_spread p_in.z_in above_0 above_1 above_2 zs.2 zs.0 zs.1 enough positive (mean-z axis a b c p side) (along_ axis.z small.2) in
        record { x_low = at_x.0; x_high = at_x.1; y_low = at_y.0; y_high = at_y.1; z_low = at_z.0; z_high = at_z.1 }

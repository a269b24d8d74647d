-- What the pieces of a tetrahedron that is split or moved are tested for.
use Rattle.std.proofs.Common.{◌≡◌, ℕ, Bool, true, false, ◌&&◌, List, length, pos, ◌<ℤ◌, sym, ◌∙◌}
use Rattle.std.specs.Prelude.{nat_lt}
use Rattle.std.specs.Int.Signed.{lt_z}
use Rattle.std.proofs.lemmas.Bool.{and_parts}
use Rattle.int_algebra.proofs.Orders.{less_test}
use Rattle.grid.specs.declared.shapes.Point.{Point}
use Rattle.grid.specs.Simplices.{IsTet}
use Rattle.mesh_types.specs.declared.tries.Try.TheVariants.{Split, Shift}
use Rattle.local_ops.specs.Foreseen.{become_lower, become_positive, det_with, energy_with}
use Rattle.local_ops.proofs.Moved.{det-new, energy-new}

-- ---- two tests, the second where the first is passed
pub both_then : (a b r q : Bool) → q ≡ a → q ≡ true → r ≡ b → r ≡ (a && (b && true))
both_then true true r q e h g = g
both_then true false r q e h g = g
both_then false b r q e h g = cc (e, h)

pub both_else : (a b q : Bool) → q ≡ a → q ≡ false → q ≡ (a && (b && true))
both_else true b q e h = cc (e, h)
both_else false b q e h = e

pub one : (a q : Bool) → q ≡ a → q ≡ (a && true)
one true q e = e
one false q e = e

module _ (points : List Point) (p : Point) (x : List ℕ) (is : IsTet (length points) x) where
  pub split-positive : (u v : ℕ) → become_positive (Split u v) p points x ≡ (lt_z (pos 0) (det_with points u p x) && (lt_z (pos 0) (det_with points v p x) && true))
  split-positive u v = λ i. lt_z (pos 0) (det-new points u p x is i) && (lt_z (pos 0) (det-new points v p x is i) && true)

  pub shift-positive : (u way : ℕ) → become_positive (Shift u way) p points x ≡ (lt_z (pos 0) (det_with points u p x) && true)
  shift-positive u way = λ i. lt_z (pos 0) (det-new points u p x is i) && true

  pub split-lower : (u v n : ℕ) → become_lower (Split u v) p points n x ≡ (nat_lt (energy_with points u p x) n && (nat_lt (energy_with points v p x) n && true))
  split-lower u v n = λ i. nat_lt (energy-new points u p x is i) n && (nat_lt (energy-new points v p x is i) n && true)

  pub shift-lower : (u way n : ℕ) → become_lower (Shift u way) p points n x ≡ (nat_lt (energy_with points u p x) n && true)
  shift-lower u way n = λ i. nat_lt (energy-new points u p x is i) n && true

  pub split-signs : (u v : ℕ) → become_positive (Split u v) p points x ≡ true → (pos 0 <ℤ det_with points u p x) × (pos 0 <ℤ det_with points v p x)
  split-signs u v h =
      let e = and_parts (lt_z (pos 0) (det_with points u p x)) (lt_z (pos 0) (det_with points v p x) && true) (sym (split-positive u v) ∙ h) in
      let f = and_parts (lt_z (pos 0) (det_with points v p x)) true e.1 in
      ((less_test (pos 0) (det_with points u p x)).0 e.0, (less_test (pos 0) (det_with points v p x)).0 f.0)

  pub shift-signs : (u way : ℕ) → become_positive (Shift u way) p points x ≡ true → pos 0 <ℤ det_with points u p x
  shift-signs u way h =
      let e = and_parts (lt_z (pos 0) (det_with points u p x)) true (sym (shift-positive u way) ∙ h) in
      (less_test (pos 0) (det_with points u p x)).0 e.0

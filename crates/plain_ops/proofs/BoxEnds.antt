-- The ends of the three axes are the sides of the box.
use Rattle.std.proofs.Common.{◌≡◌, ◌↔◌, ℕ, ℤ, pos, Bool, true, false, IsTrue, subst}
use Rattle.grid.specs.declared.shapes.Point.{Point}
use Rattle.grid.specs.Boxes.{Axis, along_x, along_y, along_z, Side, IsOn}
use Rattle.plain_ops.specs.Befores.{StaysAtEnd, IsApartAtEnd}

-- what holds along x, y and z holds along each axis
pub each-axis : (P : Axis → Type 0) → P along_x → P along_y → P along_z → (a : Axis) → P a
each-axis P x y z along_x = x
each-axis P x y z along_y = y
each-axis P x y z along_z = z

module _ (l : ℕ) (p q : Point) where
  pub stays_is : (StaysAtEnd (pos 0) p q × StaysAtEnd (pos l) p q) ↔ ((s : Side) → IsOn l s p → IsOn l s q)
  stays_is = (λ h s. by h s.is_far s.axis, λ k. (λ a. k (record { axis = a; is_far = false }), λ a. k (record { axis = a; is_far = true })))
    where
      by : StaysAtEnd (pos 0) p q × StaysAtEnd (pos l) p q → (f : Bool) (a : Axis) → IsOn l (record { axis = a; is_far = f }) p → IsOn l (record { axis = a; is_far = f }) q
      by h false a = h.0 a
      by h true a = h.1 a

  pub apart_is : (IsApartAtEnd (pos 0) p q × IsApartAtEnd (pos l) p q) ↔ ((s : Side) → IsOn l s p → ¬ IsOn l s q)
  apart_is = (λ h s. by h s.is_far s.axis, λ k. (λ a. k (record { axis = a; is_far = false }), λ a. k (record { axis = a; is_far = true })))
    where
      by : IsApartAtEnd (pos 0) p q × IsApartAtEnd (pos l) p q → (f : Bool) (a : Axis) → IsOn l (record { axis = a; is_far = f }) p → ¬ IsOn l (record { axis = a; is_far = f }) q
      by h false a = h.0 a
      by h true a = h.1 a

-- a test of values as the machine reads them
pub read-stays : (b : Bool) (p q end p' q' end' : ℤ) → p' ≡ p → q' ≡ q → end' ≡ end → IsTrue b ↔ (p' ≡ end' → q' ≡ end') → IsTrue b ↔ (p ≡ end → q ≡ end)
read-stays b p q end p' q' end' e f g h = subst (λ (A : Type 0). A) (λ i. IsTrue b ↔ (e i ≡ g i → f i ≡ g i)) h

pub read-apart : (b : Bool) (p q end p' q' end' : ℤ) → p' ≡ p → q' ≡ q → end' ≡ end → IsTrue b ↔ (p' ≡ end' → ¬ (q' ≡ end')) → IsTrue b ↔ (p ≡ end → ¬ (q ≡ end))
read-apart b p q end p' q' end' e f g h = subst (λ (A : Type 0). A) (λ i. IsTrue b ↔ (e i ≡ g i → ¬ (f i ≡ g i))) h

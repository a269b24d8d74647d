-- Numbers of the head that are one of a list.
use Rattle.std.proofs.Common.{◌≡◌, zero, suc, ◌*◌, ◌^◌, ◌≤◌, Bool, true, false, [], ◌∷◌, All, sym, ◌∙◌, arith}
use Rattle.std.specs.Prelude.{ℤ, unsigned_abs}
use Rattle.std.proofs.lemmas.Bool.{true≢false}

-- what the test denies is not so
pub other_than : (test is : Bool) → test ≡ is → test ≡ false → is ≡ true → ⊥
other_than test is same denied so = true≢false (sym so ∙ sym same ∙ denied)

-- three numbers of a shift
pub three_near : (x y z : ℤ) → unsigned_abs x ≤ 2 * 10 ^ 9 → unsigned_abs y ≤ 2 * 10 ^ 9 → unsigned_abs z ≤ 2 * 10 ^ 9 → All (λ s. unsigned_abs s ≤ 2 * 10 ^ 9) (x ∷ y ∷ z ∷ [])
three_near x y z hx hy hz zero d short = hx
three_near x y z hx hy hz (suc zero) d short = hy
three_near x y z hx hy hz (suc (suc zero)) d short = hz
three_near x y z hx hy hz (suc (suc (suc k))) d short = absurd (omega (arith, short))

use Rattle.std.proofs.Common.{◌≡◌, ◌+◌, ◌^◌, ◌<◌, ◌≤◌, ℕ, [], ◌∷◌, ℤ, ◌+ℤ◌, SFits, suc, ap, ◌∙◌, arith, lit≤, subst, sym, to_z, of_z, w32}
use Rattle.std.proofs.Common.{pow-suc}
use Rattle.std.proofs.Math.Nat.{pow-le-pow_right}
use Rattle.std.proofs.lemmas.Int.{ints}
use Rattle.int_algebra.specs.Within.{IsWithin}
use Rattle.int_algebra.proofs.Bounds.{within_natural, wider-IsWithin}
use Rattle.int_algebra.proofs.Kept.{Code, variable, ◌⊕◌, kept, kept-value, fits_code}
use Rattle.grid.specs.declared.shapes.Point.{Point}
use Rattle.grid.specs.Boxes.{IsUpTo, IsInBox}
use Rattle.mesh_types.specs.Certificates.{midpoint}
use Rattle.cover.proofs.pieces.midpoint.Goals as goal

abbrev sum : Code
sum = kept w32 (variable 0) ⊕ kept w32 (variable 1)

power_at_most : (k : ℕ) → k < 6 → 2 ^ (18 + k) ≤ 2 ^ 24
power_at_most k h =
    let l : 18 + k ≤ 24 = omega (arith, h) in
    pow-le-pow_right (lit≤ tt) l

up_to-IsWithin : (k : ℕ) (z : ℤ) → k < 6 → IsUpTo (2 ^ (18 + k)) z → IsWithin (2 ^ 24) z
up_to-IsWithin k z h i = wider-IsWithin (2 ^ 24) (within_natural (2 ^ (18 + k)) z i.low i.high) (power_at_most k h)

-- one coordinate
fits : (k : ℕ) (a b : ℤ) → k < 6 → IsUpTo (2 ^ (18 + k)) a → IsUpTo (2 ^ (18 + k)) b → SFits w32 (to_z w32 (of_z w32 a) +ℤ to_z w32 (of_z w32 b))
fits k a b h i j = fits_code (2 ^ 24 ∷ 2 ^ 24 ∷ []) (a ∷ b ∷ []) (up_to-IsWithin k a h i, (up_to-IsWithin k b h j, tt)) w32 sum tt

is : (k : ℕ) (a b : ℤ) → k < 6 → IsUpTo (2 ^ (18 + k)) a → IsUpTo (2 ^ (18 + k)) b → to_z w32 (of_z w32 (to_z w32 (of_z w32 a) +ℤ to_z w32 (of_z w32 b))) ≡ a +ℤ b
is k a b h i j = kept-value (2 ^ 24 ∷ 2 ^ 24 ∷ []) (a ∷ b ∷ []) (up_to-IsWithin k a h i, (up_to-IsWithin k b h j, tt)) (kept w32 sum) tt

sum-IsUpTo : (k : ℕ) (a b : ℤ) → IsUpTo (2 ^ (18 + k)) a → IsUpTo (2 ^ (18 + k)) b → IsUpTo (2 ^ (18 + (k + 1))) (a +ℤ b)
sum-IsUpTo k a b i j =
    let next : suc (18 + k) ≡ 18 + (k + 1) = omega arith in
    let double : 2 ^ (18 + k) + 2 ^ (18 + k) ≡ 2 ^ suc (18 + k) = omega (arith, pow-suc 2 (18 + k)) in
    let twice : 2 ^ (18 + k) + 2 ^ (18 + k) ≡ 2 ^ (18 + (k + 1)) = double ∙ ap (λ (n : ℕ). 2 ^ n) next in
    subst (λ (n : ℕ). IsUpTo n (a +ℤ b)) twice (record { low = omega (arith, ints, i.low, j.low); high = omega (arith, ints, i.high, j.high) })

module _ (k : ℕ) (a b : Point) (h : k < 6) (p : IsInBox (2 ^ (18 + k)) a) (q : IsInBox (2 ^ (18 + k)) b) where
  value_is : ◌≡◌ {A = Point} record { x = to_z w32 (of_z w32 (to_z w32 (of_z w32 a.x) +ℤ to_z w32 (of_z w32 b.x))); y = to_z w32 (of_z w32 (to_z w32 (of_z w32 a.y) +ℤ to_z w32 (of_z w32 b.y))); z = to_z w32 (of_z w32 (to_z w32 (of_z w32 a.z) +ℤ to_z w32 (of_z w32 b.z))) } (midpoint a b)
  value_is = λ i. record { x = is k a.x b.x h p.x_in q.x_in i; y = is k a.y b.y h p.y_in q.y_in i; z = is k a.z b.z h p.z_in q.z_in i }

  midpoint-IsInBox : IsInBox (2 ^ (18 + (k + 1))) (midpoint a b)
  midpoint-IsInBox = record { x_in = sum-IsUpTo k a.x b.x p.x_in q.x_in; y_in = sum-IsUpTo k a.y b.y p.y_in q.y_in; z_in = sum-IsUpTo k a.z b.z p.z_in q.z_in }

pub overflow_add-result : goal.overflow_add-result
overflow_add-result c = fits c.args.k c.args.a.x c.args.b.x c.requires.k_in c.requires.a_in.x_in c.requires.b_in.x_in

pub overflow_add-result-2 : goal.overflow_add-result-2
overflow_add-result-2 c = fits c.args.k c.args.a.y c.args.b.y c.requires.k_in c.requires.a_in.y_in c.requires.b_in.y_in

pub overflow_add-result-3 : goal.overflow_add-result-3
overflow_add-result-3 c = fits c.args.k c.args.a.z c.args.b.z c.requires.k_in c.requires.a_in.z_in c.requires.b_in.z_in

pub returns-clause-value : goal.returns-clause-value
returns-clause-value c = value_is c.args.k c.args.a c.args.b c.requires.k_in c.requires.a_in c.requires.b_in

pub returns-clause-within : goal.returns-clause-within
returns-clause-within c =
    subst (IsInBox (2 ^ (18 + (c.args.k + 1)))) (sym (value_is c.args.k c.args.a c.args.b c.requires.k_in c.requires.a_in c.requires.b_in)) (midpoint-IsInBox c.args.k c.args.a c.args.b c.requires.k_in c.requires.a_in c.requires.b_in)

use Rattle.std.proofs.Common.{◌≡◌, ℕ, ◌+◌, ◌*◌, pos, ◌≤ℤ◌, ap, sym, ◌∙◌, subst, arith, slice_index_or, List, ℤ, w64, to_z, of_z, to_z-of_z}
use lib.IntN.{nat_abs}
use Rattle.int_algebra.proofs.Bounds.{fits_within}
use Rattle.grid.specs.Vectors.{dot}
use Rattle.cutting_rule.proofs.Spreads.{length-squares}
use Rattle.cutting_rule.proofs.spread.length_above.Goals as goal

pub returns-clause-above : goal.returns-clause-above
returns-clause-above c =
    let n = c.args.plane.now.normal in
    let bound = c.normal.ensures.bound in
    let at = λ (i : ℕ). ap (λ (l : List ℤ). nat_abs (to_z w64 (of_z w64 (slice_index_or l i (pos 0))))) c.normal.ensures.normal in
    let x : c.unsigned_abs.result ≡ nat_abs n.x = c.unsigned_abs.ensures.value ∙ (at 0 ∙ ap nat_abs (to_z-of_z (fits_within w64 bound.x_in (omega arith)))) in
    let y : c.unsigned_abs-2.result ≡ nat_abs n.y = c.unsigned_abs-2.ensures.value ∙ (at 1 ∙ ap nat_abs (to_z-of_z (fits_within w64 bound.y_in (omega arith)))) in
    let z : c.unsigned_abs-3.result ≡ nat_abs n.z = c.unsigned_abs-3.ensures.value ∙ (at 2 ∙ ap nat_abs (to_z-of_z (fits_within w64 bound.z_in (omega arith)))) in
    let sum : nat_abs n.x + nat_abs n.y + nat_abs n.z ≡ c.unsigned_abs.result + c.unsigned_abs-2.result + c.unsigned_abs-3.result = λ i. sym x i + sym y i + sym z i in
    subst (λ (k : ℕ). dot n n ≤ℤ pos (k * k)) sum (length-squares n)

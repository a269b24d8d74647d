use Rattle.std.proofs.Common.{◌≡◌, ◌++◌, ◌^◌, ℤ, ap, ◌∙◌, arith, to_z, of_z, to_z-of_z, w64}
use Rattle.std.specs.Fmt.{signed_decimal}
use Rattle.int_algebra.specs.Within.{IsWithin}
use Rattle.int_algebra.proofs.Bounds.{fits_within}
use Rattle.off_text.proofs.Writing.{six_pieces}
use Rattle.off_text.proofs.write.put_vertex.Goals as goal

kept : (z : ℤ) → IsWithin (10 ^ 9) z → to_z w64 (of_z w64 z) ≡ z
kept z few = to_z-of_z (fits_within w64 few (omega arith))

pub returns : goal.returns
returns c =
    six_pieces c.args.out.now.items _ _ _ _ _ _ _ _ _
    (c.in_ok-put_coordinate.ensures ∙ ap (λ (z : ℤ). c.args.out.now.items ++ signed_decimal z) (kept _ c.requires.x_in))
    c.in_ok-put.ensures
    (c.in_ok-put_coordinate-2.ensures ∙ ap (λ (z : ℤ). c.put.new.out.items ++ signed_decimal z) (kept _ c.requires.y_in))
    c.in_ok-put-2.ensures
    (c.in_ok-put_coordinate-3.ensures ∙ ap (λ (z : ℤ). c.put-2.new.out.items ++ signed_decimal z) (kept _ c.requires.z_in))
    c.in_ok-put-3.ensures

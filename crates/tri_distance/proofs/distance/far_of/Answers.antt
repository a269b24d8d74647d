use Rattle.std.proofs.Common.{rules, ◌≡◌, ◌*◌, ◌*ℤ◌, ◌^◌, pos, subst, sym, to_z, of_z, w64}
use Rattle.grid.specs.Limits.{largest_side}
use Rattle.int_algebra.specs.Within.{IsWithin}
use Rattle.tri_distance.proofs.Limits.{far-IsWithin}
use Rattle.tri_distance.proofs.distance.far_of.Goals as goal

pub returns-clause-within : goal.returns-clause-within
returns-clause-within c =
    let is : to_z w64 (of_z w64 (to_z w64 c.args.e *ℤ to_z w64 (of_z w64 c.scale_of.result))) ≡ pos (c.args.e * 2 ^ c.args.k) = search rules in
    subst (IsWithin largest_side) (sym is) (far-IsWithin c.args.k c.args.e c.requires.k_in c.requires.e_in)

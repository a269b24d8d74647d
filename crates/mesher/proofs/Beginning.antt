-- The background mesh is one to begin a store with.
use Rattle.std.proofs.Common.{◌≡◌, ℕ, ◌^◌, ◌≤◌, ℤ, pos, nat_abs, length, All, sym, subst, arith, lit≤}
use Rattle.std.proofs.Math.Nat.{pow-le-pow_right}
use Rattle.int_algebra.proofs.Laws.{linear}
use Rattle.grid.specs.Boxes.{IsInBox}
use Rattle.grid.specs.Limits.{IsSide, largest_side}
use Rattle.grid.specs.Meshes.{IsWellFormed, IsWithinLimits}
use Rattle.mesh_types.specs.declared.lists.Lists.{Lists}
use Rattle.mesh_types.specs.Views.{mesh_of}
use Rattle.mesh_store.specs.Sound.{IsBox, IsFirstMesh}

box-at : (n : ℕ) → n ≤ largest_side → IsBox (pos n)
box-at n h = record { low = omega (arith, linear); high = omega (arith, linear) }

box-of : (side : ℤ) → IsSide side → IsBox side
box-of side s = subst IsBox (sym s.is) (box-at (2 ^ s.power) (pow-le-pow_right (lit≤ tt) s.power_most))

pub first-mesh : (side : ℤ) (m : Lists) → IsSide side → All (IsInBox (nat_abs side)) m.points → IsWellFormed (mesh_of m) → IsWithinLimits (mesh_of m) → m.made ≡ length m.tets → IsFirstMesh side m
first-mesh side m s b w l made = record { box = box-of side s; in_box = b; well_formed = w; within = l; made = made }

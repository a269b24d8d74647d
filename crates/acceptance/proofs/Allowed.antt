-- Powers of two within the limits of the report.
use Rattle.std.proofs.Common.{◌≡◌, ℕ, zero, suc, ◌^◌, ◌≤◌, true, pos, refl, sym, subst, arith, lit≤}
use native.Mathlib.Nat.{pow-le-pow_right}
use Rattle.grid.specs.Limits as grid_limits
use Rattle.grid.specs.Limits.{largest_side}
use Rattle.report_text.specs.Rules.{is_one_of, sides, cell_counts, IsSide, IsCells}

-- ---- cells
power_cells : (p : ℕ) → p ≤ 5 → is_one_of cell_counts (2 ^ p) ≡ true
power_cells zero le = refl
power_cells (suc zero) le = refl
power_cells (suc (suc zero)) le = refl
power_cells (suc (suc (suc zero))) le = refl
power_cells (suc (suc (suc (suc zero)))) le = refl
power_cells (suc (suc (suc (suc (suc zero))))) le = refl
power_cells (suc (suc (suc (suc (suc (suc p)))))) le = absurd (omega (arith, le))

pub cells_allowed : (cells : ℕ) → grid_limits.IsCells cells → IsCells cells
cells_allowed cells h =
    let least : 2 ^ 0 ≤ 2 ^ h.power = pow-le-pow_right (lit≤ tt) (zero_least h.power) in
    let most : 2 ^ h.power ≤ 2 ^ 5 = pow-le-pow_right (lit≤ tt) h.power_most in
    subst IsCells (sym h.is) ((omega (arith, least), omega (arith, most)), power_cells h.power h.power_most)
  where
    zero_least : (p : ℕ) → 0 ≤ p
    zero_least p = omega arith

-- ---- the side
power_sides : (p : ℕ) → 4 ≤ p → p ≤ 18 → is_one_of sides (2 ^ p) ≡ true
power_sides zero low le = absurd (omega (arith, low))
power_sides (suc zero) low le = absurd (omega (arith, low))
power_sides (suc (suc zero)) low le = absurd (omega (arith, low))
power_sides (suc (suc (suc zero))) low le = absurd (omega (arith, low))
power_sides (suc (suc (suc (suc zero)))) low le = refl
power_sides (suc (suc (suc (suc (suc zero))))) low le = refl
power_sides (suc (suc (suc (suc (suc (suc zero)))))) low le = refl
power_sides (suc (suc (suc (suc (suc (suc (suc zero))))))) low le = refl
power_sides (suc (suc (suc (suc (suc (suc (suc (suc zero)))))))) low le = refl
power_sides (suc (suc (suc (suc (suc (suc (suc (suc (suc zero))))))))) low le = refl
power_sides (suc (suc (suc (suc (suc (suc (suc (suc (suc (suc zero)))))))))) low le = refl
power_sides (suc (suc (suc (suc (suc (suc (suc (suc (suc (suc (suc zero))))))))))) low le = refl
power_sides (suc (suc (suc (suc (suc (suc (suc (suc (suc (suc (suc (suc zero)))))))))))) low le = refl
power_sides (suc (suc (suc (suc (suc (suc (suc (suc (suc (suc (suc (suc (suc zero))))))))))))) low le = refl
power_sides (suc (suc (suc (suc (suc (suc (suc (suc (suc (suc (suc (suc (suc (suc zero)))))))))))))) low le = refl
power_sides (suc (suc (suc (suc (suc (suc (suc (suc (suc (suc (suc (suc (suc (suc (suc zero))))))))))))))) low le = refl
power_sides (suc (suc (suc (suc (suc (suc (suc (suc (suc (suc (suc (suc (suc (suc (suc (suc zero)))))))))))))))) low le = refl
power_sides (suc (suc (suc (suc (suc (suc (suc (suc (suc (suc (suc (suc (suc (suc (suc (suc (suc zero))))))))))))))))) low le = refl
power_sides (suc (suc (suc (suc (suc (suc (suc (suc (suc (suc (suc (suc (suc (suc (suc (suc (suc (suc zero)))))))))))))))))) low le = refl
power_sides (suc (suc (suc (suc (suc (suc (suc (suc (suc (suc (suc (suc (suc (suc (suc (suc (suc (suc (suc p))))))))))))))))))) low le = absurd (omega (arith, le))

pub side_allowed : (l : ℕ) → grid_limits.IsSide (pos l) → IsSide l
side_allowed l h =
    let least : 2 ^ 4 ≤ 2 ^ h.power = pow-le-pow_right (lit≤ tt) h.power_least in
    let most : 2 ^ h.power ≤ largest_side = pow-le-pow_right (lit≤ tt) h.power_most in
    subst IsSide (sym (same l (2 ^ h.power) h.is)) ((omega (arith, least), omega (arith, most)), power_sides h.power h.power_least h.power_most)
  where
    same : (m n : ℕ) → pos m ≡ pos n → m ≡ n
    same m n e = cc e

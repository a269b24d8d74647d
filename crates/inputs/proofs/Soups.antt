-- A soup in its box, by the room that it needs.
use Rattle.std.proofs.Common.{◌≡◌, ℕ, ◌<◌, ◌≤◌, ◌^◌, pos, length, get_or, All, Ok, Err, refl, sym, ap, ◌∙◌, subst, arith, lit≤}
use Rattle.std.proofs.Math.Nat.{pow-le-pow_right}
use Rattle.std.proofs.lemmas.List.{length-map}
use Rattle.std.proofs.lemmas.Bool.{lt-ltb, le-ltb}
use Rattle.grid.specs.Boxes.{IsTriInBox}
use Rattle.grid.specs.Limits.{IsSide, largest_side, most_input}
use Rattle.soup.specs.declared.raw.Raw.{Raw}
use Rattle.soup.specs.declared.raw.Soup.{Soup}
use Rattle.soup.specs.Limits.{IsRaw}
use Rattle.soup.specs.Placement.{extent, room, side, start, placed, placed_triangle, IsLeastSide, IsInItsBox}
use Rattle.soup.proofs.ForCallers.{IsTriInBox-wider}
use Rattle.inputs.specs.Placed.{IsBoxed, IsPlacedFor}
use Rattle.inputs.specs.Texts.{soup_in, too_wide_line}

pub soup_fits : (e cells : ℕ) (raw : Raw) → ¬ (largest_side < room raw e) → soup_in e cells raw ≡ Ok (placed raw e cells)
soup_fits e cells raw fits = let le : room raw e ≤ largest_side = omega (arith, fits) in rw (le-ltb largest_side (room raw e) le) refl

pub soup_too_wide : (e cells : ℕ) (raw : Raw) → largest_side < room raw e → soup_in e cells raw ≡ Err (too_wide_line (extent raw))
soup_too_wide e cells raw wide = rw (lt-ltb largest_side (room raw e) wide) refl

-- ---- what holds of a placed soup
-- it has a triangle for each of the raw one
placed-few : (raw : Raw) (e cells : ℕ) (soup : Soup) → soup ≡ placed raw e cells → length raw.faces ≤ most_input → length soup.triangles ≤ most_input
unfolding placed
placed-few raw e cells soup is few =
    let moved = start raw.vertices (side raw e cells) in
    let count : length (placed raw e cells).triangles ≡ length raw.faces = length-map raw.faces (placed_triangle moved raw.vertices) in
    subst (λ (s : Soup). length s.triangles ≤ most_input) (sym is) (omega (arith, count, few))

side-is : (raw : Raw) (e cells : ℕ) → (placed raw e cells).side ≡ pos (side raw e cells)
unfolding placed
side-is raw e cells = refl

placed-inside : (raw : Raw) (e cells : ℕ) (soup : Soup) → soup ≡ placed raw e cells → IsSide soup.side → All (IsTriInBox (side raw e cells)) soup.triangles → All (IsTriInBox largest_side) soup.triangles
placed-inside raw e cells soup is s all =
    let same : pos (side raw e cells) ≡ pos (2 ^ s.power) = sym (side-is raw e cells) ∙ (ap (λ (z : Soup). z.side) (sym is) ∙ s.is) in
    let number : side raw e cells ≡ 2 ^ s.power = cc in
    let low : side raw e cells ≤ largest_side = subst (λ n. n ≤ largest_side) (sym number) (pow-le-pow_right (lit≤ tt) s.power_most) in
    λ k d lt. IsTriInBox-wider (side raw e cells) largest_side (get_or soup.triangles k d) low (all k d lt)

-- what the placement gives
pub placed-for : (raw : Raw) (e cells : ℕ) (soup : Soup) → IsRaw raw → soup ≡ placed raw e cells → IsLeastSide raw e cells soup.side → IsInItsBox e (side raw e cells) soup → IsPlacedFor cells soup
placed-for raw e cells soup is_raw is least inside = record {
  side = least.is_side;
  room = least.cells_fit;
  shift = λ k d lt. (inside.shift_few k d lt).within;
  few = placed-few raw e cells soup is is_raw.faces_few;
  inside = placed-inside raw e cells soup is least.is_side inside.in_box;
}

pub boxed : (raw : Raw) (e cells : ℕ) (soup : Soup) → IsRaw raw → ¬ (largest_side < room raw e) → soup ≡ placed raw e cells → IsBoxed e cells soup
boxed raw e cells soup is_raw fits is = record { raw = raw; raw_is = is_raw; has_room = omega (arith, fits); soup_is = is }

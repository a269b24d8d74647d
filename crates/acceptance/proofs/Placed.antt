-- What is known of a placed soup.
use Rattle.std.proofs.Common.{◌≡◌, ℕ, ◌+◌, ◌*◌, ◌^◌, ◌≤◌, max, List, [], ◌∷◌, length, ℤ, pos, ◌+ℤ◌, ◌-ℤ◌, ◌≤ℤ◌, refl, arith, unsigned_abs, slice_index_or}
use Rattle.std.proofs.lemmas.Int.{ints}
use Rattle.std.proofs.lemmas.List.{length-map}
use Rattle.int_algebra.specs.Within.{IsWithin}
use Rattle.grid.specs.Boxes.{IsUpTo}
use Rattle.grid.specs.Limits.{IsSide, IsCells, largest_side, most_input}
use Rattle.soup.specs.declared.raw.Raw.{Raw}
use Rattle.soup.specs.declared.raw.Soup.{Soup}
use Rattle.soup.specs.Limits.{IsRaw, largest_coordinate}
use Rattle.soup.specs.Placement.{extent, room, side, placed, placed_triangle, least, start_along, start, IsInItsBox}
use Rattle.soup.proofs.ForCallers.{in_its_box, least_side, side_is, AreAlong, least-IsWithin, along_x, along_y, along_z}

-- no coordinate of the shift is above this in absolute value
abbrev pub most_shift : ℕ
most_shift = 10 ^ 9 + largest_side

-- a soup in a box of side l, which is at least four times the cells, whose triangles lie e + 2 steps inside it
pub record IsPlacedIn (e cells l : ℕ) (soup : Soup) : Type 0 where
  pub side_is : soup.side ≡ pos l
  pub is_side : IsSide (pos l)
  pub most : l ≤ largest_side
  pub cells_fit : pos (4 * cells) ≤ℤ pos l
  pub few : length soup.triangles ≤ most_input
  pub box : IsInItsBox e l soup
  pub three : length soup.shift ≡ 3
  pub x_few : IsWithin most_shift (slice_index_or soup.shift 0 (pos 0))
  pub y_few : IsWithin most_shift (slice_index_or soup.shift 1 (pos 0))
  pub z_few : IsWithin most_shift (slice_index_or soup.shift 2 (pos 0))

before : (m : ℤ) (b : ℕ) → IsWithin largest_coordinate m → b ≤ largest_side → IsWithin most_shift (m -ℤ pos b)
before m b h few = record { within = omega (arith, ints, h.within) }

start_few : (axis : ℕ) (vs : List (List ℤ)) (l : ℕ) → l ≤ largest_side → AreAlong axis vs → IsWithin most_shift (start_along axis vs l)
start_few axis [] l few h = record { within = omega arith }
start_few axis (v ∷ vs) l few h = before (least axis (v ∷ vs)) _ (least-IsWithin axis (v ∷ vs) h) (omega arith)

-- a grid coordinate of the box plus that of the shift
pub shifted_few : (l : ℕ) (z s : ℤ) → l ≤ largest_side → IsUpTo l z → IsWithin most_shift s → unsigned_abs (z +ℤ s) ≤ 2 * 10 ^ 9
shifted_few l z s few h k = omega (arith, ints, h.low, h.high, k.within, few)

pub placed_well : (raw : Raw) (e cells : ℕ) → IsRaw raw → IsCells cells → room raw e ≤ largest_side → IsPlacedIn e cells (side raw e cells) (placed raw e cells)
unfolding placed
placed_well raw e cells is h few =
    let l = side raw e cells in
    let s = side_is raw e cells (extent raw) (max (room raw e) (4 * cells)) l h refl refl refl few in
    let vs = raw.vertices in
    record {
      side_is = refl;
      is_side = (least_side raw e cells s.needed).is_side;
      most = s.most;
      cells_fit = (least_side raw e cells s.needed).cells_fit;
      few = omega (arith, is.faces_few, length-map raw.faces (placed_triangle (start vs l) vs));
      box = in_its_box raw l e is.coordinates is.corners s.has_room s.most;
      three = refl;
      x_few = start_few 0 vs l s.most (along_x vs is.coordinates);
      y_few = start_few 1 vs l s.most (along_y vs is.coordinates);
      z_few = start_few 2 vs l s.most (along_z vs is.coordinates);
    }

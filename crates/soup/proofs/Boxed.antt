-- The placed vertices lie in the box.
use Rattle.std.proofs.Common.{◌≡◌, ℕ, ◌+◌, ◌-◌, ◌*◌, ◌/◌, ◌^◌, ◌<◌, ◌≤◌, max, List, [], ◌∷◌, length, ℤ, pos, ◌-ℤ◌, ◌≤ℤ◌, refl, sym, ap, ◌∙◌, subst, arith, unsigned_abs, slice_index_or, All, lit≤}
use Rattle.std.proofs.Math.Nat.{pow-le-pow_right}
use Rattle.std.proofs.lemmas.Int.{ints}
use Rattle.std.proofs.lemmas.List.{get_or-map, length-map}
use Rattle.std.proofs.lemmas.List.Elements.{All-from_recursion}
use Rattle.int_algebra.specs.Within.{IsWithin}
use Rattle.grid.specs.declared.shapes.Point.{Point}
use Rattle.grid.specs.Boxes.{IsUpTo, IsInBox, IsTriInBox}
use Rattle.grid.specs.Limits.{IsSide, IsCells, largest_side}
use Rattle.soup.specs.declared.raw.Raw.{Raw}
use Rattle.soup.specs.Limits.{IsVertex, IsFaceBelow, largest_coordinate}
use Rattle.soup.specs.Placement.{extent, room, side, placed_in, IsLeastSide, IsInItsBox, along, least, spread, start_along, start, placed_point, placed_triangle, power_from, IsInside, IsPointInside, IsTriInside}
use Rattle.soup.proofs.Powers.{power_from_is, least_power, least_of_powers}
use Rattle.soup.proofs.Ranges.{least_below, greatest_above, least-IsWithin, AreAlong, along_x, along_y, along_z}

-- ---- the side
pub record IsGoodSide (n l : ℕ) : Type 0 where
  pub is_side : IsSide (pos l)
  pub enough : n ≤ l
  pub most : l ≤ largest_side
  pub least : (k : ℕ) → 4 ≤ k → n ≤ 2 ^ k → l ≤ 2 ^ k

pub good_side : (n : ℕ) → n ≤ largest_side → IsGoodSide n (power_from 14 4 n)
good_side n few =
    let found = least_power 14 4 n few in
    let is : power_from 14 4 n ≡ 2 ^ found.0 = power_from_is 14 4 n found.0 found.1 in
    subst (IsGoodSide n) (sym is) (record {
      is_side = record { power = found.0; power_least = found.1.low; power_most = found.1.high; is = refl };
      enough = found.1.enough;
      most = pow-le-pow_right (lit≤ tt) found.1.high;
      least = λ k low enough. least_of_powers 14 4 n found.0 k found.1 low enough;
    })

-- ---- one coordinate
-- a number between the ends of a range in the middle of the box
inside_middle : (m top v : ℤ) (l margin s : ℕ) → m ≤ℤ v → v ≤ℤ top → unsigned_abs (top -ℤ m) ≡ s → s + 2 * margin ≤ l → IsInside margin l (v -ℤ (m -ℤ pos ((l - s) / 2)))
inside_middle m top v l margin s low high is fits = record { low = omega (arith, ints); high = omega (arith, ints) }

coordinate_inside : (axis : ℕ) (vs : List (List ℤ)) (l margin i : ℕ) (d : List ℤ) → spread axis vs + 2 * margin ≤ l → i < length vs → IsInside margin l (along axis (slice_index_or vs i d) -ℤ start_along axis vs l)
coordinate_inside axis [] l margin i d fits lt = absurd (omega arith)
coordinate_inside axis (v ∷ vs) l margin i d fits lt = inside_middle _ _ _ l margin _ (least_below axis (v ∷ vs) i d lt) (greatest_above axis (v ∷ vs) i d lt) refl fits

-- ---- points and triangles
pub point_inside : (raw : Raw) (l margin i : ℕ) (d : List ℤ) → extent raw + 2 * margin ≤ l → i < length raw.vertices → IsPointInside margin l (placed_point (start raw.vertices l) (slice_index_or raw.vertices i d))
point_inside raw l margin i d fits lt = record {
  x_inside = coordinate_inside 0 raw.vertices l margin i d (omega arith) lt;
  y_inside = coordinate_inside 1 raw.vertices l margin i d (omega arith) lt;
  z_inside = coordinate_inside 2 raw.vertices l margin i d (omega arith) lt;
}

-- inside a larger box
wider : (margin n more : ℕ) (z : ℤ) → n ≤ more → IsInside margin n z → IsInside margin more z
wider margin n more z below h = record { low = h.low; high = omega (arith, ints, h.high) }

pub wider_point : (margin n more : ℕ) (p : Point) → n ≤ more → IsPointInside margin n p → IsPointInside margin more p
wider_point margin n more p below h = record {
  x_inside = wider margin n more p.x below h.x_inside;
  y_inside = wider margin n more p.y below h.y_inside;
  z_inside = wider margin n more p.z below h.z_inside;
}

up_to : (margin n : ℕ) (z : ℤ) → IsInside margin n z → IsUpTo n z
up_to margin n z h = record { low = omega (arith, ints, h.low); high = omega (arith, ints, h.low, h.high) }

in_box : (margin n : ℕ) (p : Point) → IsPointInside margin n p → IsInBox n p
in_box margin n p h = record { x_in = up_to margin n p.x h.x_inside; y_in = up_to margin n p.y h.y_inside; z_in = up_to margin n p.z h.z_inside }

triangles_inside : (raw : Raw) (l margin : ℕ) → extent raw + 2 * margin ≤ l → All (IsFaceBelow (length raw.vertices)) raw.faces → All (IsTriInside margin l) (placed_in l raw).triangles
triangles_inside raw l margin fits below k d lt =
    let here : k < length raw.faces = omega (arith, length-map raw.faces (placed_triangle (start raw.vertices l) raw.vertices)) in
    let f = below k [] here in
    subst (IsTriInside margin l) (sym (get_or-map (placed_triangle (start raw.vertices l) raw.vertices) raw.faces k [] d here)) (record {
      a_inside = point_inside raw l margin _ [] fits f.a_in;
      b_inside = point_inside raw l margin _ [] fits f.b_in;
      c_inside = point_inside raw l margin _ [] fits f.c_in;
    })

triangles_in_box : (raw : Raw) (l margin : ℕ) → All (IsTriInside margin l) (placed_in l raw).triangles → All (IsTriInBox l) (placed_in l raw).triangles
triangles_in_box raw l margin inside k d lt =
    let t = inside k d lt in
    record { a_in = in_box margin l _ t.a_inside; b_in = in_box margin l _ t.b_inside; c_in = in_box margin l _ t.c_inside }

-- ---- the shift
few_before : (m : ℤ) (b : ℕ) → IsWithin largest_coordinate m → b ≤ largest_side → IsWithin (2 * 10 ^ 9) (m -ℤ pos b)
few_before m b h few = record { within = omega (arith, ints, h.within) }

start_few : (axis : ℕ) (vs : List (List ℤ)) (l : ℕ) → l ≤ largest_side → AreAlong axis vs → IsWithin (2 * 10 ^ 9) (start_along axis vs l)
start_few axis [] l few h = record { within = omega arith }
start_few axis (v ∷ vs) l few h = few_before (least axis (v ∷ vs)) _ (least-IsWithin axis (v ∷ vs) h) (omega arith)

shift_few : (vs : List (List ℤ)) (l : ℕ) → l ≤ largest_side → All IsVertex vs → All (IsWithin (2 * 10 ^ 9)) (start vs l)
shift_few vs l few h = All-from_recursion (IsWithin (2 * 10 ^ 9)) (start vs l) (start_few 0 vs l few (along_x vs h), (start_few 1 vs l few (along_y vs h), (start_few 2 vs l few (along_z vs h), tt)))

-- ---- the whole soup
pub in_its_box : (raw : Raw) (l e : ℕ) → All IsVertex raw.vertices → All (IsFaceBelow (length raw.vertices)) raw.faces → room raw e ≤ l → l ≤ largest_side → IsInItsBox e l (placed_in l raw)
in_its_box raw l e vertices faces fits few =
    let inside = triangles_inside raw l (e + 2) (omega arith) faces in
    record { in_box = triangles_in_box raw l (e + 2) inside; inside = inside; shift_few = shift_few raw.vertices l few vertices }

pub least_side : (raw : Raw) (e cells : ℕ) → max (room raw e) (4 * cells) ≤ largest_side → IsLeastSide raw e cells (pos (side raw e cells))
least_side raw e cells few =
    let good = good_side (max (room raw e) (4 * cells)) few in
    record {
      is_side = good.is_side;
      has_room = omega (arith, ints, good.enough);
      cells_fit = omega (arith, ints, good.enough);
      least = λ k low has_room cells_fit. let h : side raw e cells ≤ 2 ^ k = good.least k low (omega arith) in omega (arith, ints);
    }

-- what the code knows of the side
pub record IsSideOf (raw : Raw) (e cells l : ℕ) : Type 0 where
  pub is : l ≡ side raw e cells
  pub needed : max (room raw e) (4 * cells) ≤ largest_side
  pub has_room : room raw e ≤ l
  pub most : l ≤ largest_side

pub side_is : (raw : Raw) (e cells wide needed l : ℕ) → IsCells cells → wide ≡ extent raw → needed ≡ max (wide + 2 * e + 4) (4 * cells) → l ≡ power_from 14 4 needed → wide + 2 * e + 4 ≤ largest_side → IsSideOf raw e cells l
side_is raw e cells wide needed l h wide_is needed_is l_is few =
    let most : 2 ^ h.power ≤ 2 ^ 5 = pow-le-pow_right (lit≤ tt) h.power_most in
    let is : l ≡ side raw e cells = l_is ∙ ap (power_from 14 4) (needed_is ∙ ap (λ n. max (n + 2 * e + 4) (4 * cells)) wide_is) in
    let all : max (room raw e) (4 * cells) ≤ largest_side = omega (arith, h.is) in
    let good = good_side (max (room raw e) (4 * cells)) all in
    record { is = is; needed = all; has_room = omega (arith, is, good.enough); most = omega (arith, is, good.most) }

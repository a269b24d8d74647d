-- The least and the greatest coordinate of the vertices along an axis.
use Rattle.std.proofs.Common.{◌≡◌, ℕ, ◌+◌, ◌*◌, ◌<◌, ◌≤◌, zero, suc, List, [], ◌∷◌, length, map, drop, ℤ, pos, ◌-ℤ◌, ◌≤ℤ◌, unsigned_abs, refl, ap, sym, ◌∙◌, subst, add-one, arith, cond, Bool, true, false, slice_index_or, All}
use Rattle.std.proofs.Math.Seq.{drop-cons}
use Rattle.std.proofs.lemmas.Int.{ints, fold-int_min_bounds, fold-int_max_bounds}
use Rattle.std.proofs.lemmas.List.{get_or-map, length-map}
use Rattle.std.proofs.lemmas.List.Elements.{recursion_from_All}
use Rattle.std.specs.List.{fold, AllByRecursion}
use Rattle.std.specs.Int.{int_min, int_max}
use Rattle.std.specs.Prelude.{int_lt}
use Rattle.int_algebra.specs.Within.{IsWithin}
use Rattle.int_algebra.proofs.Bounds.{difference-IsWithin}
use Rattle.soup.specs.Limits.{IsVertex, largest_coordinate}
use Rattle.soup.specs.Placement.{along, least, greatest, spread, IsInside}

-- one more step of a fold over what is left
pub fold_step : (f : ℤ → ℤ → ℤ) (g : List ℤ → ℤ) (xs : List (List ℤ)) (i : ℕ) (z t goal : ℤ) → i < length xs → t ≡ f z (g (slice_index_or xs i [])) → fold f z (map g (drop i xs)) ≡ goal → fold f t (map g (drop (i + 1) xs)) ≡ goal
fold_step f g xs i z t goal lt e h =
    ap (λ s. fold f s (map g (drop (i + 1) xs))) e
    ∙ ap (λ ys. fold f (f z (g (slice_index_or xs i []))) (map g ys)) (ap (λ j. drop j xs) (add-one i))
    ∙ sym (ap (λ ys. fold f z (map g ys)) (drop-cons xs i [] lt))
    ∙ h

pub least_below : (axis : ℕ) (vs : List (List ℤ)) (i : ℕ) (d : List ℤ) → i < length vs → least axis vs ≤ℤ along axis (slice_index_or vs i d)
unfolding least
least_below axis [] i d lt = absurd (omega arith)
least_below axis (v ∷ vs) zero d lt = (fold-int_min_bounds (along axis v) (map (along axis) vs) _ refl).0
least_below axis (v ∷ vs) (suc i) d lt =
    let inside : i < length vs = omega arith in
    subst (λ z. fold int_min (along axis v) (map (along axis) vs) ≤ℤ z) (get_or-map (along axis) vs i d (pos 0) inside)
    ((fold-int_min_bounds (along axis v) (map (along axis) vs) _ refl).1 i (pos 0) (omega (arith, length-map vs (along axis))))

pub greatest_above : (axis : ℕ) (vs : List (List ℤ)) (i : ℕ) (d : List ℤ) → i < length vs → along axis (slice_index_or vs i d) ≤ℤ greatest axis vs
unfolding greatest
greatest_above axis [] i d lt = absurd (omega arith)
greatest_above axis (v ∷ vs) zero d lt = (fold-int_max_bounds (along axis v) (map (along axis) vs) _ refl).0
greatest_above axis (v ∷ vs) (suc i) d lt =
    let inside : i < length vs = omega arith in
    subst (λ z. z ≤ℤ fold int_max (along axis v) (map (along axis) vs)) (get_or-map (along axis) vs i d (pos 0) inside)
    ((fold-int_max_bounds (along axis v) (map (along axis) vs) _ refl).1 i (pos 0) (omega (arith, length-map vs (along axis))))

-- ---- bounds
either : (P : ℤ → Type 0) (b : Bool) (x y : ℤ) → P x → P y → P (cond b x y)
either P true x y h k = h
either P false x y h k = k

-- the coordinates along an axis are within the limit
abbrev pub AreAlong : ℕ → List (List ℤ) → Type 0
AreAlong axis vs = AllByRecursion (λ v. IsWithin largest_coordinate (along axis v)) vs

-- what holds of each number holds of a fold that picks one of two
fold_keeps : (P : ℤ → Type 0) (f : ℤ → ℤ → ℤ) (g : List ℤ → ℤ) → ((x y : ℤ) → P x → P y → P (f x y)) → (a : ℤ) (vs : List (List ℤ)) → P a → AllByRecursion (λ v. P (g v)) vs → P (fold f a (map g vs))
fold_keeps P f g keeps a [] h hs = h
fold_keeps P f g keeps a (v ∷ vs) h hs = fold_keeps P f g keeps (f a (g v)) vs (keeps a (g v) h hs.0) hs.1

least_keeps : (P : ℤ → Type 0) → P (pos 0) → (axis : ℕ) (vs : List (List ℤ)) → AllByRecursion (λ v. P (along axis v)) vs → P (least axis vs)
unfolding least
least_keeps P none axis [] h = none
least_keeps P none axis (v ∷ vs) h = fold_keeps P int_min (along axis) (λ x y a b. either P (int_lt y x) y x b a) (along axis v) vs h.0 h.1

greatest_keeps : (P : ℤ → Type 0) → P (pos 0) → (axis : ℕ) (vs : List (List ℤ)) → AllByRecursion (λ v. P (along axis v)) vs → P (greatest axis vs)
unfolding greatest
greatest_keeps P none axis [] h = none
greatest_keeps P none axis (v ∷ vs) h = fold_keeps P int_max (along axis) (λ x y a b. either P (int_lt y x) x y a b) (along axis v) vs h.0 h.1

pub least-IsWithin : (axis : ℕ) (vs : List (List ℤ)) → AreAlong axis vs → IsWithin largest_coordinate (least axis vs)
least-IsWithin axis vs h = least_keeps (IsWithin largest_coordinate) (record { within = omega arith }) axis vs h

pub greatest-IsWithin : (axis : ℕ) (vs : List (List ℤ)) → AreAlong axis vs → IsWithin largest_coordinate (greatest axis vs)
greatest-IsWithin axis vs h = greatest_keeps (IsWithin largest_coordinate) (record { within = omega arith }) axis vs h

-- a number from 0 to n
pub inside : (n m : ℕ) → m ≤ n → IsInside 0 n (pos m)
inside n m few = record { low = omega (arith, ints); high = omega (arith, ints) }

-- coordinates from 0 to n spread by n at most
pub spread_inside : (n axis : ℕ) (vs : List (List ℤ)) → AllByRecursion (λ v. IsInside 0 n (along axis v)) vs → spread axis vs ≤ n
spread_inside n axis vs h = apart (greatest axis vs) (least axis vs) (greatest_keeps (IsInside 0 n) (inside n 0 (omega arith)) axis vs h) (least_keeps (IsInside 0 n) (inside n 0 (omega arith)) axis vs h)
  where
    apart : (x y : ℤ) → IsInside 0 n x → IsInside 0 n y → unsigned_abs (x -ℤ y) ≤ n
    apart x y h k = omega (arith, ints, h.low, h.high, k.low, k.high)

pub spread_few : (axis : ℕ) (vs : List (List ℤ)) → AreAlong axis vs → spread axis vs ≤ 2 * largest_coordinate
spread_few axis vs h = omega (arith, (difference-IsWithin (greatest-IsWithin axis vs h) (least-IsWithin axis vs h)).within)

-- along each of the three axes
pub along_x : (vs : List (List ℤ)) → All IsVertex vs → AreAlong 0 vs
along_x vs h = recursion_from_All _ vs (λ k d lt. (h k d lt).x_in)

pub along_y : (vs : List (List ℤ)) → All IsVertex vs → AreAlong 1 vs
along_y vs h = recursion_from_All _ vs (λ k d lt. (h k d lt).y_in)

pub along_z : (vs : List (List ℤ)) → All IsVertex vs → AreAlong 2 vs
along_z vs h = recursion_from_All _ vs (λ k d lt. (h k d lt).z_in)

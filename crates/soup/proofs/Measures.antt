-- The measure of a soup.
use Rattle.std.proofs.Common.{◌≡◌, ℕ, max, List, ℤ, ◌-ℤ◌, unsigned_abs, sym, ap, ◌∙◌, subst, arith, All}
use Rattle.int_algebra.specs.Within.{IsWithin}
use Rattle.soup.specs.declared.raw.Raw.{Raw}
use Rattle.soup.specs.declared.range.Range.{Range}
use Rattle.soup.specs.Limits.{IsVertex, largest_coordinate}
use Rattle.soup.specs.Placement.{least, greatest, spread, extent}
use Rattle.soup.specs.Ranges.{IsRangeOf, IsMeasureOf}
use Rattle.soup.proofs.Ranges.{AreAlong, least-IsWithin, spread_few, along_x, along_y, along_z}

pub record HasEnds (axis : ℕ) (vs : List (List ℤ)) (r : Range) : Type 0 where
  pub least_is : r.least ≡ least axis vs
  pub greatest_is : r.greatest ≡ greatest axis vs

range_is : (axis : ℕ) (vs : List (List ℤ)) (r : Range) → AreAlong axis vs → HasEnds axis vs r → IsRangeOf axis vs r
range_is axis vs r h ends = record {
  least_is = ends.least_is;
  greatest_is = ends.greatest_is;
  least_in = subst (IsWithin largest_coordinate) (sym ends.least_is) (least-IsWithin axis vs h);
}

spread_is : (axis : ℕ) (vs : List (List ℤ)) (r : Range) → HasEnds axis vs r → unsigned_abs (r.greatest -ℤ r.least) ≡ spread axis vs
spread_is axis vs r ends = ap (λ z. unsigned_abs (z -ℤ r.least)) ends.greatest_is ∙ ap (λ z. unsigned_abs (greatest axis vs -ℤ z)) ends.least_is

pub measure_is : (raw : Raw) (vs : List (List ℤ)) (x y z : Range) (a b ab c e : ℕ) → vs ≡ raw.vertices → All IsVertex raw.vertices
    → HasEnds 0 vs x → HasEnds 1 vs y → HasEnds 2 vs z
    → a ≡ unsigned_abs (x.greatest -ℤ x.least) → b ≡ unsigned_abs (y.greatest -ℤ y.least) → c ≡ unsigned_abs (z.greatest -ℤ z.least)
    → ab ≡ max a b → e ≡ max ab c → IsMeasureOf raw (record { x = x; y = y; z = z; extent = e })
measure_is raw vs x y z a b ab c e same vertices hx hy hz ha hb hc hab he =
    let kx = subst (λ v. HasEnds 0 v x) same hx in
    let ky = subst (λ v. HasEnds 1 v y) same hy in
    let kz = subst (λ v. HasEnds 2 v z) same hz in
    let sa = ha ∙ spread_is 0 raw.vertices x kx in
    let sb = hb ∙ spread_is 1 raw.vertices y ky in
    let sc = hc ∙ spread_is 2 raw.vertices z kz in
    let extent_is : e ≡ extent raw = he ∙ ap (λ n. max n c) (hab ∙ ap (λ n. max n b) sa ∙ ap (λ n. max (spread 0 raw.vertices) n) sb) ∙ ap (λ n. max (max (spread 0 raw.vertices) (spread 1 raw.vertices)) n) sc in
    record {
      x = range_is 0 raw.vertices x (along_x raw.vertices vertices) kx;
      y = range_is 1 raw.vertices y (along_y raw.vertices vertices) ky;
      z = range_is 2 raw.vertices z (along_z raw.vertices vertices) kz;
      extent_is = extent_is;
      extent_few = omega (arith, spread_few 0 raw.vertices (along_x raw.vertices vertices), spread_few 1 raw.vertices (along_y raw.vertices vertices), spread_few 2 raw.vertices (along_z raw.vertices vertices));
    }

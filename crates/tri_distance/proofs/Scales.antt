-- The vectors from the scaled corners to the point, the normal and the reach, as the code has them.
use Rattle.std.proofs.Common.{◌≡◌, ℕ, ◌*◌, ◌^◌, ◌≤◌, [], ◌∷◌, ℤ, pos, ◌*ℤ◌, ◌<ℤ◌, refl, ◌↔◌, arith, subst, sym, ◌∙◌, Bool, true, lit≤, mul-le-mul, le_trans}
use Rattle.std.proofs.lemmas.Nat.{pow_pos}
use Rattle.int_algebra.specs.Within.{IsWithin}
use Rattle.int_algebra.proofs.Laws.{linear}
use Rattle.int_algebra.proofs.Ring.{◌⊗◌, ring}
use Rattle.int_algebra.proofs.Corners.{Corner, corner, less as less_, cross as cross_}
use Rattle.grid.specs.declared.shapes.Point.{Point}
use Rattle.grid.specs.Vectors.{Vector, cross, minus, scaled, difference}
use Rattle.vectors.specs.Bounded.{gap_of}
use Rattle.grid.specs.Near.{IsNearCorners}
use Rattle.tri_distance.specs.Parts.{NearTriangle, IsNormal}
use Rattle.grid.proofs.ForCallers.{scaled_, at_}
use Rattle.grid.specs.Limits.{most_epsilon}
use Rattle.tri_distance.proofs.Segments.{square-Positive}
use Rattle.tri_distance.proofs.Triangles.{near_triangle, near_corners}
use Rattle.tri_distance.proofs.Limits.{power_at_most}

-- p, a, b and c are the corners 0 to 3, and the scale is the variable 12
abbrev gap_ : ℕ → Corner
gap_ i = less_ (corner 0) (scaled_ (at_ 12) (corner i))

gap_of-normal : (p a b c : Point) (s : ℤ) → cross (minus (gap_of p s b) (gap_of p s a)) (minus (gap_of p s c) (gap_of p s a)) ≡ scaled (s *ℤ s) (cross (difference b a) (difference c a))
unfolding minus gap_of scaled
gap_of-normal p a b c s =
    let all = p.x ∷ p.y ∷ p.z ∷ a.x ∷ a.y ∷ a.z ∷ b.x ∷ b.y ∷ b.z ∷ c.x ∷ c.y ∷ c.z ∷ s ∷ [] in
    let l = cross_ (less_ (gap_ 2) (gap_ 1)) (less_ (gap_ 3) (gap_ 1)) in
    let r = scaled_ (at_ 12 ⊗ at_ 12) (cross_ (less_ (corner 2) (corner 1)) (less_ (corner 3) (corner 1))) in
    λ i. record { x = ring all l.x r.x refl i; y = ring all l.y r.y refl i; z = ring all l.z r.z refl i }

power-Positive : (k : ℕ) → pos 0 <ℤ pos (2 ^ k)
power-Positive k = let h = pow_pos k in omega (arith, linear, h)

pub normal_is : (p a b c : Point) (k : ℕ) (x y z m : Vector) → x ≡ gap_of p (pos (2 ^ k)) a → y ≡ gap_of p (pos (2 ^ k)) b → z ≡ gap_of p (pos (2 ^ k)) c → m ≡ cross (difference b a) (difference c a) → IsNormal x y z m
normal_is p a b c k x y z m e f g h = record {
  factor = pos (2 ^ k) *ℤ pos (2 ^ k);
  positive = square-Positive (pos (2 ^ k)) (power-Positive k);
  same = (λ i. cross (minus (f i) (e i)) (minus (g i) (e i))) ∙ gap_of-normal p a b c (pos (2 ^ k)) ∙ (λ i. scaled (pos (2 ^ k) *ℤ pos (2 ^ k)) (sym h i));
}

pub reach-IsWithin : (k e : ℕ) → k ≤ 6 → e ≤ most_epsilon → IsWithin (2 ^ 36) (pos (e * 2 ^ k * (e * 2 ^ k)))
reach-IsWithin k e le l =
    let far : e * 2 ^ k ≤ most_epsilon * 2 ^ 6 = mul-le-mul l (power_at_most k le) in
    let square : e * 2 ^ k * (e * 2 ^ k) ≤ most_epsilon * 2 ^ 6 * (most_epsilon * 2 ^ 6) = mul-le-mul far far in
    record { within = le_trans square (lit≤ tt) }

pub corners_is : (p : Point) (k e : ℕ) (a b c : Point) (x y z : Vector) (r : ℤ) (l : Bool)
    → x ≡ gap_of p (pos (2 ^ k)) a → y ≡ gap_of p (pos (2 ^ k)) b → z ≡ gap_of p (pos (2 ^ k)) c → r ≡ pos (e * 2 ^ k * (e * 2 ^ k)) → (l ≡ true) ↔ NearTriangle x y z r → (l ≡ true) ↔ IsNearCorners p k e a b c
corners_is p k e a b c x y z r l f g h i t =
    let same : NearTriangle x y z r ≡ NearTriangle (gap_of p (pos (2 ^ k)) a) (gap_of p (pos (2 ^ k)) b) (gap_of p (pos (2 ^ k)) c) (pos (e * 2 ^ k * (e * 2 ^ k))) = λ j. NearTriangle (f j) (g j) (h j) (i j) in
    (λ b'. near_corners p k e a b c (subst (λ (A : Type 0). A) same (t.0 b')), λ n. t.1 (subst (λ (A : Type 0). A) (sym same) (near_triangle p k e a b c n)))

-- Functions of oriented faces that change their sign with the orientation, and their sums.
use Rattle.std.proofs.Common.{◌≡◌, ℕ, List, [], ◌∷◌, Bool, true, false, ap, refl, sym, ◌∙◌, arith, ℤ, pos, ◌*ℤ◌, neg_ℤ}
use Rattle.std.specs.List.{AllByRecursion as Each}
use Rattle.std.proofs.lemmas.Bool.{true≢false}
use Rattle.std.proofs.lemmas.Int.{ints}
use Rattle.grid.specs.declared.shapes.Point.{Point}
use Rattle.grid.specs.Simplices.{all_faces, is_rotation, reversed, count}
use Rattle.grid.specs.Determinants.{point_at}
use Rattle.mesh_types.proofs.Sums.{total, bit, total-same, total-neg, total-swap, total-scaled}
use Rattle.grid.proofs.ForCallers.{Each-weaker, same_bools, reversed-reversed}
use Rattle.mesh_types.proofs.Same.{Turn, still, once, twice, turn_of, rotation_from, turn_back}
use Rattle.mesh_types.proofs.Counts.{count-number}
use Rattle.mesh_types.proofs.Cones.{cone, cone-turned, det-reversed}
use Rattle.int_algebra.proofs.Laws.{linear, one-mul_ℤ}

pub record IsOdd (h : List ℕ → ℤ) : Type 0 where
  pub turned : (a b c : ℕ) → h (b ∷ c ∷ a ∷ []) ≡ h (a ∷ b ∷ c ∷ [])
  pub reversed : (a b c : ℕ) → h (a ∷ c ∷ b ∷ []) ≡ neg_ℤ (h (a ∷ b ∷ c ∷ []))

pub cone-IsOdd : (points : List Point) (k : ℕ) → IsOdd (cone points k)
cone-IsOdd points k = record {
  turned = (cone-turned points k).turned;
  reversed = λ a b c. det-reversed (point_at points k) (point_at points a) (point_at points b) (point_at points c);
}

-- ---- faces that pair
odd-back : (h : List ℕ → ℤ) → IsOdd h → (f : List ℕ) (a b c : ℕ) → reversed f ≡ a ∷ b ∷ c ∷ [] → h f ≡ neg_ℤ (h (a ∷ b ∷ c ∷ []))
odd-back h o f a b c e = ap h (sym (reversed-reversed f) ∙ ap reversed e) ∙ o.reversed a b c

odd-turn : (h : List ℕ → ℤ) → IsOdd h → (f g : List ℕ) → Turn (reversed f) g → h f ≡ neg_ℤ (h g)
odd-turn h o f g (still a b c e t) = odd-back h o f a b c e ∙ ap (λ y. neg_ℤ (h y)) (sym t)
odd-turn h o f g (once a b c e t) = odd-back h o f a b c e ∙ ap neg_ℤ (o.turned c a b ∙ ap h (sym t))
odd-turn h o f g (twice a b c e t) = odd-back h o f a b c e ∙ ap neg_ℤ (sym (o.turned a b c) ∙ ap h (sym t))

abbrev match_of : (List ℕ → ℤ) → List ℕ → List ℕ → ℤ
match_of h f g = bit (is_rotation (reversed f) g) *ℤ h f

match-reversed : (h : List ℕ → ℤ) → IsOdd h → (f g : List ℕ) → match_of h f g ≡ neg_ℤ (match_of h g f)
match-reversed h o f g =
    by (is_rotation (reversed f) g) (is_rotation (reversed g) f) (h f) (h g)
    (same_bools _ _ (λ e. rotation_from (reversed g) f (turn_back f g (turn_of (reversed f) g e))) (λ e. rotation_from (reversed f) g (turn_back g f (turn_of (reversed g) f e))))
    (λ e. odd-turn h o f g (turn_of (reversed f) g e))
  where
    by : (p q : Bool) (x y : ℤ) → p ≡ q → (p ≡ true → x ≡ neg_ℤ y) → (bit p *ℤ x) ≡ neg_ℤ (bit q *ℤ y)
    by true true x y e h = let g = h refl in omega (arith, linear, one-mul_ℤ x, one-mul_ℤ y)
    by false false x y e h = omega (arith, ints)
    by true false x y e h = absurd (true≢false e)
    by false true x y e h = absurd (true≢false (sym e))

-- where each face that counts has its reverse once, the sum is 0: it changes its sign when a face and its reverse change places
pub odd-paired : (h : List ℕ → ℤ) → IsOdd h → (ts : List (List ℕ)) → Each (λ f. h f ≡ pos (count (reversed f) ts) *ℤ h f) (all_faces ts) → total h (all_faces ts) ≡ pos 0
odd-paired h o ts paired =
    let fs = all_faces ts in
    let m = match_of h in
    let one = total-same h (λ f. total (m f) fs) fs (Each-weaker (λ f. h f ≡ pos (count (reversed f) ts) *ℤ h f) (λ f. h f ≡ total (m f) fs)
    (λ f e. e ∙ ap (λ t. t *ℤ h f) (count-number (reversed f) ts) ∙ sym (total-scaled (λ g. bit (is_rotation (reversed f) g)) (h f) fs)) fs paired) in
    let two = total-swap m fs fs in
    let three = total-same (λ g. total (λ f. m f g) fs) (λ g. neg_ℤ (total (m g) fs)) fs (each fs fs) in
    let four = total-neg (λ g. total (m g) fs) fs in
    omega (arith, linear, one, two, three, four)
  where
    turn : (g : List ℕ) (fs : List (List ℕ)) → Each (λ f. match_of h f g ≡ neg_ℤ (match_of h g f)) fs
    turn g [] = tt
    turn g (f ∷ fs) = (match-reversed h o f g, turn g fs)

    each : (fs gs : List (List ℕ)) → Each (λ g. total (λ f. match_of h f g) fs ≡ neg_ℤ (total (match_of h g) fs)) gs
    each fs [] = tt
    each fs (g ∷ gs) = (total-same (λ f. match_of h f g) (λ f. neg_ℤ (match_of h g f)) fs (turn g fs) ∙ total-neg (match_of h g) fs, each fs gs)

-- A split keeps the volume, since the faces at its edge pair.
use Rattle.std.proofs.Common.{◌≡◌, ℕ, List, [], ◌∷◌, Bool, true, false, ◌&&◌, cond, ap, ap₂, refl, ◌∙◌, arith, inl, inr, ℤ, pos, ◌+ℤ◌, ◌*ℤ◌, neg_ℤ}
use Rattle.std.specs.List.{flat_map, AllByRecursion as Each}
use Rattle.std.proofs.lemmas.Bool.{cases_Bool, and_parts}
use Rattle.grid.specs.declared.shapes.Point.{Point}
use Rattle.grid.specs.Simplices.{has, replaced, sub, all_faces, reversed, count}
use Rattle.grid.specs.Determinants.{volume}
use Rattle.mesh_types.proofs.Sums.{total, total-flat_map, total-same, total-plus, total-none}
use Rattle.grid.proofs.ForCallers.{Each-weaker, has_first, has-replaced_new}
use Rattle.mesh_types.proofs.Pieces.{sub-touched, sub-untouched}
use Rattle.mesh_types.proofs.Opened.{excess}
use Rattle.mesh_types.proofs.Same.{rotations, rotation_once, has-reversed}
use Rattle.mesh_types.proofs.Between.{Change, opened, untouched}
use Rattle.mesh_types.proofs.Counts.{IsReady, total-split, change_at}
use Rattle.mesh_types.proofs.Cones.{cone, cone-turned, cone-has, volume-cones}
use Rattle.mesh_types.proofs.Odd.{IsOdd, cone-IsOdd, odd-paired}
use Rattle.int_algebra.proofs.Laws.{linear}

-- the cone over a face that has both ends of the edge
abbrev pub open_cone : List Point → ℕ → ℕ → ℕ → List ℕ → ℤ
open_cone points u v k f = cond (has f u && has f v) (cone points k f) (pos 0)

-- what a split takes from the cones
open_cone-is : (points : List Point) (u v k : ℕ) (f : List ℕ) → cone points k f ≡ total (cone points k) (sub u v k f) +ℤ open_cone points u v k f
open_cone-is points u v k f = elim (cases_Bool (has f u && has f v)) [
  | inl h ↦ rw (sub-touched u v k f h, h, cone-has points k (replaced u k f) (has-replaced_new u k f (and_parts (has f u) (has f v) h).0), cone-has points k (replaced v k f) (has-replaced_new v k f (and_parts (has f u) (has f v) h).1)) (omega (arith, linear))
  | inr h ↦ rw (sub-untouched u v k f h, h) (omega (arith, linear))
]

excess-cone : (points : List Point) (u v k : ℕ) (x : List ℕ) → Change u v k x → excess (cone points k) u v k x ≡ pos 0
excess-cone points u v k x (untouched h e) = e (cone points k)
excess-cone points u v k x (opened s) = s.excess_is (cone points k) (cone-turned points k)
    ∙ ap₂ ◌+ℤ◌ (cone-has points k (k ∷ s.w ∷ s.z ∷ []) (has_first k (s.w ∷ s.z ∷ []))) (cone-has points k (k ∷ s.z ∷ s.w ∷ []) (has_first k (s.z ∷ s.w ∷ [])))

-- the change of the volume is the sum of the open cones
pub volume-split : (points : List Point) (u v k : ℕ) (ts : List (List ℕ)) → IsReady u v k ts → volume points ts ≡ volume points (flat_map (sub u v k) ts) +ℤ total (open_cone points u v k) (all_faces ts)
volume-split points u v k ts i =
    let f = cone points k in
    let none = total-same (excess f u v k) (λ x. pos 0) ts (Each-weaker (Change u v k) (λ x. excess f u v k x ≡ pos 0) (excess-cone points u v k) ts (change_at u v k ts i)) ∙ total-none ts in
    let parts = total-same f (λ g. total f (sub u v k g) +ℤ open_cone points u v k g) (all_faces ts) (each (all_faces ts)) ∙ total-plus (λ g. total f (sub u v k g)) (open_cone points u v k) (all_faces ts) in
    let pieces = total-flat_map f (sub u v k) (all_faces ts) in
    omega (arith, linear, volume-cones points k ts, volume-cones points k (flat_map (sub u v k) ts), total-split f u v k ts, none, parts, pieces)
  where
    each : (fs : List (List ℕ)) → Each (λ g. cone points k g ≡ total (cone points k) (sub u v k g) +ℤ open_cone points u v k g) fs
    each [] = tt
    each (g ∷ fs) = (open_cone-is points u v k g, each fs)

-- ---- the pairing
open_cone-IsOdd : (points : List Point) (u v k : ℕ) → IsOdd (open_cone points u v k)
open_cone-IsOdd points u v k = record {
  turned = λ a b c. ap₂ (λ p q. cond (p && q) (cone points k (b ∷ c ∷ a ∷ [])) (pos 0)) (turn a b c u) (turn a b c v)
      ∙ ap (λ y. cond (has (a ∷ b ∷ c ∷ []) u && has (a ∷ b ∷ c ∷ []) v) y (pos 0)) ((cone-IsOdd points k).turned a b c);
  reversed = λ a b c. ap₂ (λ p q. cond (p && q) (cone points k (a ∷ c ∷ b ∷ [])) (pos 0)) (has-reversed (a ∷ b ∷ c ∷ []) u) (has-reversed (a ∷ b ∷ c ∷ []) v)
      ∙ push (has (a ∷ b ∷ c ∷ []) u && has (a ∷ b ∷ c ∷ []) v) (cone points k (a ∷ c ∷ b ∷ [])) (cone points k (a ∷ b ∷ c ∷ [])) ((cone-IsOdd points k).reversed a b c);
}
  where
    turn : (a b c o : ℕ) → has (b ∷ c ∷ a ∷ []) o ≡ has (a ∷ b ∷ c ∷ []) o
    turn a b c o = rotations.keeps o (b ∷ c ∷ a ∷ []) (a ∷ b ∷ c ∷ []) (rotation_once b c a)

    push : (b : Bool) (x y : ℤ) → x ≡ neg_ℤ y → cond b x (pos 0) ≡ neg_ℤ (cond b y (pos 0))
    push true x y e = e
    push false x y e = refl

-- where each open cone has its reverse, they cancel
pub open_cones-none : (points : List Point) (u v k : ℕ) (ts : List (List ℕ)) → Each (λ f. open_cone points u v k f ≡ pos (count (reversed f) ts) *ℤ open_cone points u v k f) (all_faces ts) → total (open_cone points u v k) (all_faces ts) ≡ pos 0
open_cones-none points u v k ts h = odd-paired (open_cone points u v k) (open_cone-IsOdd points u v k) ts h

-- Phases one after another.
use Rattle.std.proofs.Common.{◌≡◌, ℕ, zero, suc, ◌≤◌, ℤ, None, unwrap_or, List, [], ◌∷◌, ◌++◌, length, take, drop, refl, sym, ap, ◌∙◌, arith}
use Rattle.std.proofs.lemmas.List.{take-append-le}
use Rattle.mesh_store.specs.Changes.{IsGrown, IsSameTransaction}
use Rattle.mesh_store.specs.Parts.{Parts, StoreView, rolled_back}
use Rattle.insertion.specs.Progress.{closed, IsOpenFrom}

-- ---- growing
whole : {X : Type 0} (xs : List X) (n : ℕ) → take n xs ++ drop n xs ≡ xs
whole [] zero = refl
whole [] (suc n) = refl
whole (x ∷ xs) zero = refl
whole (x ∷ xs) (suc n) = ap (λ ys. x ∷ ys) (whole xs n)

take-few : {X : Type 0} (xs : List X) (n : ℕ) → length (take n xs) ≤ length xs
take-few [] zero = omega arith
take-few [] (suc n) = omega arith
take-few (x ∷ xs) zero = omega arith
take-few (x ∷ xs) (suc n) = let h = take-few xs n in omega arith

front-trans : {X : Type 0} (a b c : List X) → take (length a) b ≡ a → take (length b) c ≡ b → take (length a) c ≡ a
front-trans a b c h k =
    let few : length a ≤ length b = omega (arith, take-few b (length a), ap length h) in
    ap (take (length a)) (sym (whole c (length b)) ∙ ap (λ ys. ys ++ drop (length b) c) k)
    ∙ (rw take-append-le h)

grown-trans : (a b c : Parts) → IsGrown a b → IsGrown b c → IsGrown a c
grown-trans a b c h k = record {
  points = front-trans a.points b.points c.points h.points k.points;
  longer = omega (arith, h.longer, k.longer);
  tets = λ i lt. k.tets i (omega (arith, lt, h.longer)) ∙ h.tets i lt;
  killed = λ i lt dead. k.killed i (omega (arith, lt, h.longer)) (h.killed i lt dead);
}

pub open-more : (start : Parts) (side : ℤ) (v w : StoreView) → IsOpenFrom start side v → IsSameTransaction v w → IsGrown v.parts w.parts → IsOpenFrom start side w
open-more start side v w h s g = record {
  begin = s.begin ∙ h.begin;
  side_is = s.side ∙ h.side_is;
  grown = grown-trans start v.parts w.parts h.grown g;
}

pub rolled_back-open : (start : Parts) (side : ℤ) (v : StoreView) → IsOpenFrom start side v → rolled_back v ≡ closed start side
rolled_back-open start side v h = λ j. record { parts = unwrap_or (h.begin j) v.parts; at_begin = None; side = h.side_is j }

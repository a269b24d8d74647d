-- Splitting in turn when the corners stand in other places.
use Rattle.std.proofs.Common.{◌≡◌, ℕ, zero, suc, ◌<◌, Bool, true, false, cond, ◌&&◌, List, [], ◌∷◌, map, length, get_or, refl, sym, ap, ap₂, subst, ◌∙◌, arith, inl, inr}
use Rattle.std.specs.List.{flat_map, AllByRecursion as Each}
use Rattle.std.proofs.lemmas.Bool.{or_cases, or_left, or_right, eqb-true, eq-eqb, true≢false}
use Rattle.grid.specs.Simplices.{has, put, replaced, sub}
use Rattle.cut_tables.specs.Cutting.{RankEdge, split_in_turn}
use Rattle.grid.proofs.ForCallers.{same_bools, has-get_or}
use Rattle.table_pieces.specs.Labels.{arranged}
use Rattle.table_pieces.proofs.Renaming.{through_each, either_way}

-- each of n places, and no other
pub record IsArrangement (n : ℕ) (places : List ℕ) : Type 0 where
  pub in_range : Each (λ p. p < n) places
  pub all_there : (i : ℕ) → i < n → has places i ≡ true

place_of : (x : List ℕ) (c : ℕ) → has x c ≡ true → (p : ℕ) × (p < length x) × (get_or x p 0 ≡ c)
place_of [] c h = absurd (true≢false (sym h))
place_of (a ∷ x) c h = elim (or_cases _ _ h) [
  | inl e ↦ (0, omega arith, eqb-true a c e)
  | inr e ↦
      let p = place_of x c e in
      (suc p.0, omega (arith, p.1), p.2)
]

has-map : (f : ℕ → ℕ) (xs : List ℕ) (i : ℕ) → has xs i ≡ true → has (map f xs) (f i) ≡ true
has-map f [] i h = absurd (true≢false (sym h))
has-map f (a ∷ xs) i h = elim (or_cases _ _ h) [
  | inl e ↦ or_left _ _ (eq-eqb (f a) (f i) (ap f (eqb-true a i e)))
  | inr e ↦ or_right _ _ (has-map f xs i e)
]

has-arranged-only : (x : List ℕ) (c : ℕ) (places : List ℕ) → Each (λ p. p < length x) places → has (arranged places x) c ≡ true → has x c ≡ true
has-arranged-only x c [] r h = absurd (true≢false (sym h))
has-arranged-only x c (p ∷ places) r h = elim (or_cases _ _ h) [
  | inl e ↦ subst (λ a. has x a ≡ true) (eqb-true _ c e) (has-get_or x p r.0)
  | inr e ↦ has-arranged-only x c places r.1 e
]

pub has-arranged : (places x : List ℕ) (c : ℕ) → IsArrangement (length x) places → has (arranged places x) c ≡ has x c
has-arranged places x c a = same_bools _ _ (has-arranged-only x c places a.in_range)
    (λ h.
    let p = place_of x c h in
    subst (λ d. has (arranged places x) d ≡ true) p.2 (has-map (λ q. get_or x q 0) places p.0 (a.all_there p.0 p.1)))

-- ---- pieces
pub get-map : (f : ℕ → ℕ) (x : List ℕ) (p : ℕ) → p < length x → get_or (map f x) p 0 ≡ f (get_or x p 0)
get-map f [] p lt = absurd (omega arith)
get-map f (a ∷ x) zero lt = refl
get-map f (a ∷ x) (suc p) lt = get-map f x p (omega arith)

replaced-arranged : (u k : ℕ) (x places : List ℕ) → Each (λ p. p < length x) places → replaced u k (arranged places x) ≡ arranged places (replaced u k x)
replaced-arranged u k x [] r = refl
replaced-arranged u k x (p ∷ places) r = ap₂ (λ a (y : List ℕ). a ∷ y) (sym (get-map (put u k) x p r.0)) (replaced-arranged u k x places r.1)

sub-arranged : (u v k : ℕ) (x places : List ℕ) → IsArrangement (length x) places → sub u v k (arranged places x) ≡ map (arranged places) (sub u v k x)
sub-arranged u v k x places a =
    (λ i. cond (has-arranged places x u a i && has-arranged places x v a i) (replaced-arranged u k x places a.in_range i ∷ replaced-arranged v k x places a.in_range i ∷ []) (arranged places x ∷ []))
    ∙ either_way (arranged places) (has x u && has x v) (replaced u k x) (replaced v k x) x

length-replaced : (u k : ℕ) (x : List ℕ) → length (replaced u k x) ≡ length x
length-replaced u k [] = refl
length-replaced u k (a ∷ x) = ap suc (length-replaced u k x)

sub-lengths : (n u v k : ℕ) (x : List ℕ) → length x ≡ n → Each (λ y. length y ≡ n) (sub u v k x)
sub-lengths n u v k x h = by_test (has x u && has x v)
  where
    by_test : (b : Bool) → Each (λ y. length y ≡ n) (cond b (replaced u k x ∷ replaced v k x ∷ []) (x ∷ []))
    by_test true = (length-replaced u k x ∙ h, (length-replaced v k x ∙ h, tt))
    by_test false = (h, tt)

-- the pieces in other places
pub split-arranged : (n : ℕ) (places : List ℕ) → IsArrangement n places → (es : List RankEdge) (x : List ℕ) → length x ≡ n → split_in_turn es (arranged places x) ≡ map (arranged places) (split_in_turn es x)
split-arranged n places a [] x h = refl
split-arranged n places a (e ∷ es) x h =
    ap (flat_map (split_in_turn es)) (sub-arranged e.first e.second e.label x places (subst (λ m. IsArrangement m places) (sym h) a))
    ∙ through_each (λ y. length y ≡ n) (arranged places) (split_in_turn es) (split_in_turn es) (split-arranged n places a es) (sub e.first e.second e.label x) (sub-lengths n e.first e.second e.label x h)

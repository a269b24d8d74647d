-- Naming the first fault.
use Rattle.std.proofs.Common.{◌≡◌, ℕ, zero, suc, ◌<◌, true, List, [], ◌∷◌, ◌++◌, length, map, get_or, nat_eq, All, refl, sym, ap, subst, inl, inr, arith}
use Rattle.std.specs.List.{AllByRecursion as Each}
use Rattle.std.proofs.lemmas.Bool.{or_cases, true≢false}
use Rattle.std.proofs.lemmas.Bool.Decides.{nat_tests}
use Rattle.std.proofs.lemmas.Grind.{get_or_default_zero}
use Rattle.std.proofs.lemmas.List.Elements.{All-from_recursion, recursion_from_All}
use Rattle.grid.specs.declared.shapes.Point.{Point}
use Rattle.grid.specs.Simplices.{has}
use Rattle.mesh_types.specs.Insertion.{NamesFirst}
use Rattle.mesh_types.specs.Phases.{points_of}

-- ---- the first of a list
module _ {X : Type 0} (f : X → List ℕ) (P : List ℕ → Type 0) where
  pub names-at : (points : List Point) (xs : List X) (i : ℕ) (d : X) (named : List Point) → i < length xs → ((k : ℕ) → k < i → ¬ P (f (get_or xs k d))) → P (f (get_or xs i d)) → named ≡ points_of points (f (get_or xs i d)) → NamesFirst points P (map f xs) named
  names-at points [] i d named lt earlier fault is = absurd (omega arith)
  names-at points (x ∷ xs) zero d named lt earlier fault is = record {
    before = [];
    simplex = f x;
    after = map f xs;
    list = refl;
    earlier = All-from_recursion (λ y. ¬ P y) [] tt;
    fault = fault;
    corners = is;
  }
  names-at points (x ∷ xs) (suc i) d named lt earlier fault is =
      let r = names-at points xs i d named (omega arith) (λ k below. earlier (suc k) (omega arith)) fault is in
      record {
        before = f x ∷ r.before;
        simplex = r.simplex;
        after = r.after;
        list = ap (λ ys. f x ∷ ys) r.list;
        earlier = All-from_recursion (λ y. ¬ P y) (f x ∷ r.before) (earlier 0 (omega arith), recursion_from_All (λ y. ¬ P y) r.before r.earlier);
        fault = r.fault;
        corners = r.corners;
      }

  each-at : (xs : List X) (d : X) → ((k : ℕ) → k < length xs → P (f (get_or xs k d))) → Each P (map f xs)
  each-at [] d h = tt
  each-at (x ∷ xs) d h = (h 0 (omega arith), each-at xs d (λ k lt. h (suc k) (omega arith)))

  pub all-at : (xs : List X) (d : X) → ((k : ℕ) → k < length xs → P (f (get_or xs k d))) → All P (map f xs)
  all-at xs d h = All-from_recursion P (map f xs) (each-at xs d h)

-- another fault that comes at the same places
pub names-other : (points : List Point) (P Q : List ℕ → Type 0) (xs : List (List ℕ)) (named : List Point) → All (λ x. (P x → Q x) × (Q x → P x)) xs → NamesFirst points P xs named → NamesFirst points Q xs named
names-other points P Q xs named same h =
    let both : Each (λ x. (P x → Q x) × (Q x → P x)) (h.before ++ h.simplex ∷ h.after) = subst (Each (λ x. (P x → Q x) × (Q x → P x))) h.list (recursion_from_All (λ x. (P x → Q x) × (Q x → P x)) xs same) in
    record {
      before = h.before;
      simplex = h.simplex;
      after = h.after;
      list = h.list;
      earlier = All-from_recursion (λ x. ¬ Q x) h.before (parts h.before (h.simplex ∷ h.after) both (recursion_from_All (λ x. ¬ P x) h.before h.earlier));
      fault = (last h.before h.simplex h.after both).0 h.fault;
      corners = h.corners;
    }
  where
    parts : (xs bs : List (List ℕ)) → Each (λ x. (P x → Q x) × (Q x → P x)) (xs ++ bs) → Each (λ x. ¬ P x) xs → Each (λ x. ¬ Q x) xs
    parts [] bs b n = tt
    parts (a ∷ xs) bs b n = ((λ q. n.0 (b.0.1 q)), parts xs bs b.1 n.1)

    last : (xs : List (List ℕ)) (x : List ℕ) (bs : List (List ℕ)) → Each (λ x. (P x → Q x) × (Q x → P x)) (xs ++ x ∷ bs) → (P x → Q x) × (Q x → P x)
    last [] x bs b = b.0
    last (a ∷ xs) x bs b = last xs x bs b.1

each-has : (P : ℕ → Type 0) (x : List ℕ) (c : ℕ) → Each P x → has x c ≡ true → P c
each-has P [] c h e = absurd (true≢false (sym e))
each-has P (a ∷ x) c h e = elim (or_cases (nat_eq a c) (has x c) e) [
  | inl f ↦ let g : a ≡ c = grind (arith, nat_tests) in subst P g h.0
  | inr f ↦ each-has P x c h.1 f
]

pub all-has : (P : ℕ → Type 0) (x : List ℕ) (c : ℕ) → All P x → has x c ≡ true → P c
all-has P x c h e = each-has P x c (recursion_from_All P x h) e

pub all-index : (P : ℕ → Type 0) (x : List ℕ) → ((k : ℕ) → k < length x → P (get_or x k 0)) → All P x
all-index P x h k d lt = subst P (sym (get_or_default_zero x k d lt)) (h k lt)

-- none of the list has the fault
pub none-names : (points : List Point) (P : List ℕ → Type 0) (xs : List (List ℕ)) (named : List Point) → All (λ x. ¬ P x) xs → ¬ NamesFirst points P xs named
none-names points P xs named no_fault h = at h.before h.simplex h.after (subst (Each (λ x. ¬ P x)) h.list (recursion_from_All (λ x. ¬ P x) xs no_fault)) h.fault
  where
    at : (before : List (List ℕ)) (x : List ℕ) (after : List (List ℕ)) → Each (λ x. ¬ P x) (before ++ x ∷ after) → P x → ⊥
    at [] x after h f = h.0 f
    at (a ∷ before) x after h f = at before x after h.1 f

-- How the places at the corners change.
use Rattle.std.proofs.Common.{◌≡◌, ℕ, ◌+◌, ◌-◌, ◌<◌, Bool, true, false, cond, ◌||◌, nat_eq, List, Option, Some, length, take, get_or, refl, sym, subst, ◌∙◌, ap, inl, inr}
use Rattle.std.proofs.lemmas.Bool.{cases_Bool, eqb-true, false≢true}
use Rattle.std.proofs.lemmas.List.{take_more}
use Rattle.smallvec.specs.SmallVec.{SmallVec}
use Rattle.indexmap.specs.IndexMap.{IndexMap, get}
use Rattle.grid.specs.Simplices.{has, AreDifferent}
use Rattle.grid.proofs.ForCallers.{has-push, take-push, none-before}
use Rattle.tracked.specs.Places.{IsChanged, IsChangedAt, IsSame, places_at, numbers_in, and_last, but_last}

-- ---- one point
module _ {S : Type 0} (point : ℕ) (old new : IndexMap ℕ (SmallVec ℕ) S) where
  written-at : (o : Option (SmallVec ℕ)) → ((q : ℕ) → get nat_eq new q ≡ cond (nat_eq point q) o (get nat_eq old q)) → (u : ℕ) → places_at new u ≡ cond (nat_eq point u) (numbers_in o) (places_at old u)
  written-at o h u = ap numbers_in (h u) ∙ by_case (nat_eq point u)
    where
      by_case : (t : Bool) → numbers_in (cond t o (get nat_eq old u)) ≡ cond t (numbers_in o) (places_at old u)
      by_case true = refl
      by_case false = refl

  -- where the list of the point was written
  pub IsChangedAt-written : (f : List ℕ → List ℕ) (w : SmallVec ℕ) → w.items ≡ f (places_at old point) → ((q : ℕ) → get nat_eq new q ≡ cond (nat_eq point q) (Some w) (get nat_eq old q)) → IsChangedAt f point old new
  IsChangedAt-written f w made h = record {
    each = λ u. elim (cases_Bool (nat_eq point u)) [
      | inl e ↦
          written-at (Some w) h u
          ∙ (ap (λ (t : Bool). cond t w.items (places_at old u)) e
          ∙ (made
          ∙ (ap (λ (u : ℕ). f (places_at old u)) (eqb-true point u e) ∙ ap (λ (t : Bool). cond t (f (places_at old u)) (places_at old u)) (sym e))))
      | inr e ↦
          written-at (Some w) h u
          ∙ (ap (λ (t : Bool). cond t w.items (places_at old u)) e ∙ ap (λ (t : Bool). cond t (f (places_at old u)) (places_at old u)) (sym e))
    ];
  }

  pub IsSame-written : (o : Option (SmallVec ℕ)) → numbers_in o ≡ places_at old point → ((q : ℕ) → get nat_eq new q ≡ cond (nat_eq point q) o (get nat_eq old q)) → IsSame old new
  IsSame-written o made h = record {
    each = λ u. elim (cases_Bool (nat_eq point u)) [
      | inl e ↦ written-at o h u ∙ (ap (λ (t : Bool). cond t (numbers_in o) (places_at old u)) e ∙ (made ∙ ap (places_at old) (eqb-true point u e)))
      | inr e ↦ written-at o h u ∙ ap (λ (t : Bool). cond t (numbers_in o) (places_at old u)) e
    ];
  }

-- where a list was made
pub IsChangedAt-inserted : {S : Type 0} (point : ℕ) (old mid new : IndexMap ℕ (SmallVec ℕ) S) (f : List ℕ → List ℕ) (w : SmallVec ℕ) → w.items ≡ f (places_at old point) → mid ≡ old → ((q : ℕ) → get nat_eq new q ≡ cond (nat_eq point q) (Some w) (get nat_eq mid q)) → IsChangedAt f point old new
IsChangedAt-inserted {S} point old mid new f w made same h =
    IsChangedAt-written point old new f w made (subst (λ (m : IndexMap ℕ (SmallVec ℕ) S). (q : ℕ) → get nat_eq new q ≡ cond (nat_eq point q) (Some w) (get nat_eq m q)) same h)

-- ---- all corners
module _ {S : Type 0} (old mid new : IndexMap ℕ (SmallVec ℕ) S) where
  -- one corner more
  pub IsChanged-more : (f : List ℕ → List ℕ) (cs : List ℕ) (i : ℕ) → i < length cs → AreDifferent cs → IsChanged f (take i cs) old mid → IsChangedAt f (get_or cs i 0) mid new → IsChanged f (take (i + 1) cs) old new
  IsChanged-more f cs i within different h k =
      let c : ℕ = get_or cs i 0 in
      let more = λ (u : ℕ). ap (λ xs. has xs u) (take_more cs i 0 within) ∙ has-push (take i cs) c u in
      let none : has (take i cs) c ≡ false = none-before cs i within different in
      record { each = λ u. at u (has (take i cs) u) (nat_eq c u) (has (take (i + 1) cs) u) (more u) (λ e. ap (has (take i cs)) (sym (eqb-true c u e)) ∙ none) (h.each u) (k.each u) }
    where
      at : (u : ℕ) (before here now : Bool) → now ≡ (before || here) → (here ≡ true → before ≡ false) → places_at mid u ≡ cond before (f (places_at old u)) (places_at old u) → places_at new u ≡ cond here (f (places_at mid u)) (places_at mid u)
          → places_at new u ≡ cond now (f (places_at old u)) (places_at old u)
      at u true true now e apart p q = absurd (false≢true (sym (apart refl)))
      at u true false now e apart p q = rw e (q ∙ p)
      at u false true now e apart p q = rw e (q ∙ ap f p)
      at u false false now e apart p q = rw e (q ∙ p)

  -- what was put last and taken out again
  pub IsSame-undone : (i : ℕ) (cs : List ℕ) → IsChanged (and_last i) cs old mid → IsChanged but_last cs mid new → IsSame old new
  IsSame-undone i cs h k = record { each = λ u. undone (has cs u) (places_at old u) (places_at mid u) (places_at new u) (h.each u) (k.each u) }
    where
      undone : (b : Bool) (xs ys zs : List ℕ) → ys ≡ cond b (and_last i xs) xs → zs ≡ cond b (but_last ys) ys → zs ≡ xs
      undone true xs ys zs p q = q ∙ (ap but_last p ∙ take-push xs i)
      undone false xs ys zs p q = q ∙ p

-- what was put last and taken out again, after a step that kept all places
pub IsSame-failed : {S : Type 0} (i : ℕ) (cs : List ℕ) (old mid late new : IndexMap ℕ (SmallVec ℕ) S) → IsChanged (and_last i) cs old mid → IsSame mid late → IsChanged but_last cs late new → IsSame old new
IsSame-failed i cs old mid late new h same k = IsSame-undone old late new i cs (record { each = λ u. same.each u ∙ h.each u }) k

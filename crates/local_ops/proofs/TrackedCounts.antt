-- Counts of the tracked triples, in the order made and in rising order.
use Rattle.std.proofs.Common.{◌≡◌, ℕ, Bool, false, ◌||◌, ◌&&◌, ◌↔◌, List, [], ◌∷◌, refl, sym, ◌∙◌, ap, inl, inr, arith}
use Rattle.std.specs.List.{IsDistinct, AllByRecursion as Each}
use Rattle.std.specs.Map.{keys_of}
use Rattle.std.specs.Prelude.{count_by}
use Rattle.std.proofs.lemmas.Bool.{cases_Bool, or_parts, true≢false}
use Rattle.grid.proofs.ForCallers.{count_by-cons_yes, count_by-cons_no}
use Rattle.grid.specs.Meshes.{is_below}
use Rattle.grid.specs.Rims.{IsRim, triples_at}
use Rattle.grid.specs.Simplices.{has, same_triple}
use Rattle.grid.specs.Views.{triples_of}
use Rattle.mesh_types.specs.Tracking.{place, in_order_once}
use Rattle.mesh_types.proofs.ForCallers.{below_or, is_among, differ_from, is_among-in_order_once}
use Rattle.tracked.specs.Keys.{Keys, same_face, faces_in}
use Rattle.tracked.proofs.ForCallers.{in-distinct}
use Rattle.mesh_store.specs.Parts.{tracked_in}

module _ (p : List ℕ → Bool) where
  more : (x : List ℕ) (xs ys : List (List ℕ)) → count_by p xs ≡ count_by p ys → count_by p (x ∷ xs) ≡ count_by p (x ∷ ys)
  more x xs ys h = elim (cases_Bool (p x)) [
    | inl e ↦ let n = count_by-cons_yes p x xs e in let m = count_by-cons_yes p x ys e in omega (arith, n, m, h)
    | inr e ↦ let n = count_by-cons_no p x xs e in let m = count_by-cons_no p x ys e in omega (arith, n, m, h)
  ]

  swapped : (x y : List ℕ) (xs : List (List ℕ)) → count_by p (y ∷ x ∷ xs) ≡ count_by p (x ∷ y ∷ xs)
  swapped x y xs = elim (cases_Bool (p x)) [
    | inl e ↦ let a = count_by-cons_yes p x xs e in let b = count_by-cons_yes p x (y ∷ xs) e in elim (cases_Bool (p y)) [
      | inl f ↦ let c = count_by-cons_yes p y (x ∷ xs) f in let d = count_by-cons_yes p y xs f in omega (arith, a, b, c, d)
      | inr f ↦ let c = count_by-cons_no p y (x ∷ xs) f in let d = count_by-cons_no p y xs f in omega (arith, a, b, c, d)
    ]
    | inr e ↦ let a = count_by-cons_no p x xs e in let b = count_by-cons_no p x (y ∷ xs) e in elim (cases_Bool (p y)) [
      | inl f ↦ let c = count_by-cons_yes p y (x ∷ xs) f in let d = count_by-cons_yes p y xs f in omega (arith, a, b, c, d)
      | inr f ↦ let c = count_by-cons_no p y (x ∷ xs) f in let d = count_by-cons_no p y xs f in omega (arith, a, b, c, d)
    ]
  ]

  count-place : (x : List ℕ) (ys : List (List ℕ)) → is_among x ys ≡ false → count_by p (place x ys) ≡ count_by p (x ∷ ys)
  count-place x [] h = refl
  count-place x (y ∷ ys) h =
      let d = or_parts (same_triple x y) (is_among x ys) h in
      elim (cases_Bool (is_below x y)) [
        | inl e ↦ rw e refl
        | inr e ↦ elim (cases_Bool (is_below y x)) [
          | inl f ↦ rw (e, f) (more y (place x ys) (x ∷ ys) (count-place x ys d.1) ∙ swapped x y ys)
          | inr f ↦ absurd (true≢false (sym (below_or x y (differ_from x y d.0) f) ∙ e))
        ]
      ]

  none-among : (x : List ℕ) (ys : List (List ℕ)) → Each (λ y. same_triple x y ≡ false) ys → is_among x ys ≡ false
  none-among x [] h = refl
  none-among x (y ∷ ys) h = ap (λ (b : Bool). b || is_among x ys) h.0 ∙ none-among x ys h.1

  pub count-in_order_once : (ts : List (List ℕ)) → IsDistinct same_triple ts → count_by p (in_order_once ts) ≡ count_by p ts
  unfolding IsDistinct
  count-in_order_once [] d = refl
  count-in_order_once (x ∷ ts) d =
      count-place x (in_order_once ts) (is_among-in_order_once x ts ∙ none-among x ts d.0) ∙ more x (in_order_once ts) ts (count-in_order_once ts d.1)

pub same-at : (keys : Keys) (u v : ℕ) → IsDistinct same_face (keys_of keys) → triples_at (tracked_in keys) u v ≡ triples_at (triples_of (faces_in keys)) u v
same-at keys u v d = count-in_order_once (λ t. has t u && has t v) (triples_of (faces_in keys)) (in-distinct keys d)

pub same-rim : (keys : Keys) (u : ℕ) → IsDistinct same_face (keys_of keys) → IsRim (triples_of (faces_in keys)) u ↔ IsRim (tracked_in keys) u
same-rim keys u d =
    (λ r. record { other = r.other; differs = r.differs; one = same-at keys u r.other d ∙ r.one }, λ r. record { other = r.other; differs = r.differs; one = sym (same-at keys u r.other d) ∙ r.one })

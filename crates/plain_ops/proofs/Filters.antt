-- Lists of the code, filtered and counted by their corners.
use Rattle.std.proofs.Common.{◌≡◌, ℕ, Bool, List, [], ◌∷◌, map, refl, ap, ◌∙◌, inl, inr}
use Rattle.std.specs.List.{filter}
use Rattle.std.proofs.lemmas.Bool.{cases_Bool}

module _ {X : Type 0} (f : X → List ℕ) (p : List ℕ → Bool) where
  pub filter-map : (xs : List X) → map f (filter (λ x. p (f x)) xs) ≡ filter p (map f xs)
  filter-map [] = refl
  filter-map (x ∷ xs) = elim (cases_Bool (p (f x))) [
    | inl e ↦ rw e (ap (λ ys. f x ∷ ys) (filter-map xs))
    | inr e ↦ rw e (filter-map xs)
  ]

  pub filtered : (xs ys zs : List X) → ys ≡ xs → zs ≡ filter (λ x. p (f x)) ys → map f zs ≡ filter p (map f xs)
  filtered xs ys zs e h = ap (map f) (h ∙ ap (filter (λ x. p (f x))) e) ∙ filter-map xs

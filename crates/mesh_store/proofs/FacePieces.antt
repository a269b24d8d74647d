-- The pieces of tracked triples.
use Rattle.std.proofs.Common.{arith, ◌≡◌, ℕ, ◌<◌, false, List, [], ◌∷◌, ◌++◌, map, refl, ◌∙◌, ap, inl, inr, ltb}
use Rattle.std.specs.List.{flat_map, AllByRecursion as Each}
use Rattle.std.proofs.lemmas.Bool.{cases_Bool, ltb-true}
use Rattle.std.proofs.lemmas.List.Concat.{flat_map-append}
use Rattle.std.proofs.lemmas.List.{map-append}
use Rattle.grid.specs.Meshes.{IsTriple}
use Rattle.grid.specs.Simplices.{rising, insert_number, Rises}
use Rattle.mesh_types.specs.declared.cut.Cut.{Cut}
use Rattle.mesh_types.specs.Refines.{sub_all, is_touched}
use Rattle.mesh_types.proofs.ForCallers.{sub_all-untouched}
use Rattle.mesh_store.specs.Changes.{triple_pieces}

-- ---- a triple that rises is its own rising triple
insert-least : (a : ℕ) (x : List ℕ) → Each (λ b. a < b) x → insert_number a x ≡ a ∷ x
insert-least a [] h = refl
insert-least a (b ∷ x) h = elim (cases_Bool (ltb b a)) [
  | inl e ↦ absurd (never a b h.0 (ltb-true b a e))
  | inr e ↦ rw e refl
]
  where
    never : (a b : ℕ) → a < b → b < a → ⊥
    never a b p q = omega arith

pub rising-risen : (x : List ℕ) → Rises x → rising x ≡ x
rising-risen [] r = refl
rising-risen (a ∷ x) r = ap (insert_number a) (rising-risen x r.1) ∙ insert-least a x r.0

module _ (cuts : List Cut) (k : ℕ) where
  pub pieces-append : (xs ys : List (List ℕ)) → triple_pieces cuts k (xs ++ ys) ≡ triple_pieces cuts k xs ++ triple_pieces cuts k ys
  pieces-append xs ys = ap (map rising) (flat_map-append (sub_all k cuts) xs ys) ∙ map-append rising (flat_map (sub_all k cuts) xs) (flat_map (sub_all k cuts) ys)

  -- a triple that no cut touches is its own one piece
  pub whole : (t : List ℕ) → IsTriple k t → is_touched cuts t ≡ false → triple_pieces cuts k (t ∷ []) ≡ t ∷ []
  whole t r e = ap (λ (xs : List (List ℕ)). map rising (xs ++ [])) (sub_all-untouched k cuts t e) ∙ ap (λ (x : List ℕ). x ∷ []) (rising-risen t r.rises)

-- Triples and what stands beside each.
use Rattle.std.proofs.Common.{◌≡◌, ℕ, zero, suc, ◌<◌, List, [], ◌∷◌, length, get_or, refl, ap, arith}
use Rattle.std.specs.List.{AllZip, AllByRecursion as Each}

module _ {X : Type 0} (R : List ℕ → X → Type 0) where
  pub zip_at : (ts : List (List ℕ)) (cs : List X) → AllZip R ts cs → (i : ℕ) (d : X) → i < length ts → R (get_or ts i []) (get_or cs i d)
  zip_at [] cs h i d lt = absurd (omega (arith, lt))
  zip_at (t ∷ ts) [] h i d lt = absurd h
  zip_at (t ∷ ts) (c ∷ cs) h zero d lt = h.0
  zip_at (t ∷ ts) (c ∷ cs) h (suc i) d lt = zip_at ts cs h.1 i d (omega (arith, lt))

  pub zip_lengths : (ts : List (List ℕ)) (cs : List X) → AllZip R ts cs → length cs ≡ length ts
  zip_lengths [] [] h = refl
  zip_lengths [] (c ∷ cs) h = absurd h
  zip_lengths (t ∷ ts) [] h = absurd h
  zip_lengths (t ∷ ts) (c ∷ cs) h = ap suc (zip_lengths ts cs h.1)

  -- what follows of the triple, or of what stands beside it
  pub firsts : (Q P : List ℕ → Type 0) → ((t : List ℕ) (c : X) → Q t → R t c → P t) → (ts : List (List ℕ)) (cs : List X) → Each Q ts → AllZip R ts cs → Each P ts
  firsts Q P f [] cs q h = tt
  firsts Q P f (t ∷ ts) [] q h = absurd h
  firsts Q P f (t ∷ ts) (c ∷ cs) q h = (f t c q.0 h.0, firsts Q P f ts cs q.1 h.1)

  pub seconds : (Q : List ℕ → Type 0) (P : X → Type 0) → ((t : List ℕ) (c : X) → Q t → R t c → P c) → (ts : List (List ℕ)) (cs : List X) → Each Q ts → AllZip R ts cs → Each P cs
  seconds Q P f [] [] q h = tt
  seconds Q P f [] (c ∷ cs) q h = absurd h
  seconds Q P f (t ∷ ts) [] q h = tt
  seconds Q P f (t ∷ ts) (c ∷ cs) q h = (f t c q.0 h.0, seconds Q P f ts cs q.1 h.1)

-- A corner of a face that occurs is one of a tetrahedron.
use Rattle.std.proofs.Common.{◌≡◌, ℕ, ◌+◌, ◌<◌, true, cond, List, [], ◌∷◌, inl, inr, arith}
use Rattle.std.specs.List.{count_by, AllByRecursion as Each}
use Rattle.std.proofs.lemmas.Bool.{cases_Bool}
use Rattle.std.proofs.lemmas.List.Sums.{sum_by-append}
use Rattle.grid.specs.Simplices.{has, faces, all_faces, is_rotation, count}
use Rattle.mesh_types.proofs.ForCallers.{no-face}

count-cons : (f x : List ℕ) (ts : List (List ℕ)) → count f (x ∷ ts) ≡ count_by (is_rotation f) (faces x) + count f ts
count-cons f x ts = sum_by-append (λ g. cond (is_rotation f g) 1 0) (faces x) (all_faces ts)

pub corner_present : (P : ℕ → Type 0) (f : List ℕ) (c : ℕ) → has f c ≡ true → (ts : List (List ℕ)) → Each (λ x. (o : ℕ) → has x o ≡ true → P o) ts → 0 < count f ts → P c
corner_present P f c h [] k some = absurd (omega (arith, some))
corner_present P f c h (x ∷ ts) k some = elim (cases_Bool (has x c)) [
  | inl e ↦ k.0 c e
  | inr e ↦ corner_present P f c h ts k.1 (omega (arith, some, count-cons f x ts, no-face f c h x e))
]

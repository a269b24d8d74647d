-- Faces in lists of faces.
use Rattle.std.proofs.Common.{◌≡◌, ℕ, zero, suc, Bool, true, ◌||◌, List, [], ◌∷◌, sym, ap, ◌∙◌, inl, inr, arith}
use Rattle.std.specs.List.{Contains, list_any}
use Rattle.std.proofs.lemmas.Bool.{cases_Bool, or_left, or_right, true≢false}
use Rattle.grid.specs.declared.shapes.Face.{Face}
use Rattle.grid.specs.Views.{triples_of}
use Rattle.grid.specs.Simplices.{same_triple}
use Rattle.mesh_types.proofs.ForCallers.{equal_to, equal_from}

pub Contains-from_among : (fs : List Face) (x : List ℕ) → list_any (λ (f : Face). same_triple f.0 x) fs ≡ true → Contains (triples_of fs) x
Contains-from_among [] x e = absurd (true≢false (sym e))
Contains-from_among (f ∷ fs) x e = elim (cases_Bool (same_triple f.0 x)) [
  | inl g ↦ (0, omega arith, equal_from f.0 x g)
  | inr g ↦ let r = Contains-from_among fs x (sym (ap (λ (b : Bool). b || list_any (λ (f : Face). same_triple f.0 x) fs) g) ∙ e) in (suc r.0, omega (arith, r.1), r.2)
]

pub among-from_Contains : (fs : List Face) (x : List ℕ) → Contains (triples_of fs) x → list_any (λ (f : Face). same_triple f.0 x) fs ≡ true
among-from_Contains [] x (k, lt, e) = absurd (omega (arith, lt))
among-from_Contains (f ∷ fs) x (zero, lt, e) = or_left (same_triple f.0 x) (list_any (λ (f : Face). same_triple f.0 x) fs) (equal_to f.0 x e)
among-from_Contains (f ∷ fs) x (suc k, lt, e) = or_right (same_triple f.0 x) (list_any (λ (f : Face). same_triple f.0 x) fs) (among-from_Contains fs x (k, omega (arith, lt), e))

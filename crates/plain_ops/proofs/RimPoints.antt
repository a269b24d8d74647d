-- Rim points, edge by edge, and faces that fall on others.
use Rattle.std.proofs.Common.{◌≡◌, ◌↔◌, ℕ, zero, suc, ◌<◌, true, false, not, ◌&&◌, List, [], ◌∷◌, map, length, get_or, All, sym, ◌∙◌, ap, inl, inr, arith}
use Rattle.std.specs.Prelude.{nat_eq}
use Rattle.std.specs.List.{Contains, AllByRecursion as Each}
use Rattle.std.proofs.lemmas.Bool.{cases_Bool, and_from, and_parts, eq-eqb, eqb-true, true≢false}
use Rattle.std.proofs.lemmas.List.Elements.{All-contains, All-contains_itself, All-from_recursion, recursion_from_All}
use Rattle.grid.specs.Meshes.{Mesh, IsTriple}
use Rattle.grid.specs.Rims.{IsRim, triples_at}
use Rattle.grid.specs.Simplices.{has}
use Rattle.mesh_types.specs.Verdicts.{KeepsSurface}
use Rattle.grid.proofs.ForCallers.{Each-weaker}
use Rattle.mesh_types.proofs.ForCallers.{found, below_each}
use Rattle.plain_ops.specs.Befores.{is_rim_edge, StaysOnSurface, FallsOnAnother, AreApart}

-- ---- rim points
module _ (tracked : List (List ℕ)) (u : ℕ) where
  pub rim-from : (w : ℕ) → is_rim_edge tracked u w ≡ true → IsRim tracked u
  rim-from w h =
      let p = and_parts (not (nat_eq w u)) (nat_eq (triples_at tracked u w) 1) h in
      record { other = w; differs = λ e. true≢false (sym p.0 ∙ ap not (eq-eqb w u e)); one = eqb-true (triples_at tracked u w) 1 p.1 }

  rim-edge : (r : IsRim tracked u) → is_rim_edge tracked u r.other ≡ true
  rim-edge r = and_from (not (nat_eq r.other u)) (nat_eq (triples_at tracked u r.other) 1) differ (eq-eqb (triples_at tracked u r.other) 1 r.one)
    where
      differ : not (nat_eq r.other u) ≡ true
      differ = elim (cases_Bool (nat_eq r.other u)) [ inl e ↦ absurd (r.differs (eqb-true r.other u e)) | inr e ↦ ap not e ]

  pub no-rim : (n : ℕ) → All (IsTriple n) tracked → ((k : ℕ) → k < n → is_rim_edge tracked u k ≡ false) → ¬ IsRim tracked u
  no-rim n triples none r =
      let one = r.one in
      let t = found (IsTriple n) (λ t. has t u && has t r.other) tracked (recursion_from_All (IsTriple n) tracked triples) (omega arith) in
      let there = below_each n t.0 (recursion_from_All (λ c. c < n) t.0 t.1.in_range) r.other (and_parts (has t.0 u) (has t.0 r.other) t.2).1 in
      true≢false (sym (rim-edge r) ∙ none r.other there)

-- ---- faces that fall on others
module _ (m : Mesh) (u v : ℕ) where
  pub keeps_is : (StaysOnSurface m.tracked u v × AreApart m.tracked u v) ↔ KeepsSurface m u v
  keeps_is = (
    λ h. record { stays = h.0; apart = λ t c p q i. h.1 t c (record { moves = p; stays_whole = q; falls = i }) },
    λ k. (k.stays, λ t c f. k.apart t c f.moves f.stays_whole f.falls),
  )

-- the same for the triples of a list, by their places
module _ (ts : List (List ℕ)) (u v : ℕ) where
  pub apart-from : All (λ t. ¬ FallsOnAnother ts u v t) ts → AreApart ts u v
  apart-from a t c = All-contains (λ t. ¬ FallsOnAnother ts u v t) ts t a c

  pub apart-to : AreApart ts u v → All (λ t. ¬ FallsOnAnother ts u v t) ts
  apart-to a =
      All-from_recursion (λ t. ¬ FallsOnAnother ts u v t) ts
      (Each-weaker (Contains ts) (λ t. ¬ FallsOnAnother ts u v t) a ts (recursion_from_All (Contains ts) ts (All-contains_itself ts)))

-- what holds of all values of a list holds at each place
each-place : {X : Type 0} (f : X → List ℕ) (P : List ℕ → Type 0) (xs : List X) (d : X) (k : ℕ) → Each P (map f xs) → k < length xs → P (f (get_or xs k d))
each-place f P [] d k h lt = absurd (omega arith)
each-place f P (x ∷ xs) d zero h lt = h.0
each-place f P (x ∷ xs) d (suc k) h lt = each-place f P xs d k h.1 (omega arith)

pub at-place : {X : Type 0} (f : X → List ℕ) (P : List ℕ → Type 0) (xs : List X) (d : X) (k : ℕ) → All P (map f xs) → k < length xs → P (f (get_or xs k d))
at-place f P xs d k h lt = each-place f P xs d k (recursion_from_All P (map f xs) h) lt

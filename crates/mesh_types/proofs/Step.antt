-- A mesh that weaves does so after the split of an edge.
use Rattle.std.proofs.Common.{◌≡◌, ◌≢◌, ℕ, zero, suc, ◌<◌, ◌≤◌, List, [], ◌∷◌, ◌++◌, length, get_or, true, false, ◌&&◌, ap, ap₂, refl, sym, subst, ◌∙◌, arith, inl, inr, ℤ, pos, ◌≤ℤ◌}
use Rattle.std.specs.List.{flat_map, count_by}
use Rattle.std.proofs.lemmas.Bool.{cases_eq, true≢false}
use Rattle.std.proofs.lemmas.Int.{ints}
use Rattle.std.proofs.lemmas.List.{get_or_at}
use Rattle.grid.specs.declared.shapes.Point.{Point}
use Rattle.grid.specs.Simplices.{has, replaced, sub, count, same_corners}
use Rattle.grid.specs.Determinants.{origin, point_at}
use Rattle.grid.specs.Boxes.{Side, IsOn, IsOnOneSide}
use Rattle.mesh_types.specs.Refines.{IsCutOf}
use Rattle.mesh_types.proofs.Sums.{count_by-total}
use Rattle.grid.proofs.ForCallers.{has-replaced_new}
use Rattle.mesh_types.proofs.Pieces.{kept, gone, at_v, at_u, fresh, kind_of}
use Rattle.mesh_types.proofs.Same.{has-reversed, corner_sets, has-replaced_stays}
use Rattle.mesh_types.proofs.Counts.{IsReady, old_tets, between-at_most, between-reversed, number-kept, number-gone, number-at_v, number-at_u, number-fresh, count-kept, count-gone, count-at_v, count-at_u, count-fresh}
use Rattle.int_algebra.proofs.Laws.{linear}
use Rattle.int_algebra.proofs.Ring.{of_naturals}

-- ---- points
pub point_at-append : (points : List Point) (p : Point) (c : ℕ) → c ≢ length points → point_at (points ++ p ∷ []) c ≡ point_at points c
point_at-append points p c n = other points p c origin n
  where
    other : {X : Type 0} (xs : List X) (y : X) (i : ℕ) (d : X) → i ≢ length xs → get_or (xs ++ y ∷ []) i d ≡ get_or xs i d
    other [] y zero d n = absurd (n refl)
    other [] y (suc i) d n = refl
    other (x ∷ xs) y zero d n = refl
    other (x ∷ xs) y (suc i) d n = other xs y i d (λ e. n (ap suc e))

pub point_at-new : (points : List Point) (p : Point) → point_at (points ++ p ∷ []) (length points) ≡ p
point_at-new points p = get_or_at points p [] origin (length points) refl

not_same : (f : List ℕ) (k c : ℕ) → has f k ≡ false → has f c ≡ true → c ≢ k
not_same f k c h g e = true≢false (sym g ∙ ap (has f) e ∙ h)

-- the split of the edge (u,v) at the point p
abbrev pub IsCutBelow : List Point → ℕ → ℕ → ℕ → Point → Type 0
IsCutBelow points l u v p = IsCutOf points l (record { u = u; v = v; at = p })

-- ---- no face twice
pub once-split : (u v k : ℕ) (ts : List (List ℕ)) → IsReady u v k ts → ((a b c : ℕ) → count (a ∷ b ∷ c ∷ []) ts ≤ 1) → ((x : List ℕ) → count_by (λ y. same_corners x y) ts ≤ 1)
    → (p q r : ℕ) → count (p ∷ q ∷ r ∷ []) (flat_map (sub u v k) ts) ≤ 1
once-split u v k ts i once twins p q r = elim (kind_of u v k (p ∷ q ∷ r ∷ [])) [
  | kept g h ↦ let e = count-kept p q r u v k ts i g h in let o = once p q r in omega arith
  | gone g h ↦ let e = count-gone p q r u v k ts i g h in omega arith
  | at_v g h f ↦ let e = count-at_v p q r u v k ts i g h f in subst (λ n. n ≤ 1) (sym e) (once _ _ _)
  | at_u g h f ↦ let e = count-at_u p q r u v k ts i g h f in subst (λ n. n ≤ 1) (sym e) (once _ _ _)
  | fresh g h ↦
      let y : List ℕ = u ∷ replaced k v (p ∷ q ∷ r ∷ []) in
      at_most _ _ _ _ (count-fresh p q r u v k ts i g h) (between-at_most p q r u v k ts i) (count_by-total (same_corners y) ts) (twins y)
]
  where
    at_most : (m n : ℕ) (b t : ℤ) → pos m ≡ b → b ≤ℤ t → pos n ≡ t → n ≤ 1 → m ≤ 1
    at_most m n b t e f g h =
        let o : pos m ≤ℤ pos n = omega (arith, linear) in
        let o' : m ≤ n = omega (arith, ints, o) in
        omega arith

-- ---- no two tetrahedra on the same corners
pub twins-split : (u v k : ℕ) (ts : List (List ℕ)) → IsReady u v k ts → ((x : List ℕ) → count_by (λ y. same_corners x y) ts ≤ 1) → (x : List ℕ) → count_by (λ y. same_corners x y) (flat_map (sub u v k) ts) ≤ 1
twins-split u v k ts i twins x =
    let o = old_tets u v k ts i in
    let m = count_by-total (same_corners x) (flat_map (sub u v k) ts) in
    let n = λ (y : List ℕ). count_by-total (same_corners y) ts in
    elim (kind_of u v k x) [
      | kept g h ↦ subst (λ n. n ≤ 1) (sym (of_naturals (m ∙ number-kept same_corners corner_sets u v k i.new ts o x g h ∙ sym (n x)))) (twins x)
      | gone g h ↦ subst (λ n. n ≤ 1) (sym (of_naturals {n = 0} (m ∙ number-gone same_corners corner_sets u v k i.new ts o x g h))) (omega arith)
      | at_v g h f ↦ subst (λ n. n ≤ 1) (sym (of_naturals (m ∙ number-at_v same_corners corner_sets u v k i.new ts o x g h f ∙ sym (n (replaced k v x))))) (twins (replaced k v x))
      | at_u g h f ↦ subst (λ n. n ≤ 1) (sym (of_naturals (m ∙ number-at_u same_corners corner_sets u v k i.new ts o x g h f ∙ sym (n (replaced k u x))))) (twins (replaced k u x))
      | fresh g h ↦ subst (λ n. n ≤ 1) (sym (of_naturals {n = 0} (m ∙ number-fresh same_corners corner_sets u v k i.new ts o x g h))) (omega arith)
    ]

-- ---- loose faces
pub corners-append : (points : List Point) (p : Point) (l : ℕ) (s : Side) (f : List ℕ) → has f (length points) ≡ false → ((c : ℕ) → has f c ≡ true → IsOn l s (point_at points c)) → (c : ℕ) → has f c ≡ true → IsOn l s (point_at (points ++ p ∷ []) c)
corners-append points p l s f h on c g = subst (IsOn l s) (sym (point_at-append points p c (not_same f (length points) c h g))) (on c g)

pub side-append : (points : List Point) (p : Point) (l : ℕ) (f : List ℕ) → has f (length points) ≡ false → IsOnOneSide points l f → IsOnOneSide (points ++ p ∷ []) l f
side-append points p l f h s = record { side = s.side; corners = corners-append points p l s.side f h s.corners }

-- a face with the new point and one end, from the face with both ends
side-new : (points : List Point) (p : Point) (l u v w : ℕ) (f : List ℕ) → IsCutBelow points l u v p → has (replaced (length points) w f) u ≡ true → has (replaced (length points) w f) v ≡ true
    → IsOnOneSide points l (replaced (length points) w f) → IsOnOneSide (points ++ p ∷ []) l f
side-new points p l u v w f cut hu hv s = record {
  side = s.side;
  corners = λ c g. elim (cases_eq c (length points)) [
    | inl e ↦ subst (λ o. IsOn l s.side (point_at (points ++ p ∷ []) o)) (sym e) (subst (IsOn l s.side) (sym (point_at-new points p)) (cut.on_sides s.side (s.corners u hu) (s.corners v hv)))
    | inr n ↦ subst (IsOn l s.side) (sym (point_at-append points p c n)) (s.corners c (has-replaced_stays (length points) w f c n g))
  ];
}

pub rim-split : (points : List Point) (p : Point) (l u v : ℕ) (ts : List (List ℕ)) → IsReady u v (length points) ts → IsCutBelow points l u v p
    → ((a b c : ℕ) → 0 < count (a ∷ b ∷ c ∷ []) ts → count (a ∷ c ∷ b ∷ []) ts ≡ 0 → IsOnOneSide points l (a ∷ b ∷ c ∷ []))
    → (a b c : ℕ) → 0 < count (a ∷ b ∷ c ∷ []) (flat_map (sub u v (length points)) ts) → count (a ∷ c ∷ b ∷ []) (flat_map (sub u v (length points)) ts) ≡ 0 → IsOnOneSide (points ++ p ∷ []) l (a ∷ b ∷ c ∷ [])
rim-split points p l u v ts i cut rim a b c some none =
    let k = length points in
    let f : List ℕ = a ∷ b ∷ c ∷ [] in
    let back : (o : ℕ) → has (a ∷ c ∷ b ∷ []) o ≡ has f o = has-reversed f in
    elim (kind_of u v k f) [
      | kept g h ↦ side-append points p l f g (rim a b c
          (subst (λ n. 0 < n) (count-kept a b c u v k ts i g h) some)
          (sym (count-kept a c b u v k ts i (back k ∙ g) (ap₂ ◌&&◌ (back u) (back v) ∙ h)) ∙ none))
      | gone g h ↦ absurd (nothing _ some (count-gone a b c u v k ts i g h))
      | at_v g h e ↦ side-new points p l u v v f cut
          (has-replaced_stays k v f u i.new.not_first h) (has-replaced_new k v f g)
          (rim _ _ _
          (subst (λ n. 0 < n) (count-at_v a b c u v k ts i g h e) some)
          (sym (count-at_v a c b u v k ts i (back k ∙ g) (back u ∙ h) (back v ∙ e)) ∙ none))
      | at_u g h e ↦ side-new points p l u v u f cut
          (has-replaced_new k u f g) (has-replaced_stays k u f v i.new.not_second e)
          (rim _ _ _
          (subst (λ n. 0 < n) (count-at_u a b c u v k ts i g h e) some)
          (sym (count-at_u a c b u v k ts i (back k ∙ g) (back u ∙ h) (back v ∙ e)) ∙ none))
      | fresh g h ↦ absurd (nothing _ some (of_naturals (count-fresh a b c u v k ts i g h ∙ sym (between-reversed a b c u v k ts i)
          ∙ sym (count-fresh a c b u v k ts i (back k ∙ g) (back u ∙ h ∙ sym (back v)))) ∙ none))
    ]
  where
    nothing : (n : ℕ) → 0 < n → n ≡ 0 → ⊥
    nothing n g h = omega arith

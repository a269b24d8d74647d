-- Two positive tetrahedra on one set of corners share their faces.
use Rattle.std.proofs.Common.{◌≡◌, ◌≢◌, ◌⊎◌, ℕ, ◌≤◌, List, [], ◌∷◌, length, true, false, eqb, ap, refl, sym, subst, ◌∙◌, arith, inl, inr, ℤ, pos, neg_ℤ, ◌≤ℤ◌, ◌<ℤ◌}
use Rattle.std.specs.List.{count_by, AllByRecursion as Each}
use Rattle.std.proofs.lemmas.Bool.{cases_Bool, or_right}
use Rattle.std.proofs.lemmas.Int.{ints}
use Rattle.std.proofs.lemmas.List.Elements.{recursion_from_All}
use Rattle.grid.specs.declared.shapes.Point.{Point}
use Rattle.grid.specs.Simplices.{has, faces, is_rotation, count, same_corners, IsTet}
use Rattle.grid.specs.Determinants.{point_at, det_at}
use Rattle.mesh_types.specs.Refines.{TilingLaw}
use Rattle.mesh_types.proofs.Sums.{total, bit, total-flat_map, count_by-total}
use Rattle.grid.proofs.ForCallers.{Each-weaker, Each-both, has_first}
use Rattle.mesh_types.proofs.Opened.{AreFour, Place, first, second, third, fourth, place_of}
use Rattle.mesh_types.proofs.Same.{rotation_still, same_corners_at}
use Rattle.mesh_types.proofs.Between.{Cornered, is_face, is_face-turned, bit-at_least}
use Rattle.mesh_types.proofs.Counts.{count-number, total-at_most}
use Rattle.mesh_types.proofs.Cones.{det-reversed}
use Rattle.mesh_types.proofs.Refinement.{cornered_of}
use Rattle.mesh_types.proofs.Turned.{IsTurned, turned_by, swap_pairs, turn_last}
use Rattle.mesh_types.proofs.Volume.{number-at_least}
use Rattle.int_algebra.proofs.Laws.{linear}

-- y is x turned, or x with its last two corners swapped
pub data Either (x : List ℕ) (a b c d : ℕ) : Type 0 where
  turned : IsTurned x (a ∷ b ∷ c ∷ d ∷ []) → Either x a b c d
  mirrored : IsTurned x (a ∷ b ∷ d ∷ c ∷ []) → Either x a b c d

-- with a in front
front : (p q r s a : ℕ) → Place p q r s a → (b : ℕ) × (c : ℕ) × (d : ℕ) × IsTurned (p ∷ q ∷ r ∷ s ∷ []) (a ∷ b ∷ c ∷ d ∷ [])
front p q r s a (first e) = (q, r, s, subst (λ o. IsTurned (p ∷ q ∷ r ∷ s ∷ []) (o ∷ q ∷ r ∷ s ∷ [])) e (turned_by (swap_pairs p q r s) (swap_pairs q p s r)))
front p q r s a (second e) = (p, s, r, subst (λ o. IsTurned (p ∷ q ∷ r ∷ s ∷ []) (o ∷ p ∷ s ∷ r ∷ [])) e (swap_pairs p q r s))
front p q r s a (third e) = (p, q, s, subst (λ o. IsTurned (p ∷ q ∷ r ∷ s ∷ []) (o ∷ p ∷ q ∷ s ∷ [])) e (turned_by (turn_last p q r s) (swap_pairs p r s q)))
front p q r s a (fourth e) = (p, r, q, subst (λ o. IsTurned (p ∷ q ∷ r ∷ s ∷ []) (o ∷ p ∷ r ∷ q ∷ [])) e (turned_by (turn_last p q r s) (turned_by (turn_last p r s q) (swap_pairs p s q r))))

-- with a and b in front
front2 : (x : List ℕ) (a q r s b : ℕ) → a ≢ b → IsTurned x (a ∷ q ∷ r ∷ s ∷ []) → has x b ≡ true → (c : ℕ) × (d : ℕ) × IsTurned x (a ∷ b ∷ c ∷ d ∷ [])
front2 x a q r s b n t h = by (place_of a q r s b (sym (t.corners b) ∙ h))
  where
    by : Place a q r s b → (c : ℕ) × (d : ℕ) × IsTurned x (a ∷ b ∷ c ∷ d ∷ [])
    by (first e) = absurd (n e)
    by (second e) = (r, s, subst (λ o. IsTurned x (a ∷ o ∷ r ∷ s ∷ [])) e t)
    by (third e) = (s, q, subst (λ o. IsTurned x (a ∷ o ∷ s ∷ q ∷ [])) e (turned_by t (turn_last a q r s)))
    by (fourth e) = (q, r, subst (λ o. IsTurned x (a ∷ o ∷ q ∷ r ∷ [])) e (turned_by t (turned_by (turn_last a q r s) (turn_last a r s q))))

-- the last two are c and d, in one order or the other
last2 : (x : List ℕ) (a b r s c d : ℕ) → AreFour a b c d → IsTurned x (a ∷ b ∷ r ∷ s ∷ []) → has x c ≡ true → has x d ≡ true → Either x a b c d
last2 x a b r s c d n t h g = by (place_of a b r s c (sym (t.corners c) ∙ h)) (place_of a b r s d (sym (t.corners d) ∙ g))
  where
    by : Place a b r s c → Place a b r s d → Either x a b c d
    by (first e) f = absurd (n.ac e)
    by (second e) f = absurd (n.bc e)
    by (third e) (first f) = absurd (n.ad f)
    by (third e) (second f) = absurd (n.bd f)
    by (third e) (third f) = absurd (n.cd (sym e ∙ f))
    by (third e) (fourth f) = turned (subst (λ o. IsTurned x (a ∷ b ∷ o ∷ d ∷ [])) e (subst (λ o. IsTurned x (a ∷ b ∷ r ∷ o ∷ [])) f t))
    by (fourth e) (first f) = absurd (n.ad f)
    by (fourth e) (second f) = absurd (n.bd f)
    by (fourth e) (third f) = mirrored (subst (λ o. IsTurned x (a ∷ b ∷ o ∷ c ∷ [])) f (subst (λ o. IsTurned x (a ∷ b ∷ r ∷ o ∷ [])) e t))
    by (fourth e) (fourth f) = absurd (n.cd (sym e ∙ f))

either_of : (p q r s a b c d : ℕ) → AreFour a b c d → ((o : ℕ) → has (a ∷ b ∷ c ∷ d ∷ []) o ≡ true → has (p ∷ q ∷ r ∷ s ∷ []) o ≡ true) → Either (p ∷ q ∷ r ∷ s ∷ []) a b c d
either_of p q r s a b c d n h =
    let x : List ℕ = p ∷ q ∷ r ∷ s ∷ [] in
    let one = front p q r s a (place_of p q r s a (h a (has_first a (b ∷ c ∷ d ∷ [])))) in
    let two = front2 x a one.0 one.1 one.2 b n.ab one.3 (h b (or_right (eqb a b) (has (b ∷ c ∷ d ∷ []) b) (has_first b (c ∷ d ∷ [])))) in
    last2 x a b two.0 two.1 c d n two.2 (h c (or_right (eqb a c) (has (b ∷ c ∷ d ∷ []) c) (or_right (eqb b c) (has (c ∷ d ∷ []) c) (has_first c (d ∷ []))))) (h d (or_right (eqb a d) (has (b ∷ c ∷ d ∷ []) d) (or_right (eqb b d) (has (c ∷ d ∷ []) d) (or_right (eqb c d) (has (d ∷ []) d) (has_first d [])))))

-- a positive tetrahedron on the corners of another has its last face
share : (points : List Point) (x : List ℕ) (a b c d : ℕ) → Either x a b c d → pos 0 <ℤ det_at points (a ∷ b ∷ c ∷ d ∷ []) → pos 0 <ℤ det_at points x → pos 1 ≤ℤ total (is_face b c d) (faces x)
share points x a b c d (turned t) h g =
    let e = t.sums (is_face b c d) (is_face-turned b c d) in
    let o : is_face b c d (b ∷ c ∷ d ∷ []) ≡ pos 1 = ap bit (rotation_still b c d) in
    omega (arith, linear, e, o, bit-at_least (is_rotation (b ∷ c ∷ d ∷ []) (a ∷ c ∷ b ∷ [])), bit-at_least (is_rotation (b ∷ c ∷ d ∷ []) (a ∷ b ∷ d ∷ [])), bit-at_least (is_rotation (b ∷ c ∷ d ∷ []) (a ∷ d ∷ c ∷ [])))
share points x a b c d (mirrored t) h g =
    let e = t.dets points in
    let o = det-reversed (point_at points a) (point_at points b) (point_at points c) (point_at points d) in
    absurd (both (det_at points x) (det_at points (a ∷ b ∷ c ∷ d ∷ [])) (e ∙ o) h g)
  where
    both : (m n : ℤ) → m ≡ neg_ℤ n → pos 0 <ℤ n → pos 0 <ℤ m → ⊥
    both m n e h g = omega (arith, linear)

-- ---- positive tetrahedra have no twins
abbrev Sound : ℕ → List Point → List ℕ → Type 0
Sound n points x = Cornered n x × (pos 0 <ℤ det_at points x)

share_with : (n : ℕ) (points : List Point) (y z : List ℕ) (s : Cornered n y) → Cornered n z → pos 0 <ℤ det_at points y → pos 0 <ℤ det_at points z → ((o : ℕ) → has y o ≡ has z o)
    → pos 1 ≤ℤ total (is_face s.b s.c s.d) (faces z)
share_with n points y z s t g h same =
    subst (λ x. pos 1 ≤ℤ total (is_face s.b s.c s.d) (faces x)) (sym t.is)
    (share points (t.a ∷ t.b ∷ t.c ∷ t.d ∷ []) s.a s.b s.c s.d
    (either_of t.a t.b t.c t.d s.a s.b s.c s.d s.different (λ o e. sym (ap (λ x. has x o) t.is) ∙ sym (same o) ∙ ap (λ x. has x o) s.is ∙ e))
    (subst (λ x. pos 0 <ℤ det_at points x) s.is g) (subst (λ x. pos 0 <ℤ det_at points x) t.is h))

-- a tetrahedron on these corners, if there is one
pub data Search (n : ℕ) (points : List Point) (x : List ℕ) (ts : List (List ℕ)) : Type 0 where
  nowhere : total (λ y. bit (same_corners x y)) ts ≡ pos 0 → Search n points x ts
  found : (y : List ℕ) → Sound n points y → same_corners x y ≡ true → Search n points x ts

search_for : (n : ℕ) (points : List Point) (x : List ℕ) (ts : List (List ℕ)) → Each (Sound n points) ts → Search n points x ts
search_for n points x [] h = nowhere refl
search_for n points x (y ∷ ts) h = elim (cases_Bool (same_corners x y)) [
  | inl e ↦ found y h.0 e
  | inr e ↦ by e (search_for n points x ts h.1)
]
  where
    by : same_corners x y ≡ false → Search n points x ts → Search n points x (y ∷ ts)
    by e (nowhere f) = nowhere (rw e (omega (arith, linear, f)))
    by e (found z s f) = found z s f

pub twins-none : (n : ℕ) (points : List Point) (ts : List (List ℕ)) → Each (Sound n points) ts → ((a b c : ℕ) → count (a ∷ b ∷ c ∷ []) ts ≤ 1) → (x : List ℕ) → count_by (λ y. same_corners x y) ts ≤ 1
twins-none n points ts h once x = by (search_for n points x ts h)
  where
    at_most : (m n : ℕ) (b t : ℤ) → pos m ≡ b → b ≤ℤ t → pos n ≡ t → n ≤ 1 → m ≤ 1
    at_most m n b t e f g h =
        let o : pos m ≤ℤ pos n = omega (arith, linear) in
        let o' : m ≤ n = omega (arith, ints, o) in
        omega arith

    none : (m : ℕ) → pos m ≡ pos 0 → m ≤ 1
    none m e = omega (arith, ints)

    by : Search n points x ts → count_by (λ y. same_corners x y) ts ≤ 1
    by (nowhere e) = none _ (count_by-total (same_corners x) ts ∙ e)
    by (found y s e) =
        let f : List ℕ = s.0.b ∷ s.0.c ∷ s.0.d ∷ [] in
        at_most _ _ _ _ (count_by-total (same_corners x) ts)
        (total-at_most (λ z. bit (same_corners x z)) (λ z. total (λ g. bit (is_rotation f g)) (faces z)) ts (Each-weaker (Sound n points) (λ z. bit (same_corners x z) ≤ℤ total (λ g. bit (is_rotation f g)) (faces z))
        (λ z t. step z t (cases_Bool (same_corners x z))) ts h))
        (count-number f ts ∙ total-flat_map (λ g. bit (is_rotation f g)) faces ts) (once s.0.b s.0.c s.0.d)
      where
        step : (z : List ℕ) → Sound n points z → (same_corners x z ≡ true) ⊎ (same_corners x z ≡ false) → bit (same_corners x z) ≤ℤ total (λ g. bit (is_rotation (s.0.b ∷ s.0.c ∷ s.0.d ∷ []) g)) (faces z)
        step z t (inl q) = rw q (share_with n points y z s.0 t.0 s.1 t.1 (λ o. sym (same_corners_at x y e o) ∙ same_corners_at x z q o))
        step z t (inr q) = rw q (number-at_least (s.0.b ∷ s.0.c ∷ s.0.d ∷ []) (faces z))

pub tiling_law : TilingLaw
tiling_law m l f t =
    let k = length m.points in
    let tets = Each-weaker (IsTet k) (Cornered k) (cornered_of k) m.tets (recursion_from_All (IsTet k) m.tets f.tets_are) in
    let positive = recursion_from_All (λ x. pos 0 <ℤ det_at m.points x) m.tets t.positive in
    record {
      fills = t.fills;
      no_twins = twins-none k m.points m.tets (Each-both (Cornered k) (λ x. pos 0 <ℤ det_at m.points x) m.tets tets positive) t.fills.once;
    }

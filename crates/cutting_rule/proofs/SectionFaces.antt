-- The section faces of a tetrahedron and of a mesh.
use Rattle.std.proofs.Common.{◌≡◌, ℕ, ◌<◌, ℤ, pos, Bool, true, false, not, ◌&&◌, if◌then◌else◌, List, [], ◌∷◌, ◌++◌, map, length, get_or, refl, ap, sym, ◌∙◌, inl, inr, arith}
use Rattle.std.specs.List.{flat_map, filter, list_all}
use Rattle.std.specs.Ordering.{int_eq}
use Rattle.std.proofs.lemmas.Bool.{cases_Bool}
use Rattle.std.proofs.lemmas.List.Elements.{filter-append}
use Rattle.grid.specs.declared.shapes.Point.{Point}
use Rattle.grid.specs.declared.shapes.Tri.{Tri}
use Rattle.grid.specs.Determinants.{origin, point_at}
use Rattle.grid.specs.Meshes.{Mesh}
use Rattle.grid.specs.Planes.{side_plane}
use Rattle.grid.specs.Simplices.{faces, all_faces, rising}
use Rattle.mesh_types.specs.CuttingRule.{lies_below, lies_on, section_plane, three_sides, is_in_section}
use Rattle.mesh_types.specs.Phases.{points_of, is_section_face, section}
use Rattle.mesh_types.specs.Tracking.{in_order_once}
use Rattle.cutting_rule.specs.Section.{section_in}
use Rattle.cutting_rule.specs.Touching.{signs_at}
use Rattle.cutting_rule.proofs.EdgePairs.{sign-at}

-- ---- of a tetrahedron
-- the rising triple of a face, where the test holds
abbrev pub triple_if : Bool → List ℕ → List (List ℕ)
triple_if there f = if there then rising f ∷ [] else []

one : (test : List ℕ → Bool) (f : List ℕ) (fs : List (List ℕ)) → map rising (filter test (f ∷ fs)) ≡ triple_if (test f) f ++ map rising (filter test fs)
one test f fs = elim (cases_Bool (test f)) [ inl e ↦ rw e refl | inr e ↦ rw e refl ]

and_true : (p q r : Bool) → ((p && q) && r) ≡ (p && (q && (r && true)))
and_true true true true = refl
and_true true true false = refl
and_true true false r = refl
and_true false q r = refl

module _ (points : List Point) (t : Tri) where
  abbrev inside : Point → Bool
  inside p = is_in_section t p

  face-test : (u v w : ℕ) (p q r : Bool) → p ≡ inside (point_at points u) → q ≡ inside (point_at points v) → r ≡ inside (point_at points w) → ((p && q) && r) ≡ is_section_face points t (u ∷ v ∷ w ∷ [])
  face-test u v w p q r e f g = and_true p q r ∙ (λ i. e i && (f i && (g i && true)))

  four-faces : (a b c d : ℕ) (acb abd adc bcd : Bool) → acb ≡ is_section_face points t (a ∷ c ∷ b ∷ []) → abd ≡ is_section_face points t (a ∷ b ∷ d ∷ []) → adc ≡ is_section_face points t (a ∷ d ∷ c ∷ []) → bcd ≡ is_section_face points t (b ∷ c ∷ d ∷ [])
      → triple_if acb (a ∷ c ∷ b ∷ []) ++ (triple_if abd (a ∷ b ∷ d ∷ []) ++ (triple_if adc (a ∷ d ∷ c ∷ []) ++ (triple_if bcd (b ∷ c ∷ d ∷ []) ++ []))) ≡ section_in points t (a ∷ b ∷ c ∷ d ∷ [])
  unfolding section_in
  four-faces a b c d acb abd adc bcd e f g h =
      let test = is_section_face points t in
      (λ i. triple_if (e i) (a ∷ c ∷ b ∷ []) ++ (triple_if (f i) (a ∷ b ∷ d ∷ []) ++ (triple_if (g i) (a ∷ d ∷ c ∷ []) ++ (triple_if (h i) (b ∷ c ∷ d ∷ []) ++ []))))
      ∙ sym (one test (a ∷ c ∷ b ∷ []) ((a ∷ b ∷ d ∷ []) ∷ (a ∷ d ∷ c ∷ []) ∷ (b ∷ c ∷ d ∷ []) ∷ [])
      ∙ ap (λ ys. triple_if (test (a ∷ c ∷ b ∷ [])) (a ∷ c ∷ b ∷ []) ++ ys) (one test (a ∷ b ∷ d ∷ []) ((a ∷ d ∷ c ∷ []) ∷ (b ∷ c ∷ d ∷ []) ∷ [])
      ∙ ap (λ ys. triple_if (test (a ∷ b ∷ d ∷ [])) (a ∷ b ∷ d ∷ []) ++ ys) (one test (a ∷ d ∷ c ∷ []) ((b ∷ c ∷ d ∷ []) ∷ [])
      ∙ ap (λ ys. triple_if (test (a ∷ d ∷ c ∷ [])) (a ∷ d ∷ c ∷ []) ++ ys) (one test (b ∷ c ∷ d ∷ []) []))))

  -- the faces of a tetrahedron, by the tests of its corners
  pub section-corners : (x : List ℕ) (ps : List Point) (o : Point) (p q r s acb abd adc bcd : Bool) → length x ≡ 4 → ps ≡ points_of points x
      → p ≡ inside (get_or ps 0 o) → q ≡ inside (get_or ps 1 o) → r ≡ inside (get_or ps 2 o) → s ≡ inside (get_or ps 3 o) → acb ≡ ((p && r) && q) → abd ≡ ((p && q) && s) → adc ≡ ((p && s) && r) → bcd ≡ ((q && r) && s)
      → triple_if acb (get_or x 0 0 ∷ get_or x 2 0 ∷ get_or x 1 0 ∷ []) ++ (triple_if abd (get_or x 0 0 ∷ get_or x 1 0 ∷ get_or x 3 0 ∷ []) ++ (triple_if adc (get_or x 0 0 ∷ get_or x 3 0 ∷ get_or x 2 0 ∷ []) ++ (triple_if bcd (get_or x 1 0 ∷ get_or x 2 0 ∷ get_or x 3 0 ∷ []) ++ []))) ≡ section_in points t x
  section-corners [] ps o p q r s acb abd adc bcd l is pa pb pc pd e f g h = cc l
  section-corners (a ∷ []) ps o p q r s acb abd adc bcd l is pa pb pc pd e f g h = cc l
  section-corners (a ∷ b ∷ []) ps o p q r s acb abd adc bcd l is pa pb pc pd e f g h = cc l
  section-corners (a ∷ b ∷ c ∷ []) ps o p q r s acb abd adc bcd l is pa pb pc pd e f g h = cc l
  section-corners (a ∷ b ∷ c ∷ d ∷ u ∷ x) ps o p q r s acb abd adc bcd l is pa pb pc pd e f g h = cc l
  section-corners (a ∷ b ∷ c ∷ d ∷ []) ps o p q r s acb abd adc bcd l is pa pb pc pd e f g h =
      let ia : p ≡ inside (point_at points a) = pa ∙ ap (λ qs. inside (get_or qs 0 o)) is in
      let ib : q ≡ inside (point_at points b) = pb ∙ ap (λ qs. inside (get_or qs 1 o)) is in
      let ic : r ≡ inside (point_at points c) = pc ∙ ap (λ qs. inside (get_or qs 2 o)) is in
      let id : s ≡ inside (point_at points d) = pd ∙ ap (λ qs. inside (get_or qs 3 o)) is in
      four-faces a b c d acb abd adc bcd (e ∙ face-test a c b p r q ia ic ib) (f ∙ face-test a b d p q s ia ib id) (g ∙ face-test a d c p s r ia id ic) (h ∙ face-test b c d q r s ib ic id)

  -- none, where no three corners are on the triangle's plane
  off : (p q r a b c : Bool) → ((p && q) && r) ≡ false → ((p && a) && ((q && b) && ((r && c) && true))) ≡ false
  off true true true a b c e = cc
  off true true false true true c e = refl
  off true true false true false c e = refl
  off true true false false b c e = refl
  off true false r true b c e = refl
  off true false r false b c e = refl
  off false q r a b c e = refl

  abbrev on : Point → Bool
  on p = lies_on (section_plane t) p

  abbrev within : Point → Bool
  within p = list_all (λ i. not (lies_below (side_plane t i) p)) three_sides

  face-off : (u v w : ℕ) (p q r : Bool) → p ≡ on (point_at points u) → q ≡ on (point_at points v) → r ≡ on (point_at points w) → ((p && q) && r) ≡ false → false ≡ is_section_face points t (u ∷ v ∷ w ∷ [])
  unfolding is_in_section
  face-off u v w p q r e f g h =
      sym (off (on (point_at points u)) (on (point_at points v)) (on (point_at points w)) (within (point_at points u)) (within (point_at points v)) (within (point_at points w)) (sym (λ j. (e j && f j) && g j) ∙ h))

  sign-on : (ps : List Point) (signs : List ℤ) (k : ℕ) → signs ≡ signs_at t ps → k < length ps → int_eq (get_or signs k (pos 0)) (pos 0) ≡ on (get_or ps k origin)
  unfolding lies_on
  sign-on ps signs k e lt = ap (λ s. int_eq s (pos 0)) (sign-at t ps signs k origin e lt)

  pub no-section : (x : List ℕ) (signs : List ℤ) (p q r s : Bool) → length x ≡ 4 → signs ≡ signs_at t (points_of points x)
      → p ≡ int_eq (get_or signs 0 (pos 0)) (pos 0) → q ≡ int_eq (get_or signs 1 (pos 0)) (pos 0) → r ≡ int_eq (get_or signs 2 (pos 0)) (pos 0) → s ≡ int_eq (get_or signs 3 (pos 0)) (pos 0)
      → ((p && r) && q) ≡ false → ((p && q) && s) ≡ false → ((p && s) && r) ≡ false → ((q && r) && s) ≡ false → section_in points t x ≡ []
  no-section [] signs p q r s l is ep eq er es e f g h = cc l
  no-section (a ∷ []) signs p q r s l is ep eq er es e f g h = cc l
  no-section (a ∷ b ∷ []) signs p q r s l is ep eq er es e f g h = cc l
  no-section (a ∷ b ∷ c ∷ []) signs p q r s l is ep eq er es e f g h = cc l
  no-section (a ∷ b ∷ c ∷ d ∷ u ∷ x) signs p q r s l is ep eq er es e f g h = cc l
  no-section (a ∷ b ∷ c ∷ d ∷ []) signs p q r s l is ep eq er es e f g h =
      let ps = points_of points (a ∷ b ∷ c ∷ d ∷ []) in
      let ia = ep ∙ sign-on ps signs 0 is (omega arith) in
      let ib = eq ∙ sign-on ps signs 1 is (omega arith) in
      let ic = er ∙ sign-on ps signs 2 is (omega arith) in
      let id = es ∙ sign-on ps signs 3 is (omega arith) in
      sym (four-faces a b c d false false false false (face-off a c b p r q ia ic ib e) (face-off a b d p q s ia ib id f) (face-off a d c p s r ia id ic g) (face-off b c d q r s ib ic id h))

-- ---- of a mesh
map-parts : (xs ys : List (List ℕ)) → map rising (xs ++ ys) ≡ map rising xs ++ map rising ys
map-parts [] ys = refl
map-parts (x ∷ xs) ys = ap (λ zs. rising x ∷ zs) (map-parts xs ys)

sections-all : (points : List Point) (t : Tri) (tets : List (List ℕ)) → map rising (filter (is_section_face points t) (all_faces tets)) ≡ flat_map (section_in points t) tets
unfolding section_in
sections-all points t [] = refl
sections-all points t (x ∷ tets) =
    ap (map rising) (filter-append (is_section_face points t) (faces x) (all_faces tets))
    ∙ (map-parts (filter (is_section_face points t) (faces x)) (filter (is_section_face points t) (all_faces tets))
    ∙ ap (λ zs. map rising (filter (is_section_face points t) (faces x)) ++ zs) (sections-all points t tets))

pub section-is : (points : List Point) (tets : List (List ℕ)) (m : Mesh) (s t : Tri) (fs gs : List (List ℕ)) → fs ≡ in_order_once gs → gs ≡ flat_map (section_in points s) tets → points ≡ m.points → tets ≡ m.tets → s ≡ t → fs ≡ section m t
unfolding section
section-is points tets m s t fs gs e f p q r = e ∙ (ap in_order_once (f ∙ ((λ j. flat_map (section_in (p j) (r j)) (q j)) ∙ sym (sections-all m.points t m.tets))))

-- A tetrahedron that a triangle does not touch has no wanted edges.
use Rattle.std.proofs.Common.{◌≡◌, ℕ, zero, suc, Bool, true, false, ◌&&◌, List, [], inl, inr, refl, sym, ◌∙◌, arith}
use Rattle.std.specs.List.{list_any}
use Rattle.std.proofs.lemmas.Bool.{cases_Bool, or_right, true≢false, false_from_ne_true, and_parts, and_from, or_parts, and_left}
use Rattle.grid.specs.declared.shapes.Point.{Point}
use Rattle.grid.specs.declared.shapes.Tri.{Tri}
use Rattle.grid.specs.Planes.{side_plane}
use Rattle.mesh_types.specs.CuttingRule.{boxes_meet, lies_above, lies_on, splits, reaches, section_plane, phase_plane, is_wanted}
use Rattle.mesh_types.specs.Phases.{points_of, edges, wanted_in}
use Rattle.cutting_rule.specs.Bounds.{is_met}
use Rattle.cutting_rule.specs.Touching.{touches, touches_plane, has_some_within, may_want, IsReach}
use Rattle.cutting_rule.proofs.WantedEdges.{AreIn, any-points, edges_in, filter-none, far-none, uncrossed-none, later-none}

none-middle : (p q r : Bool) → q ≡ false → (p && q && r) ≡ false
none-middle true q r e = rw e refl
none-middle false q r e = refl

-- none of a tetrahedron whose corners do not touch the triangle's plane
pub apart-none : (points : List Point) (t : Tri) (i : ℕ) (x : List ℕ) → touches_plane t (points_of points x) ≡ false → wanted_in points t i x ≡ []
apart-none points t zero x h =
    uncrossed-none points t x (none-middle (boxes_meet (points_of points x) t.0) (splits (section_plane t) (points_of points x)) (reaches t (points_of points x)) (or_parts _ _ h).1)
apart-none points t (suc i) x h =
    later-none points t (suc i) x (omega arith) (and_left (list_any (lies_on (section_plane t)) (points_of points x)) (splits (phase_plane t (suc i)) (points_of points x)) (or_parts _ _ h).0)

-- a wanted edge, or the tetrahedron that has it, reaches beyond each side
itself : (x : List ℕ) → AreIn x x
itself x test e = e

reached : (points : List Point) (t : Tri) (x e : List ℕ) → AreIn x e → reaches t (points_of points e) ≡ true → (has_some_within (side_plane t 0) (points_of points x) && has_some_within (side_plane t 1) (points_of points x) && has_some_within (side_plane t 2) (points_of points x)) ≡ true
reached points t x e among h =
    let above : (i : ℕ) → list_any (lies_above (side_plane t i)) (points_of points e) ≡ true → has_some_within (side_plane t i) (points_of points x) ≡ true =
    λ i a. or_right (list_any (lies_on (side_plane t i)) (points_of points x)) _ (any-points points (lies_above (side_plane t i)) x e among a) in
    let first = (and_parts _ _ h).0 in
    let others = (and_parts (list_any (lies_above (side_plane t 0)) (points_of points e)) _ h).1 in
    let second = (and_parts _ _ others).0 in
    let third = (and_parts _ _ (and_parts (list_any (lies_above (side_plane t 1)) (points_of points e)) _ others).1).0 in
    and_from _ _ (and_from _ _ (above 0 first) (above 1 second)) (above 2 third)

wanted-reached : (points : List Point) (t : Tri) (i : ℕ) (x e : List ℕ) → AreIn x e → is_wanted t i (points_of points x) (points_of points e) ≡ true → (has_some_within (side_plane t 0) (points_of points x) && has_some_within (side_plane t 1) (points_of points x) && has_some_within (side_plane t 2) (points_of points x)) ≡ true
unfolding is_wanted
wanted-reached points t zero x e among a = reached points t x x (itself x) (and_parts _ _ (and_parts _ _ a).0).1
wanted-reached points t (suc i) x e among a = reached points t x e among (and_parts _ _ a).1

-- none of one whose corners lie all beyond a side
pub beyond-none : (points : List Point) (t : Tri) (i : ℕ) (x : List ℕ) → (has_some_within (side_plane t 0) (points_of points x) && has_some_within (side_plane t 1) (points_of points x) && has_some_within (side_plane t 2) (points_of points x)) ≡ false → wanted_in points t i x ≡ []
unfolding wanted_in
beyond-none points t i x h =
    filter-none _ (AreIn x) (λ e among. false_from_ne_true (is_wanted t i (points_of points x) (points_of points e)) (λ a. true≢false (sym (wanted-reached points t i x e among a) ∙ h))) (edges x) (edges_in x)

-- a later phase wants none of one that lies on or below a side
reach-more : (points : List Point) (t : Tri) (x e : List ℕ) → AreIn x e → reaches t (points_of points e) ≡ true → reaches t (points_of points x) ≡ true
reach-more points t x e among h =
    let above : (i : ℕ) → list_any (lies_above (side_plane t i)) (points_of points e) ≡ true → list_any (lies_above (side_plane t i)) (points_of points x) ≡ true =
    λ i a. any-points points (lies_above (side_plane t i)) x e among a in
    let others = (and_parts (list_any (lies_above (side_plane t 0)) (points_of points e)) _ h).1 in
    let third = (and_parts _ _ (and_parts (list_any (lies_above (side_plane t 1)) (points_of points e)) _ others).1).0 in
    and_from _ _ (above 0 (and_parts _ _ h).0) (and_from _ _ (above 1 (and_parts _ _ others).0) (and_from _ _ (above 2 third) refl))

wanted-reaches : (points : List Point) (t : Tri) (i : ℕ) (x e : List ℕ) → AreIn x e → is_wanted t (suc i) (points_of points x) (points_of points e) ≡ true → reaches t (points_of points x) ≡ true
unfolding is_wanted
wanted-reaches points t i x e among a = reach-more points t x e among (and_parts _ _ a).1

unreached-none : (points : List Point) (t : Tri) (i : ℕ) (x : List ℕ) → reaches t (points_of points x) ≡ false → wanted_in points t (suc i) x ≡ []
unfolding wanted_in
unreached-none points t i x h =
    filter-none _ (AreIn x) (λ e among. false_from_ne_true (is_wanted t (suc i) (points_of points x) (points_of points e)) (λ a. true≢false (sym (wanted-reaches points t i x e among a) ∙ h))) (edges x) (edges_in x)

-- none that a phase may not want
pub may-none : (points : List Point) (t : Tri) (i : ℕ) (x : List ℕ) → may_want t i (points_of points x) ≡ false → wanted_in points t i x ≡ []
may-none points t zero x h = uncrossed-none points t x h
may-none points t (suc i) x h = elim (cases_Bool (reaches t (points_of points x))) [
  | inl e ↦ later-none points t (suc i) x (omega arith) (left _ _ e h)
  | inr e ↦ unreached-none points t i x e
]
  where
    left : (p q : Bool) → q ≡ true → (p && q) ≡ false → p ≡ false
    left p true e f = sym (and-true p) ∙ f
      where
        and-true : (p : Bool) → (p && true) ≡ p
        and-true true = refl
        and-true false = refl
    left p false e f = cc

-- none of one that does not meet the box about the triangle or does not touch it
pub untouched-none : (points : List Point) (t : Tri) (lo hi : Point) (i : ℕ) (x : List ℕ) → IsReach t lo hi → (is_met lo hi (points_of points x) && touches t (points_of points x)) ≡ false → wanted_in points t i x ≡ []
untouched-none points t lo hi i x reach h = elim (cases_Bool (is_met lo hi (points_of points x))) [
  | inl e ↦ elim (cases_Bool (touches_plane t (points_of points x))) [
    | inl f ↦ beyond-none points t i x (rest _ _ _ _ f (right _ _ e h))
    | inr f ↦ apart-none points t i x f
  ]
  | inr e ↦ far-none points t i x (reach.meeting (points_of points x) e)
]
  where
    right : (p q : Bool) → p ≡ true → (p && q) ≡ false → q ≡ false
    right true q e f = f
    right false q e f = cc

    rest : (p a b c : Bool) → p ≡ true → (p && a && b && c) ≡ false → (a && b && c) ≡ false
    rest true a b c e f = f
    rest false a b c e f = cc

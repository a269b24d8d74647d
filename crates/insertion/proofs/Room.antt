-- From the counts after the first phase of an insertion: the mesh after all four stays within the limits.
use Rattle.std.proofs.Common.{◌≡◌, ℕ, suc, ◌+◌, ◌*◌, ◌<◌, ◌≤◌, Bool, true, false, not, ◌&&◌, List, [], ◌∷◌, ◌++◌, map, length, All, sym, ap, ◌∙◌, inl, inr, arith, length-append}
use Rattle.std.specs.List.{filter, list_all, AllByRecursion as Each}
use Rattle.std.proofs.lemmas.Bool.{cases_Bool, or_right, true≢false}
use Rattle.std.proofs.lemmas.List.{length-map}
use Rattle.std.proofs.lemmas.List.Elements.{recursion_from_All, filter-append}
use Rattle.std.proofs.lemmas.List.Sums.{length-filter, count_by-le-length}
use Rattle.std.proofs.Math.Seq.{take-append_seam}
use Rattle.grid.specs.declared.shapes.Point.{Point}
use Rattle.grid.specs.declared.shapes.Tri.{Tri}
use Rattle.grid.specs.Determinants.{point_at}
use Rattle.grid.specs.Limits.{most_points, most_made}
use Rattle.grid.specs.Meshes.{Mesh, IsWellFormed, IsWithinLimits}
use Rattle.grid.specs.Simplices.{has, IsTet}
use Rattle.mesh_types.specs.declared.cut.Cut.{Cut}
use Rattle.mesh_types.specs.CuttingRule.{lies_on, section_plane}
use Rattle.mesh_types.specs.Phases.{points_of, phase, wanted_cuts}
use Rattle.mesh_types.specs.Refines.{is_touched, new_pieces, refine, sub_all}
use Rattle.cutting_rule.specs.Bounds.{is_met}
use Rattle.cutting_rule.specs.Touching.{touches, IsReach}
use Rattle.cutting_rule.specs.Until.{until}
use Rattle.grid.proofs.ForCallers.{Each-weaker, Each-both, Each-append, Each-of_flat_map, has_first}
use Rattle.mesh_types.proofs.ForCallers.{Each-filter, Each-passed, cornered_of}
use Rattle.cutting_rule.proofs.ForCallers.{until-well_formed}
use Rattle.cutter.proofs.ForCallers.{point-kept, points-kept}
use Rattle.insertion.proofs.FewPieces.{IsMarked, IsCutFew, few-pieces, near-few, some-unmarked, stays}
use Rattle.insertion.proofs.LaterCuts.{HasCornerOff, is_near, near_tets, is_old_on, IsLaterCut, few-cuts, later-cuts, later-marked, near-touched, new-off, off-off}

-- ---- a corner off the plane
record IsOff (points : List Point) (t : Tri) (x : List ℕ) : Type 0 where
  corner : ℕ
  there : has x corner ≡ true
  off : lies_on (section_plane t) (point_at points corner) ≡ false

off-of : (points : List Point) (t : Tri) (x : List ℕ) → HasCornerOff points t x → IsOff points t x
off-of points t [] h = absurd (true≢false h)
off-of points t (a ∷ x) h = elim (cases_Bool (lies_on (section_plane t) (point_at points a))) [
  | inl e ↦
      let rest = off-of points t x (sym (ap (λ b. b && list_all (lies_on (section_plane t)) (points_of points x)) e) ∙ h) in
      record { corner = rest.corner; there = or_right _ _ rest.there; off = rest.off }
  | inr e ↦ record { corner = a; there = has_first a x; off = e }
]

-- if the tetrahedron is near, it has a corner off the plane
abbrev IsOffIfNear : List Point → Tri → Point → Point → List ℕ → Type 0
IsOffIfNear points t lo hi x = is_near points t lo hi x ≡ true → IsOff points t x

near-off : (points : List Point) (t : Tri) (lo hi : Point) (xs : List (List ℕ)) → Each (HasCornerOff points t) (near_tets points t lo hi xs) → Each (IsOffIfNear points t lo hi) xs
near-off points t lo hi [] h = tt
near-off points t lo hi (x ∷ xs) h = elim (cases_Bool (is_near points t lo hi x)) [
  | inl e ↦ let k : Each (HasCornerOff points t) (x ∷ near_tets points t lo hi xs) = rw e at h in (λ f. off-of points t x k.0, near-off points t lo hi xs k.1)
  | inr e ↦ (λ f. absurd (true≢false (sym f ∙ e)), near-off points t lo hi xs (rw e at h))
]

-- ---- one phase
-- the tetrahedron by itself
module _ (points more : List Point) (t : Tri) (lo hi : Point) (i : ℕ) (es : List Cut) (reach : IsReach t lo hi) (cuts : Each (IsLaterCut points t i) es) (x : List ℕ) (tet : IsTet (length points) x) (off : IsOffIfNear points t lo hi x) where
  abbrev q : ℕ → Bool
  q = is_old_on points t

  same-points : points_of (points ++ more) x ≡ points_of points x
  same-points = points-kept points (points ++ more) (take-append_seam points more) x (recursion_from_All (λ u. u < length points) x tet.in_range)

  same-near : is_near (points ++ more) t lo hi x ≡ is_near points t lo hi x
  same-near = ap (λ ps. is_met lo hi ps && touches t ps) same-points

  old-corner : (c : ℕ) → has x c ≡ true → point_at (points ++ more) c ≡ point_at points c
  old-corner c h = point-kept points (points ++ more) c (take-append_seam points more) ((cornered_of (length points) x tet).below c h)

  four-pieces : is_near points t lo hi x ≡ true → length (sub_all (length points) es x) ≤ 4
  four-pieces near =
      let o = off near in
      let few = some-unmarked q o.corner x o.there (off-off points t o.corner o.off) in
      let four = tet.four in
      few-pieces q (length points) (new-off points t) (length points) es x 2 (omega arith) (Each-weaker (IsLaterCut points t i) (IsMarked q) (later-marked points t i) es cuts) (omega (arith, few, four))

  cut-few : IsCutFew (is_near points t lo hi) (is_near (points ++ more) t lo hi) (is_touched es) (sub_all (length points) es) x
  cut-few = record {
    here = near-touched points t lo hi i reach x tet.four es cuts;
    few = four-pieces;
    far = λ e. same-near ∙ e;
  }

  stays-off : is_near points t lo hi x ≡ true → Each (IsOffIfNear (points ++ more) t lo hi) (sub_all (length points) es x)
  stays-off near =
      let o = off near in
      let old = old-corner o.corner o.there in
      let below = (cornered_of (length points) x tet).below o.corner o.there in
      Each-weaker (λ y. has y o.corner ≡ true) (IsOffIfNear (points ++ more) t lo hi)
      (λ y h e. record { corner = o.corner; there = h; off = ap (lies_on (section_plane t)) old ∙ o.off }) (sub_all (length points) es x)
      (stays q (length points) (new-off points t) (length points) o.corner es x below (off-off points t o.corner o.off)
      (Each-weaker (IsLaterCut points t i) (IsMarked q) (later-marked points t i) es cuts) o.there)

  off-still : IsOffIfNear (points ++ more) t lo hi x
  off-still near =
      let o = off (sym same-near ∙ near) in
      record { corner = o.corner; there = o.there; off = ap (lies_on (section_plane t)) (old-corner o.corner o.there) ∙ o.off }

-- what one more phase makes of a mesh: the near tetrahedra still have a corner off the plane, and there are few more
record IsRoomy (m n : Mesh) (t : Tri) (lo hi : Point) : Type 0 where
  off : Each (IsOffIfNear n.points t lo hi) n.tets
  near : length (near_tets n.points t lo hi n.tets) ≤ 4 * length (near_tets m.points t lo hi m.tets)
  made : n.made ≤ m.made + 4 * length (near_tets m.points t lo hi m.tets)
  points : length n.points ≤ length m.points + 6 * length (near_tets m.points t lo hi m.tets)

module _ (m : Mesh) (t : Tri) (lo hi : Point) (i : ℕ) (w : IsWellFormed m) (reach : IsReach t lo hi) (off : Each (IsOffIfNear m.points t lo hi) m.tets) where
  abbrev es : List Cut
  es = wanted_cuts m t (suc i)

  abbrev more : List Point
  more = map (λ (e : Cut). e.at) es

  abbrev IsKnown : List ℕ → Type 0
  IsKnown x = IsTet (length m.points) x × IsOffIfNear m.points t lo hi x

  cuts : Each (IsLaterCut m.points t i) es
  cuts = later-cuts m t i w.tets_are

  known : Each IsKnown m.tets
  known = Each-both (IsTet (length m.points)) (IsOffIfNear m.points t lo hi) m.tets (recursion_from_All (IsTet (length m.points)) m.tets w.tets_are) off

  few : length (filter (is_near (m.points ++ more) t lo hi) (filter (λ x. not (is_touched es x)) m.tets)) + length (new_pieces m es) ≤ 4 * length (near_tets m.points t lo hi m.tets)
  few =
      near-few (is_near m.points t lo hi) (is_near (m.points ++ more) t lo hi) (is_touched es) (sub_all (length m.points) es) m.tets
      (Each-weaker IsKnown (IsCutFew (is_near m.points t lo hi) (is_near (m.points ++ more) t lo hi) (is_touched es) (sub_all (length m.points) es)) (λ x h. cut-few m.points more t lo hi i es reach cuts x h.0 h.1) m.tets known)

  off-after : Each (IsOffIfNear (m.points ++ more) t lo hi) (filter (λ x. not (is_touched es x)) m.tets ++ new_pieces m es)
  off-after =
      Each-append (IsOffIfNear (m.points ++ more) t lo hi) (filter (λ x. not (is_touched es x)) m.tets) (new_pieces m es)
      (Each-filter (IsOffIfNear (m.points ++ more) t lo hi) (λ x. not (is_touched es x)) m.tets
      (Each-weaker IsKnown (IsOffIfNear (m.points ++ more) t lo hi) (λ x h. off-still m.points more t lo hi i es reach cuts x h.0 h.1) m.tets known))
      (Each-of_flat_map (λ x. IsKnown x × (is_touched es x ≡ true)) (IsOffIfNear (m.points ++ more) t lo hi) (sub_all (length m.points) es)
      (λ x h. stays-off m.points more t lo hi i es reach cuts x h.0.0 h.0.1 (near-touched m.points t lo hi i reach x h.0.0.four es cuts h.1)) (filter (is_touched es) m.tets)
      (Each-both IsKnown (λ x. is_touched es x ≡ true) (filter (is_touched es) m.tets) (Each-filter IsKnown (is_touched es) m.tets known) (Each-passed (is_touched es) m.tets)))

  roomy : IsRoomy m (phase m t (suc i)) t lo hi
  unfolding refine
  roomy =
      let after = is_near (m.points ++ more) t lo hi in
      let old = filter (λ x. not (is_touched es x)) m.tets in
      let parted = ap length (filter-append after old (new_pieces m es)) in
      let joined = length-append (filter after old) (filter after (new_pieces m es)) in
      let passed = length-filter after (new_pieces m es) in
      let fewer = count_by-le-length after (new_pieces m es) in
      record {
        off = off-after;
        near = omega (arith, few, parted, joined, passed, fewer);
        made = omega (arith, few);
        points = omega (arith, length-append m.points more, length-map es (λ (e : Cut). e.at), few-cuts m t lo hi (suc i) reach);
      }

-- ---- the later phases
pub room-kept : (m : Mesh) (t : Tri) (lo hi : Point) → IsWellFormed m → IsReach t lo hi
    → All (HasCornerOff (until m t 1).points t) (near_tets (until m t 1).points t lo hi (until m t 1).tets)
    → (until m t 1).made + 84 * length (near_tets (until m t 1).points t lo hi (until m t 1).tets) ≤ most_made
    → length (until m t 1).points + 126 * length (near_tets (until m t 1).points t lo hi (until m t 1).tets) ≤ most_points
    → IsWithinLimits (until m t 4)
room-kept m t lo hi w reach off made points =
    let n = until m t 1 in
    let start = near-off n.points t lo hi n.tets (recursion_from_All (HasCornerOff n.points t) (near_tets n.points t lo hi n.tets) off) in
    let first = roomy n t lo hi 0 (until-well_formed m t 1 w) reach start in
    let second = roomy (until m t 2) t lo hi 1 (until-well_formed m t 2 w) reach first.off in
    let third = roomy (until m t 3) t lo hi 2 (until-well_formed m t 3 w) reach second.off in
    record {
      points_few = omega (arith, points, first.points, second.points, third.points, first.near, second.near);
      made_few = omega (arith, made, first.made, second.made, third.made, first.near, second.near);
    }

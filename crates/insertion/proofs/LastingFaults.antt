-- Later phases leave a tetrahedron of which they want no edge: the first that is not positive and lasts is
-- the first of the cut mesh that is not positive.
use Rattle.std.proofs.Common.{◌≡◌, ◌≢◌, ◌⊎◌, ◌∙◌, ℕ, zero, suc, ◌<◌, ◌≤◌, ℤ, pos, ◌<ℤ◌, ◌≤ℤ◌, Bool, true, false, not, ◌&&◌, ◌||◌, nat_lt, nat_eq, List, [], ◌∷◌, ◌++◌, map, length, take, All, refl, sym, ap, subst, inl, inr, arith}
use Rattle.std.specs.List.{filter, flat_map, list_any, AllByRecursion as Each}
use Rattle.std.specs.Int.Signed.{clash_ℤ}
use Rattle.std.proofs.Math.Bool.{and-true}
use Rattle.std.proofs.Math.Seq.{take-append_seam}
use Rattle.std.proofs.lemmas.Bool.{cases_Bool, true≢false, false_from_ne_true, or_right, and_parts, and_from}
use Rattle.std.proofs.lemmas.Bool.Decides.{nat_tests}
use Rattle.std.proofs.lemmas.List.{append_assoc}
use Rattle.std.proofs.lemmas.List.Elements.{All-from_recursion, recursion_from_All, filter-append}
use Rattle.grid.specs.declared.shapes.Point.{Point}
use Rattle.grid.specs.declared.shapes.Tri.{Tri}
use Rattle.grid.specs.Determinants.{det_at, IsPositive}
use Rattle.grid.specs.Meshes.{Mesh, IsWellFormed}
use Rattle.grid.specs.Planes.{Plane}
use Rattle.grid.specs.Simplices.{has, has_all, rising, same_triple, IsTet}
use Rattle.mesh_types.specs.declared.cut.Cut.{Cut}
use Rattle.mesh_types.specs.CuttingRule.{phase_plane, is_wanted}
use Rattle.mesh_types.specs.Insertion.{NamesFirst}
use Rattle.mesh_types.specs.Phases.{points_of, edges, wanted_in, wanted, cut_at, wanted_cuts, phase}
use Rattle.mesh_types.specs.Refines.{is_touched, refine, new_pieces}
use Rattle.mesh_types.specs.Tracking.{in_order_once}
use Rattle.grid.proofs.ForCallers.{Each-weaker, Each-both, Each-of_flat_map, count_by-any, has_first}
use Rattle.mesh_types.proofs.ForCallers.{Each-left, Among, among-all, among-Each, is_among, among-filter, among-flat, any_among, has-among, found, Each-filter, Each-passed, Each-in_order_once, is_among-in_order_once, equal_from, equal_to}
use Rattle.cutting_rule.specs.Edges.{IsSplitEdge}
use Rattle.cutting_rule.specs.Until.{until}
use Rattle.cutting_rule.proofs.ForCallers.{wanted-split, until-well_formed, all-has}
use Rattle.mesh_store.proofs.ForCallers.{filter-same}
use Rattle.cutter.proofs.ForCallers.{points-kept}
use Rattle.insertion.specs.Lasting.{Lasts, IsLastingFault}
use Rattle.insertion.proofs.LaterCuts.{other-corners}
use Rattle.insertion.proofs.Old.{det-kept}

-- ---- the edges of a tetrahedron
pair-ends : (x : List ℕ) (p q : ℕ) → has x p ≡ true → has x q ≡ true → has_all x (rising (p ∷ q ∷ [])) ≡ true
pair-ends x p q hp hq = elim (cases_Bool (nat_lt q p)) [
  | inl e ↦ rw e (and_from _ _ hq (and_from _ _ hp refl))
  | inr e ↦ rw e (and_from _ _ hp (and_from _ _ hq refl))
]

-- both ends are corners
edges-ends : (x : List ℕ) → Each (λ e. has_all x e ≡ true) (edges x)
edges-ends (a ∷ b ∷ c ∷ d ∷ []) =
    let x = a ∷ b ∷ c ∷ d ∷ [] in
    let ia : has x a ≡ true = has_first a (b ∷ c ∷ d ∷ []) in
    let ib : has x b ≡ true = or_right (nat_eq a b) _ (has_first b (c ∷ d ∷ [])) in
    let ic : has x c ≡ true = or_right (nat_eq a c) _ (or_right (nat_eq b c) _ (has_first c (d ∷ []))) in
    let in_two : has (c ∷ d ∷ []) d ≡ true = or_right (nat_eq c d) _ (has_first d []) in
    let id : has x d ≡ true = or_right (nat_eq a d) _ (or_right (nat_eq b d) _ in_two) in
    let pair = pair-ends x in
    (pair a b ia ib, (pair a c ia ic, (pair a d ia id, (pair b c ib ic, (pair b d ib id, (pair c d ic id, tt))))))
edges-ends x = tt

-- the pair of corners in rising order, whichever stands first
rises : (p q u v : ℕ) → p ≡ u → q ≡ v → u < v → rising (p ∷ q ∷ []) ≡ u ∷ v ∷ []
rises p q u v e f lt = let low : nat_lt q p ≡ false = grind (arith, nat_tests) in rw low (λ j. e j ∷ f j ∷ [])

turned : (p q u v : ℕ) → p ≡ v → q ≡ u → u < v → rising (p ∷ q ∷ []) ≡ u ∷ v ∷ []
turned p q u v e f lt = let low : nat_lt q p ≡ true = grind (arith, nat_tests) in rw low (λ j. f j ∷ e j ∷ [])

-- two corners are the ends of an edge
edge-at : (a b c d u v : ℕ) → u < v → Among (a ∷ b ∷ c ∷ d ∷ []) u → Among (a ∷ b ∷ c ∷ d ∷ []) v
    → Among (edges (a ∷ b ∷ c ∷ d ∷ [])) (u ∷ v ∷ [])
edge-at a b c d u v lt (inl p) (inl q) = absurd (omega (arith, lt, p, q))
edge-at a b c d u v lt (inl p) (inr (inl q)) = inl (rises a b u v p q lt)
edge-at a b c d u v lt (inl p) (inr (inr (inl q))) = inr (inl (rises a c u v p q lt))
edge-at a b c d u v lt (inl p) (inr (inr (inr (inl q)))) = inr (inr (inl (rises a d u v p q lt)))
edge-at a b c d u v lt (inr (inl p)) (inl q) = inl (turned a b u v q p lt)
edge-at a b c d u v lt (inr (inl p)) (inr (inl q)) = absurd (omega (arith, lt, p, q))
edge-at a b c d u v lt (inr (inl p)) (inr (inr (inl q))) = inr (inr (inr (inl (rises b c u v p q lt))))
edge-at a b c d u v lt (inr (inl p)) (inr (inr (inr (inl q)))) = inr (inr (inr (inr (inl (rises b d u v p q lt)))))
edge-at a b c d u v lt (inr (inr (inl p))) (inl q) = inr (inl (turned a c u v q p lt))
edge-at a b c d u v lt (inr (inr (inl p))) (inr (inl q)) = inr (inr (inr (inl (turned b c u v q p lt))))
edge-at a b c d u v lt (inr (inr (inl p))) (inr (inr (inl q))) = absurd (omega (arith, lt, p, q))
edge-at a b c d u v lt (inr (inr (inl p))) (inr (inr (inr (inl q)))) = inr (inr (inr (inr (inr (inl (rises c d u v p q lt))))))
edge-at a b c d u v lt (inr (inr (inr (inl p)))) (inl q) = inr (inr (inl (turned a d u v q p lt)))
edge-at a b c d u v lt (inr (inr (inr (inl p)))) (inr (inl q)) = inr (inr (inr (inr (inl (turned b d u v q p lt)))))
edge-at a b c d u v lt (inr (inr (inr (inl p)))) (inr (inr (inl q))) = inr (inr (inr (inr (inr (inl (turned c d u v q p lt))))))
edge-at a b c d u v lt (inr (inr (inr (inl p)))) (inr (inr (inr (inl q)))) = absurd (omega (arith, lt, p, q))
edge-at a b c d u v lt (inr (inr (inr (inr p)))) q = absurd p
edge-at a b c d u v lt p (inr (inr (inr (inr q)))) = absurd q

edge-among : (n : ℕ) (x : List ℕ) (u v : ℕ) → IsTet n x → u < v
    → has_all x (u ∷ v ∷ []) ≡ true → Among (edges x) (u ∷ v ∷ [])
edge-among n [] u v tet lt h = absurd (omega (arith, tet.four))
edge-among n (a ∷ []) u v tet lt h = absurd (omega (arith, tet.four))
edge-among n (a ∷ b ∷ []) u v tet lt h = absurd (omega (arith, tet.four))
edge-among n (a ∷ b ∷ c ∷ []) u v tet lt h = absurd (omega (arith, tet.four))
edge-among n (a ∷ b ∷ c ∷ d ∷ e ∷ x) u v tet lt h = absurd (omega (arith, tet.four))
edge-among n (a ∷ b ∷ c ∷ d ∷ []) u v tet lt h =
    let x = a ∷ b ∷ c ∷ d ∷ [] in
    let ends = and_parts (has x u) (has x v && true) h in
    edge-at a b c d u v lt (has-among x u ends.0) (has-among x v (and_parts (has x v) true ends.1).0)

-- ---- cuts of edges
-- a tetrahedron is touched where it has both ends of an edge that is cut
touched-any : (points : List Point) (plane : Plane) (x : List ℕ) (es : List (List ℕ)) → Each (IsSplitEdge points plane) es
    → is_touched (map (cut_at points plane) es) x ≡ list_any (has_all x) es
touched-any points plane x [] h = refl
touched-any points plane x (e ∷ es) h = λ j. one e h.0 j || touched-any points plane x es h.1 j
  where
    one : (e : List ℕ) → IsSplitEdge points plane e
        → (has x (cut_at points plane e).u && has x (cut_at points plane e).v) ≡ has_all x e
    one e split =
        subst (λ f. (has x (cut_at points plane f).u && has x (cut_at points plane f).v) ≡ has_all x f) (sym split.is)
        (ap (λ b. has x split.u && b) (sym (and-true (has x split.v))))

-- phase i wants the edge e of the tetrahedron x
abbrev wants : List Point → Tri → ℕ → List ℕ → List ℕ → Bool
wants points t i x e = is_wanted t i (points_of points x) (points_of points e)

-- an element that passes
passing : (P : List ℕ → Type 0) (test : List ℕ → Bool) (xs : List (List ℕ)) → Each P xs → list_any test xs ≡ true
    → (x : List ℕ) × P x × (test x ≡ true)
passing P test xs h e = found P test xs h (count_by-any test test xs e (λ y f. f))

-- a wanted edge of a tetrahedron
some-wanted : (es : List (List ℕ)) → es ≢ [] → (e : List ℕ) × Among es e
some-wanted [] h = absurd (h refl)
some-wanted (e ∷ es) h = (e, inl refl)

module _ (n : Mesh) (t : Tri) (i : ℕ) (tets : All (IsTet (length n.points)) n.tets) where
  touched-is : (x : List ℕ) → is_touched (wanted_cuts n t i) x ≡ list_any (has_all x) (wanted n t i)
  unfolding wanted_cuts
  touched-is x = touched-any n.points (phase_plane t i) x (wanted n t i) (wanted-split n t i tets)

  -- a tetrahedron of the mesh of which an edge is wanted is touched
  wanted-touched : (x : List ℕ) → Among n.tets x → wanted_in n.points t i x ≢ []
      → is_touched (wanted_cuts n t i) x ≡ true
  unfolding wanted wanted_in
  wanted-touched x there some =
      let test = wants n.points t i x in
      let HasEnds : List ℕ → Type 0 = λ f. has_all x f ≡ true in
      let e = some-wanted (filter test (edges x)) some in
      let each = Each-filter HasEnds test (edges x) (edges-ends x) in
      let ends = among-Each HasEnds (filter test (edges x)) e.0 each e.1 in
      let all = flat_map (wanted_in n.points t i) n.tets in
      let once = in_order_once all in
      let there_once : is_among e.0 once ≡ true =
      is_among-in_order_once e.0 all
      ∙ any_among (same_triple e.0) all e.0 (among-flat (wanted_in n.points t i) n.tets x e.0 there e.1)
      (equal_to e.0 e.0 refl) in
      let f = passing (Among once) (same_triple e.0) once (among-all once) there_once in
      touched-is x
      ∙ any_among (has_all x) once f.0 f.1 (ap (has_all x) (sym (equal_from e.0 f.0 f.2)) ∙ ends)

-- an edge that is wanted by a phase after the first, whatever tetrahedron has it
abbrev IsWantedByAll : List Point → Tri → ℕ → List ℕ → Type 0
IsWantedByAll points t i e = (corners : List Point) → is_wanted t (suc i) corners (points_of points e) ≡ true

module _ (n : Mesh) (t : Tri) (i : ℕ) (tets : All (IsTet (length n.points)) n.tets) where
  abbrev IsSplit : List ℕ → Type 0
  IsSplit = IsSplitEdge n.points (phase_plane t (suc i))

  wanted_in-all : (x : List ℕ) → IsTet (length n.points) x
      → Each (IsWantedByAll n.points t i) (wanted_in n.points t (suc i) x)
  unfolding wanted_in
  wanted_in-all x tet =
      let test = wants n.points t (suc i) x in
      Each-weaker (λ e. test e ≡ true) (IsWantedByAll n.points t i)
      (λ e h corners. other-corners t i (points_of n.points x) corners (points_of n.points e) h)
      (filter test (edges x)) (Each-passed test (edges x))

  wanted-all : Each (IsWantedByAll n.points t i) (wanted n t (suc i))
  unfolding wanted
  wanted-all =
      let want = wanted_in n.points t (suc i) in
      Each-in_order_once (IsWantedByAll n.points t i) (flat_map want n.tets)
      (Each-of_flat_map (IsTet (length n.points)) (IsWantedByAll n.points t i) want wanted_in-all n.tets
      (recursion_from_All (IsTet (length n.points)) n.tets tets))

  -- a phase after the first touches no tetrahedron of which it wants no edge
  unwanted-untouched : (x : List ℕ) → IsTet (length n.points) x → wanted_in n.points t (suc i) x ≡ []
      → is_touched (wanted_cuts n t (suc i)) x ≡ false
  unfolding wanted_in
  unwanted-untouched x tet none = false_from_ne_true (is_touched (wanted_cuts n t (suc i)) x) (λ touched.
      let es = wanted n t (suc i) in
      let each = Each-both IsSplit (IsWantedByAll n.points t i) es (wanted-split n t (suc i) tets) wanted-all in
      let e = passing (λ f. IsSplit f × IsWantedByAll n.points t i f) (has_all x) es each
      (sym (touched-is n t (suc i) tets x) ∙ touched) in
      let split = e.1.0 in
      let ends = subst (λ f. has_all x f ≡ true) split.is e.2 in
      let pair = edge-among (length n.points) x split.u split.v tet split.rises ends in
      let among = subst (Among (edges x)) (sym split.is) pair in
      let passed = e.1.1 (points_of n.points x) in
      subst (λ es. Among es e.0) none (among-filter (wants n.points t (suc i) x) (edges x) e.0 among passed))

-- ---- more points
module _ (old new : List Point) (kept : take (length old) new ≡ old)
    (x : List ℕ) (tet : IsTet (length old) x) where
  points-same : points_of new x ≡ points_of old x
  points-same = points-kept old new kept x (recursion_from_All (λ u. u < length old) x tet.in_range)

  det-same : det_at new x ≡ det_at old x
  det-same = det-kept old new x kept (recursion_from_All (λ u. u < length old) x tet.in_range)

  ends-low : (e : List ℕ) → has_all x e ≡ true → Each (λ u. u < length old) e
  ends-low [] h = tt
  ends-low (c ∷ e) h =
      let ends = and_parts (has x c) (has_all x e) h in
      (all-has (λ u. u < length old) x c tet.in_range ends.0, ends-low e ends.1)

  wanted-same : (t : Tri) (i : ℕ) → wanted_in new t i x ≡ wanted_in old t i x
  unfolding wanted_in
  wanted-same t i =
      let was = wants old t i x in
      let now = wants new t i x in
      filter-same now was (edges x)
      (Each-weaker (λ e. has_all x e ≡ true) (λ e. now e ≡ was e)
      (λ e h j. is_wanted t i (points-same j) (points-kept old new kept e (ends-low e h) j))
      (edges x) (edges-ends x))

-- ---- one phase
-- phase i or a later one wants an edge of the tetrahedron
record IsCutFrom (points : List Point) (t : Tri) (i : ℕ) (x : List ℕ) : Type 0 where
  number : ℕ
  least : i ≤ number
  most : number ≤ 3
  wanted : wanted_in points t number x ≢ []

abbrev IsPositiveOrCut : List Point → Tri → ℕ → List ℕ → Type 0
IsPositiveOrCut points t i x = IsPositive points x ⊎ IsCutFrom points t i x

-- a tetrahedron that is not positive and lasts from phase i on, named by its points: the first in the list
record NamesFrom (n : Mesh) (t : Tri) (i : ℕ) (named : List Point) : Type 0 where
  before : List (List ℕ)
  simplex : List ℕ
  after : List (List ℕ)
  list : n.tets ≡ before ++ simplex ∷ after
  earlier : Each (IsPositiveOrCut n.points t i) before
  fault : ¬ IsPositive n.points simplex
  lasts : (j : ℕ) → i ≤ j → j ≤ 3 → wanted_in n.points t j simplex ≡ []
  corners : named ≡ points_of n.points simplex

phase-points : (n : Mesh) (t : Tri) (i : ℕ) → take (length n.points) (phase n t i).points ≡ n.points
unfolding refine
phase-points n t i = take-append_seam n.points (map (λ (e : Cut). e.at) (wanted_cuts n t i))

-- the phase leaves the tetrahedron
abbrev is_left : Mesh → Tri → ℕ → List ℕ → Bool
is_left n t i x = not (is_touched (wanted_cuts n t i) x)

phase-tets : (n : Mesh) (t : Tri) (i : ℕ)
    → (phase n t i).tets ≡ filter (is_left n t i) n.tets ++ new_pieces n (wanted_cuts n t i)
unfolding refine
phase-tets n t i = refl

Each-middle : {X : Type 0} (P : X → Type 0) (xs : List X) (y : X) (ys : List X) → Each P (xs ++ y ∷ ys) → P y
Each-middle P [] y ys h = h.0
Each-middle P (x ∷ xs) y ys h = Each-middle P xs y ys h.1

filter-middle : (p : List ℕ → Bool) (xs : List (List ℕ)) (y : List ℕ) (ys zs : List (List ℕ)) → p y ≡ true
    → filter p (xs ++ y ∷ ys) ++ zs ≡ filter p xs ++ y ∷ (filter p ys ++ zs)
filter-middle p xs y ys zs e =
    ap (λ ws. ws ++ zs) (filter-append p xs (y ∷ ys) ∙ ap (λ ws. filter p xs ++ ws) kept)
    ∙ append_assoc (filter p xs) (y ∷ filter p ys) zs
  where
    kept : filter p (y ∷ ys) ≡ y ∷ filter p ys
    kept = rw e refl

module _ (n : Mesh) (t : Tri) (i : ℕ) (tets : All (IsTet (length n.points)) n.tets) where
  abbrev after_phase : Mesh
  after_phase = phase n t (suc i)

  abbrev IsOfMesh : List ℕ → Type 0
  IsOfMesh x = IsTet (length n.points) x × Among n.tets x

  of_mesh : Each IsOfMesh n.tets
  of_mesh =
      Each-both (IsTet (length n.points)) (Among n.tets) n.tets
      (recursion_from_All (IsTet (length n.points)) n.tets tets) (among-all n.tets)

  kept_points : take (length n.points) after_phase.points ≡ n.points
  kept_points = phase-points n t (suc i)

  -- the tetrahedron is as before
  det-after : (x : List ℕ) → IsTet (length n.points) x → det_at after_phase.points x ≡ det_at n.points x
  det-after x tet = det-same n.points after_phase.points kept_points x tet

  wanted-after : (x : List ℕ) → IsTet (length n.points) x → (j : ℕ)
      → wanted_in after_phase.points t j x ≡ wanted_in n.points t j x
  wanted-after x tet j = wanted-same n.points after_phase.points kept_points x tet t j

  abbrev IsOpen : List ℕ → Type 0
  IsOpen x = IsOfMesh x × IsPositiveOrCut n.points t (suc i) x

  -- one that phase suc i leaves is positive, or a later phase wants an edge of it
  still : (x : List ℕ) → IsOpen x → is_left n t (suc i) x ≡ true
      → IsPositiveOrCut after_phase.points t (suc (suc i)) x
  still x ((tet, there), inl positive) left = inl (subst (λ z. pos 0 <ℤ z) (sym (det-after x tet)) positive)
  still x ((tet, there), inr cut) left =
      let cases : (cut.number ≡ suc i) ⊎ (suc (suc i) ≤ cut.number) = grind (arith, cut.least) in
      elim cases [
        | inl e ↦
            let here = subst (λ j. wanted_in n.points t j x ≢ []) e cut.wanted in
            absurd (true≢false (sym left ∙ ap not (wanted-touched n t (suc i) tets x there here)))
        | inr later ↦ inr (record {
          number = cut.number;
          least = later;
          most = cut.most;
          wanted = subst (λ es. es ≢ []) (sym (wanted-after x tet cut.number)) cut.wanted;
        })
      ]

  next : (named : List Point) → suc i ≤ 3 → NamesFrom n t (suc i) named
      → NamesFrom after_phase t (suc (suc i)) named
  next named le r =
      let keep = is_left n t (suc i) in
      let pieces = new_pieces n (wanted_cuts n t (suc i)) in
      let all : Each IsOfMesh (r.before ++ r.simplex ∷ r.after) = subst (Each IsOfMesh) r.list of_mesh in
      let tet = (Each-middle IsOfMesh r.before r.simplex r.after all).0 in
      let none = r.lasts (suc i) (omega arith) le in
      let left : keep r.simplex ≡ true = ap not (unwanted-untouched n t i tets r.simplex tet none) in
      let open_before = Each-both IsOfMesh (IsPositiveOrCut n.points t (suc i)) r.before
      (Each-left IsOfMesh r.before (r.simplex ∷ r.after) all) r.earlier in
      let open_left = Each-both IsOpen (λ x. keep x ≡ true) (filter keep r.before)
      (Each-filter IsOpen keep r.before open_before) (Each-passed keep r.before) in
      record {
        before = filter keep r.before;
        simplex = r.simplex;
        after = filter keep r.after ++ pieces;
        list = phase-tets n t (suc i)
            ∙ (ap (λ xs. filter keep xs ++ pieces) r.list ∙ filter-middle keep r.before r.simplex r.after pieces left);
        earlier = Each-weaker (λ x. IsOpen x × (keep x ≡ true)) (IsPositiveOrCut after_phase.points t (suc (suc i)))
            (λ x h. still x h.0 h.1) (filter keep r.before) open_left;
        fault = λ positive. r.fault (subst (λ z. pos 0 <ℤ z) (det-after r.simplex tet) positive);
        lasts = λ j from most. wanted-after r.simplex tet j ∙ r.lasts j (omega (arith, from)) most;
        corners = r.corners ∙ sym (points-same n.points after_phase.points kept_points r.simplex tet);
      }

-- ---- all phases after the first
some-or_none : (es : List (List ℕ)) → (es ≡ []) ⊎ (es ≢ [])
some-or_none [] = inl refl
some-or_none (e ∷ es) = inr (λ h. cc h)

positive-or_not : (z : ℤ) → (pos 0 <ℤ z) ⊎ (¬ (pos 0 <ℤ z))
positive-or_not z =
    let cases : (pos 0 <ℤ z) ⊎ (z ≤ℤ pos 0) = grind arith in
    elim cases [ inl above ↦ inl above | inr at_most ↦ inr (λ above. clash_ℤ above at_most) ]

-- no phase after the first wants an edge of the tetrahedron, or one does
lasts-or_cut : (points : List Point) (t : Tri) (x : List ℕ) → Lasts points t x ⊎ IsCutFrom points t 1 x
lasts-or_cut points t x = elim (some-or_none (wanted_in points t 1 x)) [
  | inr some ↦ inr (record { number = 1; least = omega arith; most = omega arith; wanted = some })
  | inl first ↦ elim (some-or_none (wanted_in points t 2 x)) [
    | inr some ↦ inr (record { number = 2; least = omega arith; most = omega arith; wanted = some })
    | inl second ↦ elim (some-or_none (wanted_in points t 3 x)) [
      | inr some ↦ inr (record { number = 3; least = omega arith; most = omega arith; wanted = some })
      | inl third ↦ inl (at first second third)
    ]
  ]
]
  where
    at : wanted_in points t 1 x ≡ [] → wanted_in points t 2 x ≡ [] → wanted_in points t 3 x ≡ [] → Lasts points t x
    at first second third zero least most = absurd (omega (arith, least))
    at first second third (suc zero) least most = first
    at first second third (suc (suc zero)) least most = second
    at first second third (suc (suc (suc zero))) least most = third
    at first second third (suc (suc (suc (suc i)))) least most = absurd (omega (arith, most))

from-first : (n : Mesh) (t : Tri) (named : List Point) → NamesFirst n.points (IsLastingFault n.points t) n.tets named → NamesFrom n t 1 named
from-first n t named r = record {
  before = r.before;
  simplex = r.simplex;
  after = r.after;
  list = r.list;
  earlier = Each-weaker (λ x. ¬ IsLastingFault n.points t x) (IsPositiveOrCut n.points t 1) cases r.before (recursion_from_All (λ x. ¬ IsLastingFault n.points t x) r.before r.earlier);
  fault = r.fault.0;
  lasts = r.fault.1;
  corners = r.corners;
}
  where
    cases : (x : List ℕ) → ¬ IsLastingFault n.points t x → IsPositiveOrCut n.points t 1 x
    cases x no_fault = elim (positive-or_not (det_at n.points x)) [
      | inl positive ↦ inl positive
      | inr not_positive ↦ elim (lasts-or_cut n.points t x) [
        | inl lasts ↦ absurd (no_fault (not_positive, lasts))
        | inr cut ↦ inr cut
      ]
    ]

after-last : (n : Mesh) (t : Tri) (named : List Point) → NamesFrom n t 4 named
    → NamesFirst n.points (λ x. ¬ IsPositive n.points x) n.tets named
after-last n t named r = record {
  before = r.before;
  simplex = r.simplex;
  after = r.after;
  list = r.list;
  earlier = All-from_recursion (λ x. ¬ ¬ IsPositive n.points x) r.before
      (Each-weaker (IsPositiveOrCut n.points t 4) (λ x. ¬ ¬ IsPositive n.points x) cases r.before r.earlier);
  fault = r.fault;
  corners = r.corners;
}
  where
    cases : (x : List ℕ) → IsPositiveOrCut n.points t 4 x → ¬ ¬ IsPositive n.points x
    cases x (inl positive) fails = fails positive
    cases x (inr cut) fails = absurd (omega (arith, cut.least, cut.most))

-- the first that is not positive and lasts after the first phase is the first of the cut mesh not positive
pub lasting-first : (m : Mesh) (t : Tri) (named : List Point) → IsWellFormed m
    → NamesFirst (until m t 1).points (IsLastingFault (until m t 1).points t) (until m t 1).tets named
    → NamesFirst (until m t 4).points (λ x. ¬ IsPositive (until m t 4).points x) (until m t 4).tets named
lasting-first m t named w h =
    let tets = λ (i : ℕ). (until-well_formed m t i w).tets_are in
    let second = next (until m t 1) t 0 (tets 1) named (omega arith) (from-first (until m t 1) t named h) in
    let third = next (until m t 2) t 1 (tets 2) named (omega arith) second in
    after-last (until m t 4) t named (next (until m t 3) t 2 (tets 3) named (omega arith) third)

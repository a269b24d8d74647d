-- What is told of an insertion before its first phase, by the pieces of that phase.
use Rattle.std.proofs.Common.{◌≡◌, ◌∙◌, ℕ, ◌+◌, ◌*◌, ◌<◌, ◌≤◌, Bool, true, not, pos, ◌<ℤ◌, ◌&&◌, List, [], ◌∷◌, ◌++◌, length, map, All, sym, ap, subst, inl, inr, arith, length-append}
use Rattle.std.specs.List.{filter, list_all, AllByRecursion as Each}
use Rattle.std.proofs.lemmas.Bool.{cases_Bool, true≢false}
use Rattle.std.proofs.lemmas.List.{append_assoc, length-map}
use Rattle.std.proofs.lemmas.List.Elements.{All-from_recursion, recursion_from_All, filter-append}
use Rattle.std.proofs.lemmas.List.Sums.{length-filter, count_by-le-length}
use Rattle.std.proofs.Math.Seq.{take-append_seam}
use Rattle.grid.specs.declared.shapes.Point.{Point}
use Rattle.grid.specs.declared.shapes.Tri.{Tri}
use Rattle.grid.specs.Boxes.{IsInBox}
use Rattle.grid.specs.declared.shapes.Tet.{Tet}
use Rattle.grid.specs.Determinants.{det_at, origin, IsPositive}
use Rattle.grid.specs.Views.{corners_of}
use Rattle.grid.specs.Limits.{most_made, most_points}
use Rattle.grid.specs.Meshes.{Mesh, IsWellFormed}
use Rattle.grid.specs.Simplices.{IsTet}
use Rattle.mesh_types.specs.declared.cut.Cut.{Cut}
use Rattle.mesh_types.specs.CuttingRule.{lies_on, section_plane}
use Rattle.mesh_types.specs.Insertion.{NamesFirst}
use Rattle.mesh_types.specs.Phases.{points_of, wanted_cuts}
use Rattle.mesh_types.specs.Refines.{is_touched, new_pieces, refine}
use Rattle.tet_slots.specs.Searches.{numbers_of}
use Rattle.mesh_store.specs.Parts.{Parts, live_tets, mesh_in}
use Rattle.cutting_rule.specs.Bounds.{is_met}
use Rattle.cutting_rule.specs.Touching.{touches, IsReach}
use Rattle.grid.proofs.ForCallers.{Each-weaker, Each-both, Each-append, Each-tet}
use Rattle.mesh_types.proofs.ForCallers.{Each-filter, Each-map, Each-right}
use Rattle.cutting_rule.proofs.ForCallers.{until-well_formed, wanted_cuts-in}
use Rattle.cutter.specs.declared.touching.Touching.{Touching}
use Rattle.cutter.specs.Found.{AreTouching, is_touching, touched_at}
use Rattle.cutter.proofs.ForCallers.{points-kept}
use Rattle.insertion.specs.Lasting.{IsLastingFault, EndsInverted, points_with}
use Rattle.insertion.proofs.LastingFaults.{lasting-first}
use Rattle.insertion.proofs.LaterCuts.{HasCornerOff, is_near, near_tets}
use Rattle.insertion.proofs.NearTets.{near-count, near-off_all, signs-off_all, HasSignOff, HasPointSignOff}
use Rattle.insertion.proofs.Old.{det-kept}
use Rattle.insertion.proofs.Room.{room-kept}

-- ---- those that pass
if-passed : (P : List ℕ → Type 0) (test : List ℕ → Bool) (xs : List (List ℕ)) → Each P (filter test xs) → Each (λ x. test x ≡ true → P x) xs
if-passed P test [] h = tt
if-passed P test (x ∷ xs) h = elim (cases_Bool (test x)) [
  | inl e ↦ let k : Each P (x ∷ filter test xs) = rw e at h in (λ f. k.0, if-passed P test xs k.1)
  | inr e ↦ (λ f. absurd (true≢false (sym f ∙ e)), if-passed P test xs (rw e at h))
]

passed-if : (P : List ℕ → Type 0) (test : List ℕ → Bool) (xs : List (List ℕ)) → Each (λ x. test x ≡ true → P x) xs → Each P (filter test xs)
passed-if P test [] h = tt
passed-if P test (x ∷ xs) h = elim (cases_Bool (test x)) [
  | inl e ↦ rw e (h.0 e, passed-if P test xs h.1)
  | inr e ↦ rw e (passed-if P test xs h.1)
]

-- no more of those that are left pass than passed before
fewer-left : (before after left : List ℕ → Bool) (xs : List (List ℕ)) → Each (λ x. after x ≡ before x) xs → length (filter after (filter left xs)) ≤ length (filter before xs)
fewer-left before after left [] h = omega arith
fewer-left before after left (x ∷ xs) h =
    let rest = fewer-left before after left xs h.1 in
    elim (cases_Bool (left x)) [
      | inl e ↦ elim (cases_Bool (before x)) [
        | inl f ↦ let g : after x ≡ true = h.0 ∙ f in rw (e, f, g) (omega (arith, rest))
        | inr f ↦ let g = h.0 ∙ f in rw (e, f, g) rest
      ]
      | inr e ↦ elim (cases_Bool (before x)) [
        | inl f ↦ rw (e, f) (omega (arith, rest))
        | inr f ↦ rw (e, f) rest
      ]
    ]

-- ---- before the first phase
module _ (m : Mesh) (t : Tri) (lo hi : Point) (w : IsWellFormed m) where
  abbrev es : List Cut
  es = wanted_cuts m t 0

  abbrev new : List Point
  new = points_with m.points es

  abbrev pieces : List (List ℕ)
  pieces = new_pieces m es

  abbrev left : List (List ℕ)
  left = filter (λ x. not (is_touched es x)) m.tets

  kept : (x : List ℕ) → IsTet (length m.points) x → points_of new x ≡ points_of m.points x
  kept x tet = points-kept m.points new (take-append_seam m.points (map (λ (e : Cut). e.at) es)) x (recursion_from_All (λ u. u < length m.points) x tet.in_range)

  det-same : (x : List ℕ) → IsTet (length m.points) x → det_at new x ≡ det_at m.points x
  det-same x tet = det-kept m.points new x (take-append_seam m.points (map (λ (e : Cut). e.at) es)) (recursion_from_All (λ u. u < length m.points) x tet.in_range)

  tets : Each (IsTet (length m.points)) m.tets
  tets = recursion_from_All (IsTet (length m.points)) m.tets w.tets_are

  -- those that are not touched stay as near as they were, and as far off the plane
  near-same : Each (λ x. is_near new t lo hi x ≡ is_near m.points t lo hi x) m.tets
  near-same =
      Each-weaker (IsTet (length m.points)) (λ x. is_near new t lo hi x ≡ is_near m.points t lo hi x)
      (λ x tet. ap (λ ps. is_met lo hi ps && touches t ps) (kept x tet)) m.tets tets

  few : length (near_tets new t lo hi (left ++ pieces)) ≤ length (near_tets m.points t lo hi m.tets) + length pieces
  few =
      let after = is_near new t lo hi in
      let old = fewer-left (is_near m.points t lo hi) after (λ x. not (is_touched es x)) m.tets near-same in
      let parted = ap length (filter-append after left pieces) in
      let joined = length-append (filter after left) (filter after pieces) in
      let passed = length-filter after pieces in
      let fewer = count_by-le-length after pieces in
      omega (arith, old, parted, joined, passed, fewer)

  abbrev IsOffAfter : List ℕ → Type 0
  IsOffAfter x = is_near new t lo hi x ≡ true → HasCornerOff new t x

  off-after : All (HasCornerOff m.points t) (near_tets m.points t lo hi m.tets) → All (HasCornerOff new t) pieces → All (HasCornerOff new t) (near_tets new t lo hi (left ++ pieces))
  off-after olds news =
      let before : Each (λ x. is_near m.points t lo hi x ≡ true → HasCornerOff m.points t x) m.tets =
      if-passed (HasCornerOff m.points t) (is_near m.points t lo hi) m.tets (recursion_from_All (HasCornerOff m.points t) (near_tets m.points t lo hi m.tets) olds) in
      All-from_recursion (HasCornerOff new t) (near_tets new t lo hi (left ++ pieces))
      (passed-if (HasCornerOff new t) (is_near new t lo hi) (left ++ pieces)
      (Each-append IsOffAfter left pieces
      (Each-filter IsOffAfter (λ x. not (is_touched es x)) m.tets
      (Each-weaker (λ x. IsTet (length m.points) x × (is_near m.points t lo hi x ≡ true → HasCornerOff m.points t x)) IsOffAfter
      (λ x h near. ap (λ ps. list_all (lies_on (section_plane t)) ps) (kept x h.0) ∙ h.1 (sym (ap (λ ps. is_met lo hi ps && touches t ps) (kept x h.0)) ∙ near)) m.tets
      (Each-both (IsTet (length m.points)) (λ x. is_near m.points t lo hi x ≡ true → HasCornerOff m.points t x) m.tets tets before)))
      (Each-weaker (HasCornerOff new t) IsOffAfter (λ x h near. h) pieces (recursion_from_All (HasCornerOff new t) pieces news))))

  -- the first of the pieces is the first of all
  first-after : (named : List Point) → All (IsPositive m.points) m.tets → NamesFirst new (IsLastingFault new t) pieces named → NamesFirst new (IsLastingFault new t) (left ++ pieces) named
  first-after named positive h =
      let fine : Each (λ x. ¬ IsLastingFault new t x) left =
      Each-filter (λ x. ¬ IsLastingFault new t x) (λ x. not (is_touched es x)) m.tets
      (Each-weaker (λ x. IsTet (length m.points) x × IsPositive m.points x) (λ x. ¬ IsLastingFault new t x)
      (λ x k fault. fault.0 (subst (λ z. pos 0 <ℤ z) (sym (det-same x k.0)) k.1)) m.tets
      (Each-both (IsTet (length m.points)) (IsPositive m.points) m.tets tets (recursion_from_All (IsPositive m.points) m.tets positive))) in
      record {
        before = left ++ h.before;
        simplex = h.simplex;
        after = h.after;
        list = ap (λ xs. left ++ xs) h.list ∙ sym (append_assoc left h.before (h.simplex ∷ h.after));
        earlier = All-from_recursion (λ x. ¬ IsLastingFault new t x) (left ++ h.before)
            (Each-append (λ x. ¬ IsLastingFault new t x) left h.before fine (recursion_from_All (λ x. ¬ IsLastingFault new t x) h.before h.earlier));
        fault = h.fault;
        corners = h.corners;
      }

  pub ends-inverted : (named : List Point) → IsReach t lo hi → All (IsPositive m.points) m.tets
      → All (HasCornerOff m.points t) (near_tets m.points t lo hi m.tets) → All (HasCornerOff new t) pieces
      → m.made + length pieces + 84 * (length (near_tets m.points t lo hi m.tets) + length pieces) ≤ most_made
      → length m.points + length es + 126 * (length (near_tets m.points t lo hi m.tets) + length pieces) ≤ most_points
      → NamesFirst new (IsLastingFault new t) pieces named → EndsInverted m t named
  unfolding refine
  ends-inverted named reach positive olds news made points h =
      let count = few in
      let longer = length-append m.points (map (λ (e : Cut). e.at) es) in
      let many = length-map es (λ (e : Cut). e.at) in
      record {
        within = room-kept m t lo hi w reach (off-after olds news) (omega (arith, made, count)) (omega (arith, points, count, longer, many));
        inverted = lasting-first m t named w (first-after named positive h);
      }

  -- ---- the pieces
  pub pieces-tets : All (IsTet (length m.points + length es)) pieces
  unfolding refine
  pieces-tets =
      let after = until-well_formed m t 1 w in
      let many : length new ≡ length m.points + length es = length-append m.points (map (λ (e : Cut). e.at) es) ∙ ap (λ k. length m.points + k) (length-map es (λ (e : Cut). e.at)) in
      subst (λ k. All (IsTet k) pieces) many
      (All-from_recursion (IsTet (length new)) pieces (Each-right (IsTet (length new)) left pieces (recursion_from_All (IsTet (length new)) (left ++ pieces) after.tets_are)))

  pub points-inside : (n : ℕ) → All (IsInBox n) m.points → All (IsInBox n) new
  points-inside n inside =
      All-from_recursion (IsInBox n) new
      (Each-append (IsInBox n) m.points (map (λ (e : Cut). e.at) es) (recursion_from_All (IsInBox n) m.points inside)
      (Each-map (λ (e : Cut). IsInBox n e.at) (IsInBox n) (λ (e : Cut). e.at) (λ e h. h) es
      (recursion_from_All (λ (e : Cut). IsInBox n e.at) es (wanted_cuts-in m t 0 n w.tets_are inside))))

-- ---- in a store
module _ (t : Tri) (parts : Parts) (near : Touching) (w : IsWellFormed (mesh_in parts)) (touching : AreTouching parts.points parts.slots t near) where
  abbrev n : Mesh
  n = mesh_in parts

  abbrev cuts : List Cut
  cuts = wanted_cuts n t 0

  pub foreseen : (named : List Point) → All (IsPositive parts.points) (live_tets parts.slots)
      → All HasSignOff near.slots.items → All (HasPointSignOff (points_with parts.points cuts) t) (new_pieces n cuts)
      → length parts.slots + length (new_pieces n cuts) + 84 * (length near.slots.items + length (new_pieces n cuts)) ≤ most_made
      → length parts.points + length cuts + 126 * (length near.slots.items + length (new_pieces n cuts)) ≤ most_points
      → NamesFirst (points_with parts.points cuts) (IsLastingFault (points_with parts.points cuts) t) (new_pieces n cuts) named → EndsInverted n t named
  foreseen named positive olds news made points h =
      let lo = near.reach.lo in
      let hi = near.reach.hi in
      let ns = numbers_of (is_touching parts.points t lo hi) 0 parts.slots in
      let count : length near.slots.items ≡ length (near_tets parts.points t lo hi (live_tets parts.slots)) =
      ap length touching.found ∙ (length-map ns (touched_at parts.points parts.slots t) ∙ near-count parts.points t lo hi parts.slots) in
      ends-inverted n t lo hi w named touching.reach positive
      (near-off_all parts.points parts.slots t near touching olds)
      (signs-off_all (points_with parts.points cuts) t (new_pieces n cuts) news)
      (omega (arith, made, count)) (omega (arith, points, count)) h

each-corners : (P : List ℕ → Type 0) (ts : List Tet) → Each (λ (x : Tet). P x.0) ts → Each P (corners_of ts)
each-corners P [] h = tt
each-corners P (x ∷ ts) h = (h.0, each-corners P ts h.1)

pub pieces-there : (m : Mesh) (t : Tri) (w : IsWellFormed m) (es : List Cut) (ts : List Tet) → es ≡ wanted_cuts m t 0 → corners_of ts ≡ new_pieces m es → All (λ (x : Tet). IsTet (length m.points + length es) x.0) ts
pieces-there m t w es ts e is =
    let P = IsTet (length m.points + length es) in
    let all : All P (new_pieces m es) = subst (λ (cs : List Cut). All (IsTet (length m.points + length cs)) (new_pieces m cs)) (sym e) (pieces-tets m t origin origin w) in
    All-from_recursion (λ (x : Tet). P x.0) ts (Each-tet P ts (subst (Each P) (sym is) (recursion_from_All P (new_pieces m es) all)))

pub foreseen-tets : (t : Tri) (parts : Parts) (near : Touching) (w : IsWellFormed (mesh_in parts)) (touching : AreTouching parts.points parts.slots t near) (es : List Cut) (ts : List Tet) (named : List Point)
    → es ≡ wanted_cuts (mesh_in parts) t 0 → corners_of ts ≡ new_pieces (mesh_in parts) es → All (IsPositive parts.points) (live_tets parts.slots)
    → All HasSignOff near.slots.items → All (λ (x : Tet). HasPointSignOff (points_with parts.points es) t x.0) ts
    → length parts.slots + length ts + 84 * (length near.slots.items + length ts) ≤ most_made
    → length parts.points + length es + 126 * (length near.slots.items + length ts) ≤ most_points
    → NamesFirst (points_with parts.points es) (IsLastingFault (points_with parts.points es) t) (corners_of ts) named → EndsInverted (mesh_in parts) t named
foreseen-tets t parts near w touching es ts named e is positive olds news made points h =
    let m = mesh_in parts in
    let P = λ (x : List ℕ). HasPointSignOff (points_with parts.points es) t x in
    let many : length (new_pieces m es) ≡ length ts = ap length (sym is) ∙ length-map ts (λ (x : Tet). x.0) in
    let off : All P (new_pieces m es) = subst (All P) is (All-from_recursion P (corners_of ts) (each-corners P ts (recursion_from_All (λ (x : Tet). P x.0) ts news))) in
    let first : NamesFirst (points_with parts.points es) (IsLastingFault (points_with parts.points es) t) (new_pieces m es) named =
    subst (λ (xs : List (List ℕ)). NamesFirst (points_with parts.points es) (IsLastingFault (points_with parts.points es) t) xs named) is h in
    let few : length parts.slots + length (new_pieces m es) + 84 * (length near.slots.items + length (new_pieces m es)) ≤ most_made = omega (arith, made, many) in
    let low : length parts.points + length es + 126 * (length near.slots.items + length (new_pieces m es)) ≤ most_points = omega (arith, points, many) in
    foreseen t parts near w touching named positive olds
    (subst (λ (cs : List Cut). All (HasPointSignOff (points_with parts.points cs) t) (new_pieces m cs)) e off)
    (subst (λ (cs : List Cut). length parts.slots + length (new_pieces m cs) + 84 * (length near.slots.items + length (new_pieces m cs)) ≤ most_made) e few)
    (subst (λ (cs : List Cut). length parts.points + length cs + 126 * (length near.slots.items + length (new_pieces m cs)) ≤ most_points) e low)
    (subst (λ (cs : List Cut). NamesFirst (points_with parts.points cs) (IsLastingFault (points_with parts.points cs) t) (new_pieces m cs) named) e first)

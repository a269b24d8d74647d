-- What an insertion keeps of a mesh, and that its outcome is plain.
use Rattle.std.proofs.Common.{◌≡◌, ◌⊎◌, ℕ, zero, suc, ◌<◌, List, [], ◌∷◌, ◌++◌, map, length, pos, All, refl, sym, ap, ◌∙◌, subst, inl, inr, arith}
use Rattle.std.specs.List.{AllByRecursion as Each}
use Rattle.std.proofs.lemmas.Bool.{cases_lt}
use Rattle.std.proofs.lemmas.Int.{by_lt_z}
use Rattle.std.proofs.lemmas.List.{length-map}
use Rattle.std.proofs.lemmas.List.Elements.{All-from_recursion, recursion_from_All}
use lib.Signed.{clash_ℤ}
use Rattle.grid.specs.declared.shapes.Point.{Point}
use Rattle.grid.specs.declared.shapes.Tri.{Tri}
use Rattle.grid.specs.Boxes.{IsInBox}
use Rattle.grid.specs.Determinants.{IsPositive, det_at}
use Rattle.grid.specs.Envelopes.{triangle_at}
use Rattle.grid.specs.Meshes.{Mesh, IsTriple, IsWellFormed, IsWithinLimits, Tiles}
use Rattle.grid.specs.Simplices.{IsTet}
use Rattle.grid.specs.Limits.{most_points, most_made}
use Rattle.mesh_types.specs.declared.cut.Cut.{Cut}
use Rattle.mesh_types.specs.declared.outcome.Defect.{Defect}
use Rattle.mesh_types.specs.declared.outcome.Defect.TheVariants.{Degenerate, Full, Inverted, Unresolved, Stray, Uncovered}
use Rattle.mesh_types.specs.declared.outcome.Outcome.{Outcome}
use Rattle.mesh_types.specs.declared.outcome.Outcome.TheVariants.{Inserted, RolledBack}
use Rattle.mesh_types.specs.Insertion.{NamesFirst, Has, IsInsertion}
use Rattle.mesh_types.specs.Phases.{points_of, cut_by, section, wanted_cuts}
use Rattle.mesh_types.specs.Refines.{refine}
use Rattle.mesh_types.specs.Tracking.{with_tracked, in_order_once}
use Rattle.mesh_types.specs.Turns.{AreInserted}
use Rattle.grid.proofs.ForCallers.{Each-weaker, Each-append}
use Rattle.mesh_types.proofs.ForCallers.{Each-map, Each-in_order_once, in_order_once-Ordered}
use Rattle.cutting_rule.specs.Until.{until}
use Rattle.cutting_rule.proofs.ForCallers.{wanted_cuts-in, points-in, section-triples, until-well_formed}
use Rattle.insertion.proofs.ForCallers.{tiles-cut}
use Rattle.report_text.specs.Plain.{ArePoints, IsPlainDefect, IsPlainOutcome}

-- a mesh that a run may come to
pub record IsGoodMesh (l : ℕ) (m : Mesh) : Type 0 where
  pub well_formed : IsWellFormed m
  pub tiles : Tiles m l
  pub inside : All (IsInBox l) m.points
  pub within : IsWithinLimits m

-- ---- the phases stay in the box
refine-inside : (m : Mesh) (es : List Cut) (l : ℕ) → All (IsInBox l) m.points → All (λ e. IsInBox l e.at) es → All (IsInBox l) (refine m es).points
unfolding refine
refine-inside m es l h g = All-from_recursion (IsInBox l) (m.points ++ map (λ (e : Cut). e.at) es)
    (Each-append (IsInBox l) m.points (map (λ (e : Cut). e.at) es) (recursion_from_All (IsInBox l) m.points h)
    (Each-map (λ (e : Cut). IsInBox l e.at) (IsInBox l) (λ (e : Cut). e.at) (λ e k. k) es (recursion_from_All (λ (e : Cut). IsInBox l e.at) es g)))

until-inside : (m : Mesh) (t : Tri) (l i : ℕ) → IsWellFormed m → All (IsInBox l) m.points → All (IsInBox l) (until m t i).points
until-inside m t l zero w h = h
until-inside m t l (suc i) w h =
    let before = until-inside m t l i w h in
    let wf = until-well_formed m t i w in
    refine-inside (until m t i) (wanted_cuts (until m t i) t i) l before (wanted_cuts-in (until m t i) t i l wf.tets_are before)

-- ---- more tracked faces
tracked-well_formed : (n : Mesh) (fs : List (List ℕ)) → IsWellFormed n → Each (IsTriple (length n.points)) fs → IsWellFormed (with_tracked n fs)
unfolding with_tracked
tracked-well_formed n fs w h =
    let P = IsTriple (length n.points) in
    record {
      tets_are = w.tets_are;
      triples_are = All-from_recursion P (in_order_once (n.tracked ++ fs)) (Each-in_order_once P (n.tracked ++ fs) (Each-append P n.tracked fs (recursion_from_All P n.tracked w.triples_are) h));
      ordered = in_order_once-Ordered (n.tracked ++ fs);
      made_is = w.made_is;
    }

tracked-inside : (n : Mesh) (fs : List (List ℕ)) (l : ℕ) → All (IsInBox l) n.points → All (IsInBox l) (with_tracked n fs).points
unfolding with_tracked
tracked-inside n fs l h = h

tracked-within : (n : Mesh) (fs : List (List ℕ)) → IsWithinLimits n → IsWithinLimits (with_tracked n fs)
unfolding with_tracked
tracked-within n fs h = record { points_few = h.points_few; made_few = h.made_few }

-- ---- what no defect means
within-from : (n : Mesh) → ¬ ¬ IsWithinLimits n → IsWithinLimits n
within-from n h = record {
  points_few = elim (cases_lt most_points (length n.points)) [
    | inl lt ↦ absurd (h (λ w. let p = w.points_few in absurd (omega (arith, p, lt))))
    | inr le ↦ le
  ];
  made_few = elim (cases_lt most_made n.made) [
    | inl lt ↦ absurd (h (λ w. let p = w.made_few in absurd (omega (arith, p, lt))))
    | inr le ↦ le
  ];
}

-- each is positive, or one is named that is not
all_or_named : (points : List Point) (xs : List (List ℕ)) → Each (IsPositive points) xs ⊎ ((named : List Point) × NamesFirst points (λ x. ¬ IsPositive points x) xs named)
all_or_named points [] = inl tt
all_or_named points (x ∷ xs) = by_lt_z (pos 0) (det_at points x) (λ p. rest p (all_or_named points xs)) (λ no. inr (
  points_of points x,
  record {
    before = [];
    simplex = x;
    after = xs;
    list = refl;
    earlier = All-from_recursion (λ y. ¬ ¬ IsPositive points y) [] tt;
    fault = λ p. clash_ℤ p no;
    corners = refl;
  },
))
  where
    rest : IsPositive points x → Each (IsPositive points) xs ⊎ ((named : List Point) × NamesFirst points (λ y. ¬ IsPositive points y) xs named) → Each (IsPositive points) (x ∷ xs) ⊎ ((named : List Point) × NamesFirst points (λ y. ¬ IsPositive points y) (x ∷ xs) named)
    rest p (inl all) = inl (p, all)
    rest p (inr r) = inr (
      r.0,
      record {
        before = x ∷ r.1.before;
        simplex = r.1.simplex;
        after = r.1.after;
        list = ap (λ ys. x ∷ ys) r.1.list;
        earlier = All-from_recursion (λ y. ¬ ¬ IsPositive points y) (x ∷ r.1.before) ((λ fails. fails p), recursion_from_All (λ y. ¬ ¬ IsPositive points y) r.1.before r.1.earlier);
        fault = r.1.fault;
        corners = r.1.corners;
      },
    )

-- ---- the points that a defect names
middle : (P : List ℕ → Type 0) (before : List (List ℕ)) (x : List ℕ) (after : List (List ℕ)) → Each P (before ++ x ∷ after) → P x
middle P [] x after h = h.0
middle P (b ∷ before) x after h = middle P before x after h.1

-- so many corners, each a point
abbrev IsSimplex : (n k : ℕ) → List ℕ → Type 0
IsSimplex n k x = (length x ≡ k) × All (λ u. u < n) x

named-points : (l k : ℕ) (points : List Point) (Fault : List ℕ → Type 0) (xs : List (List ℕ)) (named : List Point) → All (IsInBox l) points → Each (IsSimplex (length points) k) xs → NamesFirst points Fault xs named → ArePoints l k named
named-points l k points Fault xs named inside each h =
    let simplex = middle (IsSimplex (length points) k) h.before h.simplex h.after (subst (Each (IsSimplex (length points) k)) h.list each) in
    record {
      count_is = ap length h.corners ∙ (length-map h.simplex _ ∙ simplex.0);
      in_box = points-in l points named h.simplex h.corners inside simplex.1;
    }

tets-simplices : (n : Mesh) → IsWellFormed n → Each (IsSimplex (length n.points) 4) n.tets
tets-simplices n w = Each-weaker (IsTet (length n.points)) (IsSimplex (length n.points) 4) (λ x h. (h.four, h.in_range)) n.tets (recursion_from_All (IsTet (length n.points)) n.tets w.tets_are)

triples-simplices : (n : ℕ) (ts : List (List ℕ)) → Each (IsTriple n) ts → Each (IsSimplex n 3) ts
triples-simplices n ts h = Each-weaker (IsTriple n) (IsSimplex n 3) (λ x k. (k.three, k.in_range)) ts h

plain-defect : (triangles : List Tri) (t e l : ℕ) (m n : Mesh) → IsWellFormed n → All (IsInBox l) n.points → (d : Defect) → Has triangles t e m n d → IsPlainDefect l d
plain-defect triangles t e l m n w inside Degenerate h = tt
plain-defect triangles t e l m n w inside Full h = tt
plain-defect triangles t e l m n w inside (Inverted named) h = named-points l 4 n.points _ n.tets named inside (tets-simplices n w) h
plain-defect triangles t e l m n w inside (Unresolved named) h = named-points l 4 n.points _ n.tets named inside (tets-simplices n w) h
plain-defect triangles t e l m n w inside (Stray named) h =
    named-points l 3 n.points _ (section n (triangle_at triangles t)) named inside (triples-simplices (length n.points) (section n (triangle_at triangles t)) (section-triples n (triangle_at triangles t) w.tets_are)) h
plain-defect triangles t e l m n w inside (Uncovered named) h =
    named-points l 3 n.points _ n.tracked named inside (triples-simplices (length n.points) n.tracked (recursion_from_All (IsTriple (length n.points)) n.tracked w.triples_are)) h

-- ---- one insertion
-- the mesh after it, and what is told of it
pub record IsGoodStep (l : ℕ) (after : Mesh) (o : Outcome) : Type 0 where
  pub mesh : IsGoodMesh l after
  pub outcome : IsPlainOutcome l o

cut-good : (m : Mesh) (t : Tri) (l : ℕ) → IsGoodMesh l m → IsWithinLimits (cut_by m t) → All (IsPositive (cut_by m t).points) (cut_by m t).tets → IsGoodMesh l (with_tracked (cut_by m t) (section (cut_by m t) t))
cut-good m t l h within positive =
    let n = cut_by m t in
    let wf : IsWellFormed n = until-well_formed m t 4 h.well_formed in
    record {
      well_formed = tracked-well_formed n (section n t) wf (section-triples n t wf.tets_are);
      tiles = tiles-cut m n t l h.well_formed h.tiles refl positive;
      inside = tracked-inside n (section n t) l (until-inside m t l 4 h.well_formed h.inside);
      within = tracked-within n (section n t) within;
    }

pub insertion-good : (triangles : List Tri) (t e l : ℕ) (m after : Mesh) (o : Outcome) → IsGoodMesh l m → IsInsertion triangles t e m o after → IsGoodStep l after o
insertion-good triangles t e l m after (RolledBack d) h is =
    let tri = triangle_at triangles t in
    record {
      mesh = subst (IsGoodMesh l) (sym is.1) h;
      outcome = plain-defect triangles t e l m (cut_by m tri) (until-well_formed m tri 4 h.well_formed) (until-inside m tri l 4 h.well_formed h.inside) d is.0.holds;
    }
insertion-good triangles t e l m after (Inserted count) h is =
    let tri = triangle_at triangles t in
    let n = cut_by m tri in
    let within : IsWithinLimits n = within-from n (is.0 Full) in
    let few = within.points_few in
    let sum = is.1 in
    record {
      mesh = subst (IsGoodMesh l) (sym is.2) (elim (all_or_named n.points n.tets) [
        | inl all ↦ cut-good m tri l h within (All-from_recursion (IsPositive n.points) n.tets all)
        | inr named ↦ absurd (is.0 (Inverted named.0) named.1)
      ]);
      outcome = omega (arith, few, sum);
    }

-- ---- insertions in turn
pub record AreGoodSteps (l : ℕ) (last : Mesh) (outcomes : List Outcome) : Type 0 where
  pub mesh : IsGoodMesh l last
  pub outcomes_are : Each (IsPlainOutcome l) outcomes

pub insertions-good : (triangles : List Tri) (e l : ℕ) (numbers : List ℕ) (m last : Mesh) (outcomes : List Outcome) → IsGoodMesh l m → AreInserted triangles e numbers m outcomes last → AreGoodSteps l last outcomes
insertions-good triangles e l [] m last [] h is = record { mesh = subst (IsGoodMesh l) (sym is) h; outcomes_are = tt }
insertions-good triangles e l [] m last (o ∷ os) h is = absurd is
insertions-good triangles e l (t ∷ ts) m last [] h is = absurd is
insertions-good triangles e l (t ∷ ts) m last (o ∷ os) h is =
    let step = insertion-good triangles t e l m is.0 o h is.1 in
    let rest = insertions-good triangles e l ts is.0 last os step.mesh is.2 in
    record { mesh = rest.mesh; outcomes_are = (step.outcome, rest.outcomes_are) }

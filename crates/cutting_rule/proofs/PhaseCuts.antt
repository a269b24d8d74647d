-- The cuts of a phase: an ordered list of edges, whose new points lie in the box and on its sides.
use Rattle.std.proofs.Common.{◌≡◌, ◌≢◌, ℕ, ◌+◌, ◌<◌, true, List, [], ◌∷◌, map, length, All, refl, sym, ap, ap₂, ◌∙◌, subst, arith, length-append}
use Rattle.std.specs.List.{flat_map, AllByRecursion as Each}
use Rattle.std.proofs.lemmas.List.{length-map}
use Rattle.std.proofs.lemmas.List.Elements.{All-from_recursion}
use Rattle.grid.specs.declared.shapes.Point.{Point}
use Rattle.grid.specs.declared.shapes.Tri.{Tri}
use Rattle.grid.specs.Boxes.{IsInBox}
use Rattle.grid.specs.Determinants.{point_at, origin}
use Rattle.grid.specs.Meshes.{Mesh, Ordered}
use Rattle.grid.specs.Planes.{Plane}
use Rattle.grid.specs.Simplices.{IsTet}
use Rattle.planes.specs.Crossings.{HaveOppositeSigns}
use Rattle.planes.proofs.ForCallers.{crossing-IsInBox, crossing-IsOn}
use Rattle.mesh_types.specs.declared.cut.Cut.{Cut}
use Rattle.mesh_types.specs.CuttingRule.{splits, phase_plane}
use Rattle.mesh_types.specs.CutLists.{IsCutBelow, AreCuts, ends_of}
use Rattle.mesh_types.specs.Phases.{points_of, cut_at, wanted_in, wanted, wanted_cuts}
use Rattle.mesh_types.specs.Refines.{IsCutOf, refine}
use Rattle.mesh_types.specs.Tracking.{in_order_once}
use Rattle.mesh_types.proofs.ForCallers.{Each-map, in_order_once-Ordered}
use Rattle.cutting_rule.specs.declared.edge.Edge.{Edge}
use Rattle.cutting_rule.specs.Edges.{IsSplitEdge, numbers_of}
use Rattle.cutting_rule.proofs.WantedEdges.{opposite, wanted-each}

module _ (points : List Point) (plane : Plane) where
  -- the ends have values of opposite sign
  pub split-opposite : (e : List ℕ) (h : IsSplitEdge points plane e) → HaveOppositeSigns plane (point_at points h.u) (point_at points h.v)
  split-opposite e h = opposite plane (point_at points h.u) (point_at points h.v) (subst (λ f. splits plane (points_of points f) ≡ true) h.is h.apart)

  cut-is : (e : List ℕ) → IsSplitEdge points plane e → IsCutBelow (length points) (cut_at points plane e)
  cut-is e h = subst (λ f. IsCutBelow (length points) (cut_at points plane f)) (sym h.is) (record { ends_rise = h.rises; in_range = h.in_range })

  cut-ends : (e : List ℕ) → IsSplitEdge points plane e → ends_of (cut_at points plane e) ≡ e
  cut-ends e h = subst (λ f. ends_of (cut_at points plane f) ≡ f) (sym h.is) refl

  cut-in : (n : ℕ) → All (IsInBox n) points → (e : List ℕ) → IsSplitEdge points plane e → IsInBox n (cut_at points plane e).at
  cut-in n all e h =
      let low : h.u < length points = omega (arith, h.rises, h.in_range) in
      subst (λ f. IsInBox n (cut_at points plane f).at) (sym h.is)
      (crossing-IsInBox plane (point_at points h.u) (point_at points h.v) (split-opposite e h) n (all h.u origin low) (all h.v origin h.in_range))

  cut-on : (l : ℕ) (e : List ℕ) → IsSplitEdge points plane e → IsCutOf points l (cut_at points plane e)
  cut-on l e h =
      let low : h.u < length points = omega (arith, h.rises, h.in_range) in
      let differ : h.u ≢ h.v = omega (arith, h.rises) in
      subst (λ f. IsCutOf points l (cut_at points plane f)) (sym h.is)
      (record { ends_differ = differ; first_in = low; second_in = h.in_range; on_sides = λ s a b. crossing-IsOn plane (point_at points h.u) (point_at points h.v) (split-opposite e h) l s a b })

  ends-all : (es : List (List ℕ)) → Each (IsSplitEdge points plane) es → map ends_of (map (cut_at points plane) es) ≡ es
  ends-all [] h = refl
  ends-all (e ∷ es) h = ap₂ ◌∷◌ (cut-ends e h.0) (ends-all es h.1)

  cuts-of : (P : Cut → Type 0) → ((e : List ℕ) → IsSplitEdge points plane e → P (cut_at points plane e)) → (es : List (List ℕ)) → Each (IsSplitEdge points plane) es → All P (map (cut_at points plane) es)
  cuts-of P f es h = All-from_recursion P (map (cut_at points plane) es) (Each-map (IsSplitEdge points plane) P (cut_at points plane) f es h)

-- each edge that a phase wants
pub wanted-split : (m : Mesh) (t : Tri) (i : ℕ) → All (IsTet (length m.points)) m.tets → Each (IsSplitEdge m.points (phase_plane t i)) (wanted m t i)
unfolding wanted
wanted-split m t i h = wanted-each m.points t i m.tets h

wanted-Ordered : (m : Mesh) (t : Tri) (i : ℕ) → Ordered (wanted m t i)
unfolding wanted
wanted-Ordered m t i = in_order_once-Ordered (flat_map (wanted_in m.points t i) m.tets)

pub wanted_cuts-AreCuts : (m : Mesh) (t : Tri) (i : ℕ) → All (IsTet (length m.points)) m.tets → AreCuts (length m.points) (wanted_cuts m t i)
unfolding wanted_cuts
wanted_cuts-AreCuts m t i h =
    let each = wanted-split m t i h in
    record {
      each = cuts-of m.points (phase_plane t i) (IsCutBelow (length m.points)) (cut-is m.points (phase_plane t i)) (wanted m t i) each;
      ordered = subst Ordered (sym (ends-all m.points (phase_plane t i) (wanted m t i) each)) (wanted-Ordered m t i);
    }

pub wanted_cuts-in : (m : Mesh) (t : Tri) (i n : ℕ) → All (IsTet (length m.points)) m.tets → All (IsInBox n) m.points → All (λ e. IsInBox n e.at) (wanted_cuts m t i)
unfolding wanted_cuts
wanted_cuts-in m t i n h all = cuts-of m.points (phase_plane t i) (λ e. IsInBox n e.at) (cut-in m.points (phase_plane t i) n all) (wanted m t i) (wanted-split m t i h)

pub wanted_cuts-on : (m : Mesh) (t : Tri) (i l : ℕ) → All (IsTet (length m.points)) m.tets → All (IsCutOf m.points l) (wanted_cuts m t i)
unfolding wanted_cuts
wanted_cuts-on m t i l h = cuts-of m.points (phase_plane t i) (IsCutOf m.points l) (cut-on m.points (phase_plane t i) l) (wanted m t i) (wanted-split m t i h)

-- ---- edges of the code
each-code : (P : List ℕ → Type 0) (es : List Edge) → Each P (numbers_of es) → Each (λ (e : Edge). P e.0) es
each-code P [] h = tt
each-code P (e ∷ es) h = (h.0, each-code P es h.1)

pub edges-split : (es : List Edge) (points : List Point) (plane : Plane) (m : Mesh) (t : Tri) (i : ℕ) → numbers_of es ≡ wanted m t i → points ≡ m.points → plane ≡ phase_plane t i → All (IsTet (length m.points)) m.tets → All (λ (e : Edge). IsSplitEdge points plane e.0) es
edges-split es points plane m t i e p q h =
    subst (λ ps. All (λ (e : Edge). IsSplitEdge ps plane e.0) es) (sym p)
    (subst (λ pl. All (λ (e : Edge). IsSplitEdge m.points pl e.0) es) (sym q)
    (All-from_recursion (λ (e : Edge). IsSplitEdge m.points (phase_plane t i) e.0) es (each-code (IsSplitEdge m.points (phase_plane t i)) es (subst (Each (IsSplitEdge m.points (phase_plane t i))) (sym e) (wanted-split m t i h)))))

pub edges-wanted : (es before : List Edge) (points : List Point) (tets : List (List ℕ)) (m : Mesh) (s t : Tri) (i : ℕ) → numbers_of es ≡ in_order_once (numbers_of before) → numbers_of before ≡ flat_map (wanted_in points s i) tets → points ≡ m.points → tets ≡ m.tets → s ≡ t → numbers_of es ≡ wanted m t i
unfolding wanted
edges-wanted es before points tets m s t i e f p q r = e ∙ (ap in_order_once f ∙ (λ j. in_order_once (flat_map (wanted_in (p j) (r j) i) (q j))))

pub cuts-wanted : (es : List Edge) (points : List Point) (plane : Plane) (m : Mesh) (t : Tri) (i : ℕ) → numbers_of es ≡ wanted m t i → points ≡ m.points → plane ≡ phase_plane t i → map (cut_at points plane) (numbers_of es) ≡ wanted_cuts m t i
unfolding wanted_cuts
cuts-wanted es points plane m t i e p q = λ j. map (cut_at (p j) (q j)) (e j)

-- a refined mesh has one new point for each cut
pub points-refined : (m n : Mesh) (cuts : List Cut) → n ≡ refine m cuts → length n.points ≡ length m.points + length cuts
unfolding refine
points-refined m n cuts e = ap (λ (x : Mesh). length x.points) e ∙ omega (arith, length-append m.points (map (λ (e : Cut). e.at) cuts), length-map cuts (λ (e : Cut). e.at))

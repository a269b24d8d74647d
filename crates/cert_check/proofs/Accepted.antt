-- What the file of a mesh has of the mesh.
use Rattle.std.proofs.Common.{◌≡◌, ◌↔◌, ℕ, zero, suc, ◌+◌, ◌<◌, ◌≤◌, Bool, true, false, List, [], ◌∷◌, length, map, get_or, cond, refl, ap, sym, subst, ◌∙◌, inl, inr, arith, All, ℤ, pos, ◌+ℤ◌, ◌-ℤ◌, true≢false}
use Rattle.std.specs.Prelude.{filter, slice_index_or, IsTrue, nat_eq, unsigned_abs}
use Rattle.std.specs.List.{enumerate_from, zip, AllByRecursion, Contains}
use Rattle.std.proofs.lemmas.Bool.{or_cases, or_left, or_right}
use Rattle.std.proofs.lemmas.Bool.Decides.{Decides-eqb}
use Rattle.std.proofs.lemmas.List.{length-map, get_or_default}
use Rattle.std.proofs.lemmas.List.Elements.{All-cons, All-nil, All-from_recursion, Contains-append_cases}
use Rattle.std.proofs.Math.ListN.{get_or-map}
use Rattle.grid.proofs.ForCallers.{has-rising}
use Rattle.mesh_types.proofs.ForCallers.{IsWithin, faces_within}
use Rattle.grid.specs.Boxes.{IsInBox}
use Rattle.cert_check.specs.Faults.{IsTagOf, tri_of}
use Rattle.cert_check.specs.Written.{WrittenIsSound}
use Rattle.cert_check.proofs.Facts.{both}
use Rattle.mesh_types.specs.Certificates.{Covers, most_levels, triangle}
use Rattle.face_table.proofs.RotationLemmas.{has3-first, has3-second, has3-third}
use Rattle.std.proofs.lemmas.Int.{ints}
use Rattle.grid.specs.declared.shapes.Point.{Point}
use Rattle.grid.specs.declared.shapes.Face.{Face}
use Rattle.grid.specs.Determinants.{point_at, origin}
use Rattle.grid.specs.Meshes.{Mesh, Tiles}
use Rattle.grid.specs.Regions.{IsOutside}
use Rattle.grid.specs.Simplices.{Rises, has, all_faces, faces, rising}
use Rattle.grid.specs.Views.{triples_of}
use Rattle.msh_text.specs.declared.file_mesh.MshNode.{MshNode}
use Rattle.msh_text.specs.FileMesh.{AreInRange, file_numbers, is_used, node_of, msh_nodes, tet_of, msh_tets, face_of, msh_tracked, msh_of}
use Rattle.cert_check.specs.FileMesh.{file_tets, node_at, node_point, points_from, triangle_at}
use Rattle.cert_check.proofs.Numbers.{points_from-node}
use Rattle.cert_check.proofs.Renumbered.{more, HaveSamePoints, Tiles-more, outside_more, outside_less}

-- ---- points
-- the nodes of the points from number k on that some tetrahedron has
abbrev nodes_from : List (List ℕ) → List ℤ → ℕ → List Point → List MshNode
nodes_from tets shift k points = map (node_of shift) (filter (λ p. is_used tets p.0) (enumerate_from k points))

-- the node of a number stands at some place
record HasNode (nodes : List MshNode) (node : MshNode) : Type 0 where
  place : ℕ
  within : place < length nodes
  is : node_at nodes place ≡ node

later : (nodes : List MshNode) (first node : MshNode) → HasNode nodes node → HasNode (first ∷ nodes) node
later nodes first node h = record { place = suc h.place; within = omega (arith, h.within); is = h.is }

module _ (tets : List (List ℕ)) (shift : List ℤ) where
  -- the first of them, where it is used
  pick : (t : Bool) (k : ℕ) (p : Point) (rest : List (ℕ × Point)) → t ≡ true → HasNode (map (node_of shift) (cond t ((k, p) ∷ rest) rest)) (node_of shift (k, p))
  pick true k p rest e = record { place = 0; within = omega arith; is = refl }
  pick false k p rest e = absurd (true≢false (sym e))

  -- a later one, whether the first is used or not
  skip : (t : Bool) (k : ℕ) (p : Point) (rest : List (ℕ × Point)) (node : MshNode) → HasNode (map (node_of shift) rest) node → HasNode (map (node_of shift) (cond t ((k, p) ∷ rest) rest)) node
  skip true k p rest node h = later (map (node_of shift) rest) (node_of shift (k, p)) node h
  skip false k p rest node h = h

  find_node : (k : ℕ) (points : List Point) (u : ℕ) → u < length points → is_used tets (k + u) ≡ true → HasNode (nodes_from tets shift k points) (node_of shift (k + u, get_or points u origin))
  find_node k [] u lt used = absurd (omega (arith, lt))
  find_node k (p ∷ points) zero lt used =
      let e : k + 0 ≡ k = omega arith in
      subst (λ n. HasNode (nodes_from tets shift k (p ∷ points)) (node_of shift (n, p))) (sym e) (pick (is_used tets k) k p _ (ap (is_used tets) (sym e) ∙ used))
  find_node k (p ∷ points) (suc u) lt used =
      let e : k + suc u ≡ k + 1 + u = omega arith in
      subst (λ n. HasNode (nodes_from tets shift k (p ∷ points)) (node_of shift (n, get_or points u origin))) (sym e)
      (skip (is_used tets k) k p _ _ (find_node (k + 1) points u (omega (arith, lt)) (ap (is_used tets) (sym e) ∙ used)))

back : (shift : List ℤ) (u : ℕ) (p : Point) → node_point shift (node_of shift (u, p)) ≡ p
back shift u p =
    let x : (p.x +ℤ slice_index_or shift 0 (pos 0)) -ℤ slice_index_or shift 0 (pos 0) ≡ p.x = omega (arith, ints) in
    let y : (p.y +ℤ slice_index_or shift 1 (pos 0)) -ℤ slice_index_or shift 1 (pos 0) ≡ p.y = omega (arith, ints) in
    let z : (p.z +ℤ slice_index_or shift 2 (pos 0)) -ℤ slice_index_or shift 2 (pos 0) ≡ p.z = omega (arith, ints) in
    point x y z
  where
    point : {a b c d e f : ℤ} → a ≡ d → b ≡ e → c ≡ f → ◌≡◌ {A = Point} (record { x = a; y = b; z = c }) (record { x = d; y = e; z = f })
    point g h k = cc

-- the points of the file are those of the mesh
pub same_points : (m : Mesh) (shift : List ℤ) → Rises (map (λ (n : MshNode). n.number) (msh_nodes m shift)) → ((u : ℕ) → is_used m.tets u ≡ true → u < length m.points) → HaveSamePoints m.tets (points_from shift 0 (msh_nodes m shift)) m.points
same_points m shift rises in_range u used =
    let n = find_node m.tets shift 0 m.points u (in_range u used) (ap (is_used m.tets) (zero_plus u) ∙ used) in
    let nodes = msh_nodes m shift in
    let at = points_from-node shift nodes rises n.place n.within in
    let number : (node_at nodes n.place).number ≡ u + 1 = ap (λ (node : MshNode). node.number) n.is ∙ ap (λ v. v + 1) (zero_plus u) in
    ap (point_at (points_from shift 0 nodes)) (sym number) ∙ at ∙ ap (node_point shift) n.is ∙ back shift (0 + u) (get_or m.points u origin)
  where
    zero_plus : (u : ℕ) → 0 + u ≡ u
    zero_plus u = omega arith

-- ---- tetrahedra and triangles
pub tets_are : (tets : List (List ℕ)) (outside : List Bool) → length outside ≡ length tets → file_tets (map tet_of (zip tets outside)) ≡ more tets
tets_are [] outside e = refl
tets_are (x ∷ tets) [] e = absurd (omega (arith, e))
tets_are (x ∷ tets) (b ∷ outside) e = ap (λ l. file_numbers x ∷ l) (tets_are tets outside (omega (arith, e)))

pub tracked_are : (tracked : List (List ℕ)) → triples_of (map face_of tracked) ≡ more tracked
tracked_are [] = refl
tracked_are (f ∷ tracked) = ap (λ l. file_numbers f ∷ l) (tracked_are tracked)

-- ---- numbers rise
abbrev numbers : List MshNode → List ℕ
numbers nodes = map (λ node. node.number) nodes

module _ (tets : List (List ℕ)) (shift : List ℤ) where
  above_step : (t : Bool) (j k : ℕ) (p : Point) (rest : List (ℕ × Point)) → j ≤ k → AllByRecursion (λ n. j < n) (numbers (map (node_of shift) rest)) → AllByRecursion (λ n. j < n) (numbers (map (node_of shift) (cond t ((k, p) ∷ rest) rest)))
  above_step true j k p rest le h = (omega (arith, le), h)
  above_step false j k p rest le h = h

  above : (j k : ℕ) (points : List Point) → j ≤ k → AllByRecursion (λ n. j < n) (numbers (nodes_from tets shift k points))
  above j k [] le = tt
  above j k (p ∷ points) le = above_step (is_used tets k) j k p _ le (above j (k + 1) points (omega (arith, le)))

  rise_step : (t : Bool) (k : ℕ) (p : Point) (rest : List (ℕ × Point)) → AllByRecursion (λ n. k + 1 < n) (numbers (map (node_of shift) rest)) → Rises (numbers (map (node_of shift) rest)) → Rises (numbers (map (node_of shift) (cond t ((k, p) ∷ rest) rest)))
  rise_step true k p rest h r = (h, r)
  rise_step false k p rest h r = r

  numbers_rise : (k : ℕ) (points : List Point) → Rises (numbers (nodes_from tets shift k points))
  numbers_rise k [] = tt
  numbers_rise k (p ∷ points) = rise_step (is_used tets k) k p _ (above (k + 1) (k + 1) points (omega arith)) (numbers_rise (k + 1) points)

  -- ---- nodes lie in the box
  in_step : (l : ℕ) (t : Bool) (k : ℕ) (p : Point) (rest : List (ℕ × Point)) → IsInBox l p → All (λ node. IsInBox l (node_point shift node)) (map (node_of shift) rest) → All (λ node. IsInBox l (node_point shift node)) (map (node_of shift) (cond t ((k, p) ∷ rest) rest))
  in_step l true k p rest h r = All-cons (λ node. IsInBox l (node_point shift node)) (node_of shift (k, p)) (map (node_of shift) rest) (subst (IsInBox l) (sym (back shift k p)) h) r
  in_step l false k p rest h r = r

  nodes_in : (l k : ℕ) (points : List Point) → All (IsInBox l) points → All (λ node. IsInBox l (node_point shift node)) (nodes_from tets shift k points)
  nodes_in l k [] h = All-nil (λ node. IsInBox l (node_point shift node))
  nodes_in l k (p ∷ points) h = in_step l (is_used tets k) k p _ (h 0 origin (omega arith)) (nodes_in l (k + 1) points (λ i d lt. h (suc i) d (omega (arith, lt))))

-- ---- corners are points
corner_in : (n : ℕ) (x : List ℕ) (u : ℕ) → All (λ c. c < n) x → has x u ≡ true → u < n
corner_in n [] u h e = absurd (true≢false (sym e))
corner_in n (a ∷ x) u h e = elim (or_cases (nat_eq a u) (has x u) e) [
  | inl same ↦ let is = (Decides-eqb a u).0 same in let lt = h 0 0 (omega arith) in omega (arith, is, lt)
  | inr other ↦ corner_in n x u (λ i d lt. h (suc i) d (omega (arith, lt))) other
]

used_in : (n : ℕ) (tets : List (List ℕ)) (u : ℕ) → AreInRange n tets → is_used tets u ≡ true → u < n
used_in n [] u h e = absurd (true≢false (sym e))
used_in n (x ∷ tets) u h e = elim (or_cases (has x u) (is_used tets u) e) [
  | inl first ↦ corner_in n x u (h 0 [] (omega arith)) first
  | inr other ↦ used_in n tets u (λ i d lt. h (suc i) d (omega (arith, lt))) other
]

-- ---- tags
module _ (tets tracked : List (List ℕ)) where
  tag_is : (x : List ℕ) (b : Bool) → IsTrue b ↔ IsOutside tets tracked x → IsTagOf (more tets) (more tracked) (tet_of (x, b))
  tag_is x true h = record { outside = λ o. refl; kept = λ n. absurd (n (outside_more tets tracked x (h.0 refl))) }
  tag_is x false h = record { outside = λ o. absurd (true≢false (sym (h.1 (outside_less tets tracked x o)))); kept = λ n. refl }

  tags_are : (xs : List (List ℕ)) (bs : List Bool) → length bs ≡ length xs → ((i : ℕ) → i < length xs → IsTrue (slice_index_or bs i true) ↔ IsOutside tets tracked (slice_index_or xs i [])) → All (IsTagOf (more tets) (more tracked)) (map tet_of (zip xs bs))
  tags_are [] bs e h = All-nil (IsTagOf (more tets) (more tracked))
  tags_are (x ∷ xs) [] e h = absurd (omega (arith, e))
  tags_are (x ∷ xs) (b ∷ bs) e h = All-cons (IsTagOf (more tets) (more tracked)) (tet_of (x, b)) (map tet_of (zip xs bs)) (tag_is x b (h 0 (omega arith))) (tags_are xs bs (omega (arith, e)) (λ i lt. h (suc i) (omega (arith, lt))))

-- ---- tracked faces
face_used : (tets : List (List ℕ)) (f : List ℕ) (u : ℕ) → Contains (all_faces tets) f → has f u ≡ true → is_used tets u ≡ true
face_used [] f u h e = absurd (omega (arith, h.1))
face_used (x ∷ tets) f u h e = elim (Contains-append_cases (faces x) (all_faces tets) f h) [
  | inl first ↦ or_left (has x u) (is_used tets u) (subst (λ g. has g u ≡ true → has x u ≡ true) first.2 (All-from_recursion (λ g. IsWithin g x) (faces x) (faces_within x) first.0 f first.1 u) e)
  | inr other ↦ or_right (has x u) (is_used tets u) (face_used tets f u other e)
]

triple_used : (tets : List (List ℕ)) (t : List ℕ) (u : ℕ) → Contains (map rising (all_faces tets)) t → has t u ≡ true → is_used tets u ≡ true
triple_used tets t u h e =
    let fs = all_faces tets in
    let lt : h.0 < length fs = omega (arith, h.1, length-map fs rising) in
    let f = get_or fs h.0 [] in
    let is : rising f ≡ t = sym (get_or-map rising fs h.0 []) ∙ get_or_default (map rising fs) h.0 (rising []) t h.1 ∙ h.2 in
    face_used tets f u (h.0, lt, get_or_default fs h.0 f [] lt) (sym (has-rising f u) ∙ ap (λ g. has g u) is ∙ e)

-- ---- the whole
tri_same : (given points : List Point) (t : List ℕ) → length t ≡ 3 → ((u : ℕ) → has t u ≡ true → point_at given (u + 1) ≡ point_at points u) → tri_of points t ≡ tri_of given (file_numbers t)
tri_same given points [] e h = absurd (omega (arith, e))
tri_same given points (a ∷ []) e h = absurd (omega (arith, e))
tri_same given points (a ∷ b ∷ []) e h = absurd (omega (arith, e))
tri_same given points (a ∷ b ∷ c ∷ []) e h =
    let at_a = h a (has3-first a b c) in
    let at_b = h b (has3-second a b c) in
    let at_c = h c (has3-third a b c) in
    ap (λ p. triangle p (point_at points b) (point_at points c)) (sym at_a) ∙ ap (λ p. triangle (point_at given (a + 1)) p (point_at points c)) (sym at_b) ∙ ap (λ p. triangle (point_at given (a + 1)) (point_at given (b + 1)) p) (sym at_c)
tri_same given points (a ∷ b ∷ c ∷ d ∷ t) e h = absurd (omega (arith, e))

pub written_is_sound : WrittenIsSound
unfolding msh_of
written_is_sound soup m outside d report digits h =
    let l = unsigned_abs soup.side in
    let nodes = msh_nodes m soup.shift in
    let given = points_from soup.shift 0 nodes in
    let made = length (msh_tets m outside) in
    let same = same_points m soup.shift (numbers_rise m.tets soup.shift 0 m.points) (λ u e. used_in (length m.points) m.tets u h.in_range e) in
    let tets = tets_are m.tets outside h.regions.one_each in
    let tracked = tracked_are m.tracked in
    let tags = tags_are m.tets m.tracked m.tets outside h.regions.one_each h.regions.each in
    record {
      header = h.header;
      nodes = nodes_in m.tets soup.shift l 0 m.points h.in_box;
      tiles = both (λ ts tr. Tiles (record { points = given; tets = ts; tracked = tr; made = made }) l) _ _ _ _ (sym tets) (sym tracked) (Tiles-more m given made l same h.tiles);
      one_covering_each = h.one_covering_each ∙ sym (length-map m.tracked face_of);
      covered = λ i lt.
          let below : i < length m.tracked = omega (arith, lt, length-map m.tracked face_of) in
          let t = slice_index_or m.tracked i [] in
          let at : face_of t ≡ triangle_at (msh_tracked m) i = sym (get_or-map face_of m.tracked i []) in
          let tri = tri_same given m.points t (h.three i [] below) (λ u e. same u (triple_used m.tets t u (h.tiles.fills.tracked_are i [] below) e)) in
          record {
            in_mesh = lt;
            in_report = omega (arith, below, h.one_covering_each);
            covering = λ e. record {
              same = (h.covered i below e).face ∙ at;
              covers = subst (λ f. Covers soup.triangles report.epsilon most_levels 0 f (slice_index_or report.faces i e).cert) (tri ∙ ap (λ (f : Face). tri_of given f.0) at) (h.covered i below e).covers;
            };
          };
      tags = both (λ ts tr. All (IsTagOf ts tr) (msh_tets m outside)) _ _ _ _ (sym tets) (sym tracked) tags;
      lines = h.lines;
    }

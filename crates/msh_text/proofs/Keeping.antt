-- A mesh with the plain facts keeps the rules of its text.
use Rattle.std.proofs.Common.{◌≡◌, ℕ, ◌+◌, ◌<◌, ◌≤◌, true, false, List, [], ◌∷◌, ◌++◌, length, map, All, get_or, refl, sym, ap, subst, arith}
use Rattle.std.specs.Prelude.{codes, ℤ, pos, ◌==◌}
use Rattle.std.specs.List.{AllByRecursion as Each}
use Rattle.std.proofs.lemmas.Bool.{true≢false, eqb-true}
use Rattle.std.proofs.lemmas.List.Elements.{All-head, All-tail, All-map, All-weaker, recursion_from_All}
use Rattle.std.proofs.lemmas.List.Folds.{Any-from_list_any}
use Rattle.grid.specs.declared.shapes.Face.{Face}
use Rattle.grid.specs.Simplices.{Rises}
use Rattle.grid.specs.Meshes.{is_below, Ordered}
use Rattle.grid.specs.Limits.{most_points}
use Rattle.lines.specs.Forms.{repeat}
use Rattle.lines.proofs.ForCallers.{CanSay, says_done, says_field, says_then, says_fixed, says_lines, says_rows, says_all, is_text, three_items, four_items}
use Rattle.msh_text.specs.declared.file_mesh.MshNode.{MshNode}
use Rattle.msh_text.specs.declared.file_mesh.MshTet.{MshTet}
use Rattle.msh_text.specs.declared.file_mesh.MshMesh.{MshMesh}
use Rattle.msh_text.specs.declared.file_mesh.Elements.{Elements}
use Rattle.msh_text.specs.Text.{head_lines, middle_lines, msh_text}
use Rattle.msh_text.specs.Rules.{IsCorner, is_node, node_rule, more_nodes, last_number, last_triple, tet_rule, triangle_rule, more_tets, more_triangles, more_elements, next_place, no_elements, msh_rules}
use Rattle.msh_text.specs.Plain.{IsFileNode, AreNodes, IsFileTet, IsFileFace, IsFileMesh, PlainLaw}
use Rattle.msh_text.proofs.Reading.{last_of, last_number_is}
use Rattle.msh_text.proofs.SaysText.{whole_text}

-- ---- nodes
says_node : (d bound : ℕ) (node : MshNode) → bound < node.number → IsFileNode node → CanSay (node_rule d bound) node
unfolding node_rule
says_node d bound node above is =
    let none : ℤ = pos 0 in
    let items = three_items node.at is.three none none none in
    says_then node.number (says_field node.number (omega (arith, above), is.in_range.1))
    (says_then (get_or node.at 0 none) (says_field (get_or node.at 0 none) (is.near 0 none (omega (arith, is.three))))
    (says_then (get_or node.at 1 none) (says_field (get_or node.at 1 none) (is.near 1 none (omega (arith, is.three))))
    (says_then (get_or node.at 2 none) (says_field (get_or node.at 2 none) (is.near 2 none (omega (arith, is.three))))
    (says_done (ap (λ (at : List ℤ). record { number = node.number; at = at }) (sym items))))))

-- the later nodes are plain, and their numbers rise from the last one on
record FitNodes (before later : List MshNode) : Type 0 where
  rise : Rises (last_number before ∷ map (λ node. node.number) later)
  are : All IsFileNode later

one_more_node : (d : ℕ) (before : List MshNode) (node : MshNode) (later : List MshNode) → FitNodes before (node ∷ later) → CanSay (more_nodes d before) (before ++ node ∷ [])
unfolding more_nodes
one_more_node d before node later fit = says_then node (says_node d (last_number before) node fit.rise.0.0 (All-head IsFileNode node later fit.are)) (says_done refl)

later_nodes : (before : List MshNode) (node : MshNode) (later : List MshNode) → FitNodes before (node ∷ later) → FitNodes (before ++ node ∷ []) later
later_nodes before node later fit = record {
  rise = subst (λ n. Rises (n ∷ map (λ (m : MshNode). m.number) later)) (sym (last_number_is before node)) fit.rise.1;
  are = All-tail IsFileNode node later fit.are;
}

-- the first number is above 0
numbers_rise : (nodes : List MshNode) → All IsFileNode nodes → Rises (map (λ node. node.number) nodes) → FitNodes [] nodes
numbers_rise nodes are rise =
    let some : Each (λ n. 0 < n) (map (λ (node : MshNode). node.number) nodes) =
    recursion_from_All (λ n. 0 < n) (map (λ (node : MshNode). node.number) nodes)
    (All-map (λ n. 0 < n) (λ (node : MshNode). node.number) nodes (All-weaker IsFileNode (λ node. 0 < node.number) (λ node is. omega (arith, is.in_range.0)) nodes are)) in
    record { rise = (some, rise); are = are }

-- ---- elements
module _ (nodes : List MshNode) (nodes_are : All IsFileNode nodes) where
  node_few : (c : ℕ) → is_node nodes c ≡ true → c ≤ most_points
  node_few c is =
      let any = Any-from_list_any (λ (node : MshNode). node.number == c) nodes is in
      let few : any.1.number ≤ most_points = (subst IsFileNode any.3 (nodes_are any.0 any.1 any.2)).in_range.1 in
      omega (arith, few, eqb-true any.1.number c any.4)

  -- a corner of an element
  corner_fits : (corners : List ℕ) (i low : ℕ) → i < length corners → AreNodes nodes corners → low ≤ get_or corners i 0 → IsCorner (is_node nodes) low (get_or corners i 0)
  corner_fits corners i low short are above =
      let is = are i 0 short in
      ((above, node_few (get_or corners i 0) is), is)

  says_tet : (tet : MshTet) → IsFileTet nodes tet → CanSay (tet_rule (is_node nodes)) tet
  unfolding tet_rule
  says_tet tet is =
      let at : ℕ → ℕ = λ i. get_or tet.corners i 0 in
      says_then tet.tag (says_field tet.tag is.tagged)
      (says_then tet.tag (says_field tet.tag (omega arith, omega arith))
      (says_then (at 0) (says_field (at 0) (corner_fits tet.corners 0 0 (omega (arith, is.four)) is.are_nodes (omega arith)))
      (says_then (at 1) (says_field (at 1) (corner_fits tet.corners 1 0 (omega (arith, is.four)) is.are_nodes (omega arith)))
      (says_then (at 2) (says_field (at 2) (corner_fits tet.corners 2 0 (omega (arith, is.four)) is.are_nodes (omega arith)))
      (says_then (at 3) (says_field (at 3) (corner_fits tet.corners 3 0 (omega (arith, is.four)) is.are_nodes (omega arith)))
      (says_done (ap (λ (cs : List ℕ). record { corners = cs; tag = tet.tag }) (sym (four_items tet.corners is.four 0 0 0 0)))))))))

  -- three corners that rise
  rises_three : (corners : List ℕ) → length corners ≡ 3 → Rises corners → (get_or corners 0 0 < get_or corners 1 0) × (get_or corners 1 0 < get_or corners 2 0)
  rises_three corners three rise =
      let r = subst Rises (three_items corners three 0 0 0) rise in
      (r.0.0, r.1.0.0)

  says_triangle : (before : List Face) (face : Face) → IsFileFace nodes face → is_below (last_triple before) face.0 ≡ true → CanSay (triangle_rule (is_node nodes) before) face
  unfolding triangle_rule
  says_triangle before face is above =
      let at : ℕ → ℕ = λ i. get_or face.0 i 0 in
      let items = three_items face.0 is.three 0 0 0 in
      let rise = rises_three face.0 is.three is.rises in
      says_then (at 0) (says_field (at 0) (corner_fits face.0 0 0 (omega (arith, is.three)) is.are_nodes (omega arith)))
      (says_then (at 1) (says_field (at 1) (corner_fits face.0 1 (at 0 + 1) (omega (arith, is.three)) is.are_nodes (omega (arith, rise.0))))
      (says_then (at 2) (says_field (at 2) (corner_fits face.0 2 (at 1 + 1) (omega (arith, is.three)) is.are_nodes (omega (arith, rise.1)), subst (λ x. is_below (last_triple before) x ≡ true) items above))
      (says_done (ap (λ (cs : List ℕ). record { 0 = cs }) (sym items)))))

  -- ---- one element more
  -- tetrahedra and no triangle
  abbrev tets_only : List MshTet → Elements
  tets_only tets = record { tets = tets; tracked = [] }

  abbrev with_faces : List MshTet → List Face → Elements
  with_faces tets faces = record { tets = tets; tracked = faces }

  -- the later tetrahedra are plain
  abbrev FitTets : (before later : List MshTet) → Type 0
  FitTets before later = All (IsFileTet nodes) later

  one_more_tet : (before : List MshTet) (tet : MshTet) (later : List MshTet) → FitTets before (tet ∷ later) → CanSay (more_elements (is_node nodes) (tets_only before)) (tets_only (before ++ tet ∷ []))
  unfolding more_elements more_tets
  one_more_tet before tet later fit =
      let place : ℕ = next_place (tets_only before) in
      says_then place (says_field place (omega arith, omega arith))
      (says_then true (says_field true (λ e. refl))
      (says_then tet (says_tet tet (All-head (IsFileTet nodes) tet later fit)) (says_done refl)))

  -- the later triangles are plain, and rise from the last one on
  record FitFaces (before later : List Face) : Type 0 where
    rise : Ordered (last_triple before ∷ map (λ face. face.0) later)
    are : All (IsFileFace nodes) later

  one_more_face : (tets : List MshTet) (before : List Face) (face : Face) (later : List Face) → FitFaces before (face ∷ later) → CanSay (more_elements (is_node nodes) (with_faces tets before)) (with_faces tets (before ++ face ∷ []))
  unfolding more_elements more_triangles
  one_more_face tets before face later fit =
      let place : ℕ = next_place (with_faces tets before) in
      says_then place (says_field place (omega arith, omega arith))
      (says_then false (says_field false (λ e. absurd (true≢false (sym e))))
      (says_then face (says_triangle before face (All-head (IsFileFace nodes) face later fit.are) fit.rise.0.0) (says_done refl)))

  later_faces : (before : List Face) (face : Face) (later : List Face) → FitFaces before (face ∷ later) → FitFaces (before ++ face ∷ []) later
  later_faces before face later fit = record {
    rise = subst (λ x. Ordered (x ∷ map (λ (f : Face). f.0) later)) (sym (last_of (λ (f : Face). f.0) before face [])) fit.rise.1;
    are = All-tail (IsFileFace nodes) face later fit.are;
  }

  -- no triple is below the first
  faces_rise : (faces : List Face) → All (IsFileFace nodes) faces → Ordered (map (λ face. face.0) faces) → FitFaces [] faces
  faces_rise faces are rise =
      let above : (face : Face) → IsFileFace nodes face → is_below [] face.0 ≡ true = λ face is. subst (λ x. is_below [] x ≡ true) (sym (three_items face.0 is.three 0 0 0)) refl in
      let all : Each (λ x. is_below [] x ≡ true) (map (λ (face : Face). face.0) faces) =
      recursion_from_All (λ x. is_below [] x ≡ true) (map (λ (face : Face). face.0) faces)
      (All-map (λ x. is_below [] x ≡ true) (λ (face : Face). face.0) faces (All-weaker (IsFileFace nodes) (λ face. is_below [] face.0 ≡ true) above faces are)) in
      record { rise = (all, rise); are = are }

  says_elements : (tets : List MshTet) (faces : List Face) → FitTets [] tets → FitFaces [] faces → CanSay (repeat (more_elements (is_node nodes)) (length tets + length faces) no_elements) (with_faces tets faces)
  says_elements tets faces fit_tets fit_faces =
      let step = more_elements (is_node nodes) in
      says_rows step (length faces) tets_only FitTets one_more_tet (λ before tet later fit. All-tail (IsFileTet nodes) tet later fit) [] tets (length tets + length faces) refl fit_tets
      (says_all step (with_faces tets) FitFaces (one_more_face tets) later_faces faces fit_faces)

-- ---- the whole text
says_mesh : (d : ℕ) (m : MshMesh) → IsFileMesh d m → CanSay (msh_rules d) m
unfolding msh_rules
says_mesh d m is =
    let nodes : ℕ = length m.nodes in
    let elements : ℕ = length m.tets + length m.tracked in
    says_then tt (says_lines head_lines)
    (says_then nodes (says_field nodes (omega arith, is.nodes_few))
    (says_then m.nodes (says_all (more_nodes d) (λ ns. ns) FitNodes (one_more_node d) later_nodes m.nodes (numbers_rise m.nodes is.nodes_are is.numbers_rise))
    (says_then tt (says_lines middle_lines)
    (says_then elements (says_field elements (omega arith, is.elements_few))
    (says_then (record { tets = m.tets; tracked = m.tracked }) (says_elements m.nodes is.nodes_are m.tets m.tracked is.tets_are (faces_rise m.nodes is.nodes_are m.tracked is.faces_are is.faces_rise))
    (says_then tt (says_fixed (codes "$EndElements\n"))
    (says_done (ap (λ (k : ℕ). record { digits = k; nodes = m.nodes; tets = m.tets; tracked = m.tracked }) (sym is.digits_are)))))))))

pub keeps : PlainLaw
keeps d m is = is_text (msh_text m) (says_mesh d m is) (λ bytes h. whole_text d bytes [] m h)

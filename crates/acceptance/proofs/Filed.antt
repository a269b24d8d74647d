-- The file of a mesh is plain.
use Rattle.std.proofs.Common.{◌≡◌, ℕ, ◌+◌, ◌*◌, ◌^◌, ◌<◌, ◌≤◌, Bool, true, false, eqb, if◌then◌else◌, List, [], ◌∷◌, map, length, ℤ, pos, All, refl, sym, ap, ◌∙◌, subst, arith, slice_index_or}
use Rattle.std.specs.List.{zip, Contains, AllByRecursion as Each}
use Rattle.std.proofs.lemmas.Bool.{or_left, or_right}
use Rattle.std.proofs.lemmas.List.{length-map}
use Rattle.std.proofs.lemmas.List.Elements.{All-from_recursion, recursion_from_All}
use Rattle.int_algebra.specs.Within.{IsWithin}
use Rattle.grid.specs.declared.shapes.Face.{Face}
use Rattle.grid.specs.declared.shapes.Point.{Point}
use Rattle.grid.specs.Boxes.{IsInBox}
use Rattle.grid.specs.Meshes.{Mesh, IsTriple, IsWellFormed, Ordered, Tiles}
use Rattle.grid.specs.Simplices.{has, all_faces, rising, IsTet}
use Rattle.grid.specs.Limits.{largest_side, most_points}
use Rattle.lines.specs.Fields.{Between, Within}
use Rattle.grid.proofs.ForCallers.{Each-weaker, Each-both, has_first}
use Rattle.mesh_types.proofs.ForCallers.{Each-map, below_each}
use Rattle.msh_text.specs.declared.file_mesh.MshNode.{MshNode}
use Rattle.msh_text.specs.FileMesh.{file_numbers, is_used, node_of, msh_nodes, tet_of, msh_tets, face_of, msh_tracked, msh_of}
use Rattle.msh_text.specs.Rules.{is_node}
use Rattle.msh_text.specs.Plain.{IsFileNode, AreNodes, IsFileTet, IsFileFace, IsFileMesh}
use Rattle.acceptance.proofs.FewTracked.{tracked_corner}
use Rattle.acceptance.proofs.NodeLists.{each_node, nodes_few, numbers_rise, is_node-used}
use Rattle.acceptance.proofs.Placed.{most_shift, shifted_few}
use Rattle.acceptance.proofs.Renumbered.{Rises-next, Ordered-next}

-- ---- corners are used
used : (ts : List (List ℕ)) → Each (λ x. (o : ℕ) → has x o ≡ true → is_used ts o ≡ true) ts
used [] = tt
used (x ∷ ts) = (
  (λ o h. or_left (has x o) (is_used ts o) h),
  Each-weaker (λ y. (o : ℕ) → has y o ≡ true → is_used ts o ≡ true) (λ y. (o : ℕ) → has y o ≡ true → is_used (x ∷ ts) o ≡ true) (λ y f o h. or_right (has x o) (is_used ts o) (f o h)) ts (used ts),
)

-- a used point
pub record IsUsed (m : Mesh) (o : ℕ) : Type 0 where
  pub below : o < length m.points
  pub is : is_used m.tets o ≡ true

corners_used : (m : Mesh) → IsWellFormed m → Each (λ x. (o : ℕ) → has x o ≡ true → IsUsed m o) m.tets
corners_used m wf =
    let n = length m.points in
    Each-weaker (λ x. IsTet n x × ((o : ℕ) → has x o ≡ true → is_used m.tets o ≡ true)) (λ x. (o : ℕ) → has x o ≡ true → IsUsed m o)
    (λ x h o there. record { below = below_each n x (recursion_from_All (λ c. c < n) x h.0.in_range) o there; is = h.1 o there }) m.tets
    (Each-both (IsTet n) (λ x. (o : ℕ) → has x o ≡ true → is_used m.tets o ≡ true) m.tets (recursion_from_All (IsTet n) m.tets wf.tets_are) (used m.tets))

each_number : (P : ℕ → Type 0) (x : List ℕ) → ((o : ℕ) → has x o ≡ true → P (o + 1)) → Each P (file_numbers x)
each_number P [] f = tt
each_number P (a ∷ x) f = (f a (has_first a x), each_number P x (λ o h. f o (or_right (eqb a o) (has x o) h)))

-- ---- tetrahedra with their tags
zip_each : (P : List ℕ → Type 0) (Q : List ℕ × Bool → Type 0) → ((x : List ℕ) (b : Bool) → P x → Q (x, b)) → (xs : List (List ℕ)) (bs : List Bool) → Each P xs → Each Q (zip xs bs)
zip_each P Q f [] bs h = tt
zip_each P Q f (x ∷ xs) [] h = tt
zip_each P Q f (x ∷ xs) (b ∷ bs) h = (f x b h.0, zip_each P Q f xs bs h.1)

zip_few : (xs : List (List ℕ)) (bs : List Bool) → length (zip xs bs) ≤ length xs
zip_few [] bs = omega arith
zip_few (x ∷ xs) [] = omega arith
zip_few (x ∷ xs) (b ∷ bs) = let rest = zip_few xs bs in omega (arith, rest)

tag-is : (b : Bool) → Between 1 2 (if b then 2 else 1)
tag-is true = (omega arith, omega arith)
tag-is false = (omega arith, omega arith)

faces_of_file : (ts : List (List ℕ)) → map (λ (f : Face). f.0) (map face_of ts) ≡ map file_numbers ts
faces_of_file [] = refl
faces_of_file (t ∷ ts) = ap (λ ys. file_numbers t ∷ ys) (faces_of_file ts)

-- ---- the file
-- no coordinate of the shift is above the most
pub record IsShift (shift : List ℤ) : Type 0 where
  pub x_few : IsWithin most_shift (slice_index_or shift 0 (pos 0))
  pub y_few : IsWithin most_shift (slice_index_or shift 1 (pos 0))
  pub z_few : IsWithin most_shift (slice_index_or shift 2 (pos 0))

file_node : (l : ℕ) (shift : List ℤ) → l ≤ largest_side → IsShift shift → (c : ℕ) (p : Point) → c < most_points → IsInBox l p → IsFileNode (node_of shift (c, p))
file_node l shift most h c p lt inside = record {
  in_range = (omega arith, omega (arith, lt));
  three = refl;
  near = All-from_recursion (Within (2 * 10 ^ 9)) (node_of shift (c, p)).at
      (shifted_few l p.x _ most inside.x_in h.x_few, (shifted_few l p.y _ most inside.y_in h.y_few, (shifted_few l p.z _ most inside.z_in h.z_few, tt)));
}

module _ (m : Mesh) (l : ℕ) (wf : IsWellFormed m) (tiles : Tiles m l) (points_few : length m.points ≤ most_points) (inside : All (IsInBox l) m.points) (most : l ≤ largest_side) (shift : List ℤ) (is_shift : IsShift shift) where
  abbrev nodes : List MshNode
  nodes = msh_nodes m shift

  node_there : (o : ℕ) → IsUsed m o → is_node nodes (o + 1) ≡ true
  node_there o h = is_node-used shift (is_used m.tets) m.points o h.below h.is

  are_nodes : (x : List ℕ) → ((o : ℕ) → has x o ≡ true → IsUsed m o) → AreNodes nodes (file_numbers x)
  are_nodes x f = All-from_recursion (λ c. is_node nodes c ≡ true) (file_numbers x) (each_number (λ c. is_node nodes c ≡ true) x (λ o h. node_there o (f o h)))

  file_tet : (x : List ℕ) (b : Bool) → IsTet (length m.points) x × ((o : ℕ) → has x o ≡ true → IsUsed m o) → IsFileTet nodes (tet_of (x, b))
  file_tet x b h = record { tagged = tag-is b; four = length-map x (λ c. c + 1) ∙ h.0.four; are_nodes = are_nodes x h.1 }

  file_face : (t : List ℕ) → IsTriple (length m.points) t × Contains (map rising (all_faces m.tets)) t → IsFileFace nodes (face_of t)
  file_face t h = record {
    three = length-map t (λ c. c + 1) ∙ h.0.three;
    rises = Rises-next t h.0.rises;
    are_nodes = are_nodes t (λ o there. tracked_corner m l wf tiles (IsUsed m) (corners_used m wf) t h.1 o there);
  }

  pub file_plain : (regions : List Bool) (d : ℕ) → length m.tets + length m.tracked ≤ 2 ^ 24 → IsFileMesh d (msh_of m regions shift d)
  unfolding msh_of
  file_plain regions d few =
      let n = length m.points in
      let tets = msh_tets m regions in
      let tracked = msh_tracked m in
      let triple = IsTriple n in
      let among = Contains (map rising (all_faces m.tets)) in
      let pair = λ (x : List ℕ). IsTet n x × ((o : ℕ) → has x o ≡ true → IsUsed m o) in
      record {
        digits_are = refl;
        nodes_few = let k = nodes_few shift (is_used m.tets) 0 m.points in omega (arith, k, points_few);
        elements_few = omega (arith, few, length-map (zip m.tets regions) tet_of, zip_few m.tets regions, length-map m.tracked face_of);
        nodes_are = All-from_recursion IsFileNode nodes (each_node shift (is_used m.tets) (IsInBox l) IsFileNode most_points 0 m.points (omega (arith, points_few)) (file_node l shift most is_shift) (recursion_from_All (IsInBox l) m.points inside));
        numbers_rise = numbers_rise shift (is_used m.tets) 0 m.points;
        tets_are = All-from_recursion (IsFileTet nodes) tets (Each-map (λ (p : List ℕ × Bool). IsFileTet nodes (tet_of p)) (IsFileTet nodes) tet_of (λ p h. h) (zip m.tets regions)
            (zip_each pair (λ p. IsFileTet nodes (tet_of p)) file_tet m.tets regions
            (Each-both (IsTet n) (λ x. (o : ℕ) → has x o ≡ true → IsUsed m o) m.tets (recursion_from_All (IsTet n) m.tets wf.tets_are) (corners_used m wf))));
        faces_are = All-from_recursion (IsFileFace nodes) tracked (Each-map (λ (t : List ℕ). triple t × among t) (IsFileFace nodes) face_of file_face m.tracked
            (Each-both triple among m.tracked (recursion_from_All triple m.tracked wf.triples_are) (recursion_from_All among m.tracked tiles.fills.tracked_are)));
        faces_rise = subst Ordered (sym (faces_of_file m.tracked)) (Ordered-next m.tracked wf.ordered);
      }

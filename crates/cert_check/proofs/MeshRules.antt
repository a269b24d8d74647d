-- What the rules of a mesh text say of the mesh.
use Rattle.std.proofs.Common.{◌≡◌, ℕ, zero, suc, ◌+◌, ◌*◌, ◌^◌, ◌<◌, ◌≤◌, Bool, true, false, List, [], ◌∷◌, ◌++◌, length, map, sym, subst, All, arith, ℤ}
use Rattle.std.specs.Prelude.{unsigned_abs}
use Rattle.std.specs.List.{AllByRecursion}
use Rattle.std.proofs.lemmas.List.{map-append}
use Rattle.std.proofs.lemmas.List.Elements.{All-cons, All-nil, All-push}
use Rattle.int_algebra.specs.Within.{IsWithin}
use Rattle.grid.specs.declared.shapes.Face.{Face}
use Rattle.grid.specs.Simplices.{Rises}
use Rattle.lines.specs.Forms.{Form, Reads, choose, repeat}
use Rattle.msh_text.specs.declared.file_mesh.MshNode.{MshNode}
use Rattle.msh_text.specs.declared.file_mesh.MshTet.{MshTet}
use Rattle.msh_text.specs.declared.file_mesh.MshMesh.{MshMesh}
use Rattle.msh_text.specs.declared.file_mesh.Elements.{Elements}
use Rattle.msh_text.specs.Rules.{corner, last_corner, is_node, node_rule, more_nodes, last_number, tet_rule, triangle_rule, more_tets, more_triangles, more_elements, no_elements, msh_rules}
use Rattle.msh_text.proofs.ForCallers.{elements_grow, last_number_is}
use Rattle.cert_check.specs.Conditions.{IsNode, IsMshMesh}

-- ---- repetitions
-- what each step keeps, the repetition keeps
pub repeat_keeps : {X : Type 0} (step : X → Form X) (Keeps : ℕ → X → Type 0) → ((n : ℕ) (y z : X) (bytes rest : List ℕ) → Keeps (suc n) y → Reads (step y) bytes z rest → Keeps n z)
    → (n : ℕ) (x y : X) (bytes rest : List ℕ) → Keeps n x → Reads (repeat step n x) bytes y rest → Keeps 0 y
unfolding Reads repeat
repeat_keeps step Keeps keeps zero x y bytes rest k h = subst (Keeps 0) h.0 k
repeat_keeps step Keeps keeps (suc n) x y bytes rest k h = repeat_keeps step Keeps keeps n h.0 y h.1 rest (keeps n x h.0 bytes h.1 k h.2) h.3

-- ---- nodes
abbrev numbers : List MshNode → List ℕ
numbers nodes = map (λ node. node.number) nodes

Rises-push : (xs : List ℕ) (n : ℕ) → Rises xs → All (λ x. x < n) xs → Rises (xs ++ n ∷ [])
Rises-push [] n h below = (tt, tt)
Rises-push (x ∷ xs) n h below = (
  all_below xs h.0,
  Rises-push xs n h.1 (λ i d lt. below (suc i) d (omega (arith, lt))),
)
  where
    all_below : (ys : List ℕ) → AllByRecursion (λ b. x < b) ys → AllByRecursion (λ b. x < b) (ys ++ n ∷ [])
    all_below [] k = (below 0 0 (omega arith), tt)
    all_below (y ∷ ys) k = (k.0, all_below ys k.1)

-- nodes within the limits whose numbers rise up to the last one
record AreNodes (nodes : List MshNode) : Type 0 where
  each : All IsNode nodes
  rise : Rises (numbers nodes)
  last : All (λ n. n ≤ last_number nodes) (numbers nodes)

no_nodes : AreNodes []
no_nodes = record { each = All-nil IsNode; rise = tt; last = All-nil (λ n. n ≤ 0) }

AreNodes-push : (nodes : List MshNode) (node : MshNode) → AreNodes nodes → IsNode node → last_number nodes < node.number → AreNodes (nodes ++ node ∷ [])
AreNodes-push nodes node h is above =
    let n = node.number in
    let more : numbers (nodes ++ node ∷ []) ≡ numbers nodes ++ n ∷ [] = map-append (λ (m : MshNode). m.number) nodes (node ∷ []) in
    let below : All (λ m. m < n) (numbers nodes) = λ i d lt. let le = h.last i d lt in omega (arith, le, above) in
    let up_to : All (λ m. m ≤ n) (numbers nodes) = λ i d lt. let le = h.last i d lt in omega (arith, le, above) in
    record {
      each = All-push IsNode nodes node h.each is;
      rise = subst Rises (sym more) (Rises-push (numbers nodes) n h.rise below);
      last = subst (λ k. All (λ m. m ≤ k) (numbers (nodes ++ node ∷ []))) (sym (last_number_is nodes node))
          (subst (All (λ m. m ≤ n)) (sym more) (All-push (λ m. m ≤ n) (numbers nodes) n up_to (omega arith)));
    }

-- what is read of a node
record IsNodeAbove (bound : ℕ) (node : MshNode) : Type 0 where
  above : bound < node.number
  is : IsNode node

within : (z : ℤ) (n : ℕ) → unsigned_abs z ≤ n → IsWithin n z
within z n h = record { within = h }

node_reads : (d bound : ℕ) (bytes : List ℕ) (node : MshNode) (rest : List ℕ) → Reads (node_rule d bound) bytes node rest → IsNodeAbove bound node
unfolding Reads node_rule
node_reads d bound bytes node rest h =
    let n = h.2.allowed in
    let x = h.3.2.allowed in
    let y = h.3.3.2.allowed in
    let z = h.3.3.3.2.allowed in
    let is_near = IsWithin (2 * 10 ^ 9) in
    let near = All-cons is_near h.3.0 (h.3.3.0 ∷ h.3.3.3.0 ∷ []) (within _ _ x) (All-cons is_near h.3.3.0 (h.3.3.3.0 ∷ []) (within _ _ y) (All-cons is_near h.3.3.3.0 [] (within _ _ z) (All-nil is_near))) in
    subst (IsNodeAbove bound) h.3.3.3.3.0 (record { above = omega (arith, n.0); is = record { high = n.1; near = near } })

nodes_read : (d : ℕ) (before after : List MshNode) (bytes rest : List ℕ) → AreNodes before → Reads (more_nodes d before) bytes after rest → AreNodes after
unfolding Reads more_nodes
nodes_read d before after bytes rest k h =
    let one = node_reads d (last_number before) bytes h.0 h.1 h.2 in
    subst AreNodes h.3.0 (AreNodes-push before h.0 k one.is one.above)

-- ---- elements
module _ (nodes : List MshNode) where
  abbrev AreCorners : List ℕ → Type 0
  AreCorners x = All (λ c. is_node nodes c ≡ true) x

  corner_is : (low end n : ℕ) (bytes rest : List ℕ) → Reads (corner (is_node nodes) low end) bytes n rest → is_node nodes n ≡ true
  unfolding Reads
  corner_is low end n bytes rest h = h.allowed.1

  last_corner_is : (before : List Face) (a b n : ℕ) (bytes rest : List ℕ) → Reads (last_corner (is_node nodes) before a b) bytes n rest → is_node nodes n ≡ true
  unfolding Reads
  last_corner_is before a b n bytes rest h = h.allowed.0.1

  abbrev is_one : ℕ → Type 0
  is_one c = is_node nodes c ≡ true

  tet_reads : (bytes rest : List ℕ) (tet : MshTet) → Reads (tet_rule (is_node nodes)) bytes tet rest → AreCorners tet.corners
  unfolding Reads tet_rule
  tet_reads bytes rest tet h =
      let k = h.3.3 in
      let a = corner_is 0 32 k.0 _ _ k.2 in
      let b = corner_is 0 32 k.3.0 _ _ k.3.2 in
      let c = corner_is 0 32 k.3.3.0 _ _ k.3.3.2 in
      let d = corner_is 0 10 k.3.3.3.0 _ _ k.3.3.3.2 in
      subst (λ (t : MshTet). AreCorners t.corners) k.3.3.3.3.0
      (All-cons is_one k.0 (k.3.0 ∷ k.3.3.0 ∷ k.3.3.3.0 ∷ []) a (All-cons is_one k.3.0 (k.3.3.0 ∷ k.3.3.3.0 ∷ []) b (All-cons is_one k.3.3.0 (k.3.3.3.0 ∷ []) c (All-cons is_one k.3.3.3.0 [] d (All-nil is_one)))))

  triangle_reads : (before : List Face) (bytes rest : List ℕ) (face : Face) → Reads (triangle_rule (is_node nodes) before) bytes face rest → AreCorners face.0
  unfolding Reads triangle_rule
  triangle_reads before bytes rest face h =
      let a = corner_is 0 32 h.0 _ _ h.2 in
      let b = corner_is (h.0 + 1) 32 h.3.0 _ _ h.3.2 in
      let c = last_corner_is before h.0 h.3.0 h.3.3.0 _ _ h.3.3.2 in
      subst (λ (f : Face). AreCorners f.0) h.3.3.3.0
      (All-cons is_one h.0 (h.3.0 ∷ h.3.3.0 ∷ []) a (All-cons is_one h.3.0 (h.3.3.0 ∷ []) b (All-cons is_one h.3.3.0 [] c (All-nil is_one))))

  -- the corners are nodes
  record HaveCorners (e : Elements) : Type 0 where
    tets : All (λ (t : MshTet). AreCorners t.corners) e.tets
    tracked : All (λ (f : Face). AreCorners f.0) e.tracked

  tets_read : (before after : Elements) (bytes rest : List ℕ) → HaveCorners before → Reads (more_tets (is_node nodes) before) bytes after rest → HaveCorners after
  unfolding Reads more_tets
  tets_read before after bytes rest k h =
      subst HaveCorners h.3.0 (record { tets = All-push (λ (t : MshTet). AreCorners t.corners) before.tets h.0 k.tets (tet_reads bytes h.1 h.0 h.2); tracked = k.tracked })

  triangles_read : (before after : Elements) (bytes rest : List ℕ) → HaveCorners before → Reads (more_triangles (is_node nodes) before) bytes after rest → HaveCorners after
  unfolding Reads more_triangles
  triangles_read before after bytes rest k h =
      subst HaveCorners h.3.0 (record { tets = k.tets; tracked = All-push (λ (f : Face). AreCorners f.0) before.tracked h.0 k.tracked (triangle_reads before.tracked bytes h.1 h.0 h.2) })

  kinds_read : (before after : Elements) (bytes rest : List ℕ) (kind : Bool) → HaveCorners before → Reads (choose kind (more_tets (is_node nodes) before) (more_triangles (is_node nodes) before)) bytes after rest → HaveCorners after
  kinds_read before after bytes rest true k h = tets_read before after bytes rest k h
  kinds_read before after bytes rest false k h = triangles_read before after bytes rest k h

  -- the corners are nodes, and there is room for so many more elements
  record AreElements (n : ℕ) (e : Elements) : Type 0 where
    corners : HaveCorners e
    room : length e.tets + length e.tracked + n ≤ 2 ^ 24

  elements_read : (n : ℕ) (before after : Elements) (bytes rest : List ℕ) → AreElements (suc n) before → Reads (more_elements (is_node nodes) before) bytes after rest → AreElements n after
  unfolding Reads more_elements
  elements_read n before after bytes rest k h = record {
    corners = kinds_read before after h.3.1 rest h.3.0 k.corners h.3.3;
    room = omega (arith, k.room, elements_grow (is_node nodes) before after bytes rest h);
  }

  no_elements_are : (count : ℕ) → count ≤ 2 ^ 24 → AreElements count no_elements
  no_elements_are count few = record {
    corners = record { tets = All-nil (λ (t : MshTet). AreCorners t.corners); tracked = All-nil (λ (f : Face). AreCorners f.0) };
    room = omega (arith, few);
  }

-- ---- the whole text
pub IsMshMesh-rules : (d : ℕ) (bytes rest : List ℕ) (m : MshMesh) → Reads (msh_rules d) bytes m rest → IsMshMesh m
unfolding Reads msh_rules
IsMshMesh-rules d bytes rest m h =
    let k = h.3.3 in
    let nodes = k.0 in
    let l = k.3.3 in
    let e = l.3 in
    let are = repeat_keeps (more_nodes d) (λ n ns. AreNodes ns) (λ n ns ms bs more a g. nodes_read d ns ms bs more a g) h.3.0 [] nodes _ _ no_nodes k.2 in
    let few = l.2.allowed.1 in
    let all = repeat_keeps (more_elements (is_node nodes)) (AreElements nodes) (elements_read nodes) l.0 no_elements e.0 _ _ (no_elements_are nodes l.0 few) e.2 in
    subst IsMshMesh e.3.3.0 (record {
      few_elements = omega (arith, all.room);
      nodes = are.each;
      numbers_rise = are.rise;
      corners = all.corners.tets;
      triangle_corners = all.corners.tracked;
    })

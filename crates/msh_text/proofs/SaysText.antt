-- What is read is the text of the mesh.
use Rattle.std.proofs.Common.{◌≡◌, ℕ, zero, suc, ◌+◌, Bool, true, false, List, [], ◌∷◌, ◌++◌, length, refl, sym, ap, ◌∙◌, subst, arith, append_assoc, ◌⊎◌, inl, inr, eqb}
use Rattle.std.specs.Prelude.{codes, decimal, ℤ}
use Rattle.std.specs.List.{enumerate_from, flat_map}
use Rattle.std.proofs.lemmas.List.{length-append, append-nil}
use Rattle.grid.specs.declared.shapes.Face.{Face}
use Rattle.lines.specs.Forms.{choose, repeat, Says, Reads}
use Rattle.lines.specs.Fields.{space, feed, word, decimals, decimal_word}
use Rattle.lines.proofs.ForCallers.{OneMore, lines_text, no_places, repeat_text, nothing_left}
use Rattle.msh_text.specs.declared.file_mesh.MshNode.{MshNode}
use Rattle.msh_text.specs.declared.file_mesh.MshTet.{MshTet}
use Rattle.msh_text.specs.declared.file_mesh.MshMesh.{MshMesh}
use Rattle.msh_text.specs.declared.file_mesh.Elements.{Elements}
use Rattle.msh_text.specs.Text.{count_line, node_line, tet_line, face_line, head_lines, middle_lines, head_text, middle_text, msh_text}
use Rattle.msh_text.specs.Answers.{IsTextOf}
use Rattle.msh_text.specs.Rules.{marked, is_node, node_rule, more_nodes, last_number, tet_rule, triangle_rule, more_tets, more_triangles, more_elements, kind_text, KindAllowed, next_place, no_elements, msh_rules}

pub elements_by_marks : (marks items : List Bool) (nodes those : List MshNode) → marks ≡ items → nodes ≡ those → ((u : ℕ) → marked items u ≡ is_node nodes u) → (P : (ℕ → Bool) → Type 0) → P (marked marks) → P (is_node those)
elements_by_marks marks items nodes those same nodes_are marks_are P h =
    subst P (λ i u. each u i) h
  where
    each : (u : ℕ) → marked marks u ≡ is_node those u
    each u = ap (λ ms. marked ms u) same ∙ marks_are u ∙ ap (λ ns. is_node ns u) nodes_are

-- ---- nodes
-- words, each ended by a space, and the last by a line feed
said : List (List ℕ) → List ℕ → List ℕ → List ℕ
said [] last rest = (last ++ 10 ∷ []) ++ rest
said (w ∷ ws) last rest = (w ++ 32 ∷ []) ++ said ws last rest

-- the same words, each behind a space
spaced_words : List (List ℕ) → List ℕ → List ℕ
spaced_words [] last = (32 ∷ last) ++ []
spaced_words (w ∷ ws) last = (32 ∷ w) ++ spaced_words ws last

words_text : (ws : List (List ℕ)) (last rest : List ℕ) → 32 ∷ said ws last rest ≡ (spaced_words ws last ++ 10 ∷ []) ++ rest
unfolding said spaced_words
words_text [] last rest = ap (λ (bs : List ℕ). 32 ∷ ((bs ++ 10 ∷ []) ++ rest)) (sym (append-nil last))
words_text (w ∷ ws) last rest =
    ap (λ (bs : List ℕ). 32 ∷ bs) (append_assoc w (32 ∷ []) (said ws last rest) ∙ ap (λ bs. w ++ bs) (words_text ws last rest)
    ∙ sym (append_assoc w (spaced_words ws last ++ 10 ∷ []) rest) ∙ ap (λ bs. bs ++ rest) (sym (append_assoc w (spaced_words ws last) (10 ∷ []))))

-- behind a first word
first_word : (k : List ℕ) (ws : List (List ℕ)) (last rest : List ℕ) → (k ++ 32 ∷ []) ++ said ws last rest ≡ (k ++ (spaced_words ws last ++ 10 ∷ [])) ++ rest
first_word k ws last rest = append_assoc k (32 ∷ []) (said ws last rest) ∙ ap (λ bs. k ++ bs) (words_text ws last rest) ∙ sym (append_assoc k (spaced_words ws last ++ 10 ∷ []) rest)

four_words : (n x y z rest : List ℕ) → (n ++ 32 ∷ []) ++ ((x ++ 32 ∷ []) ++ ((y ++ 32 ∷ []) ++ ((z ++ 10 ∷ []) ++ rest))) ≡ (n ++ (((32 ∷ x) ++ ((32 ∷ y) ++ ((32 ∷ z) ++ []))) ++ 10 ∷ [])) ++ rest
unfolding said spaced_words
four_words n x y z rest = first_word n (x ∷ y ∷ []) z rest

node_line_is : (d : ℕ) (n : ℕ) (x y z : ℤ) → decimal n ++ (((32 ∷ decimals d x) ++ ((32 ∷ decimals d y) ++ ((32 ∷ decimals d z) ++ []))) ++ 10 ∷ []) ≡ node_line d (record { number = n; at = x ∷ y ∷ z ∷ [] })
node_line_is d n x y z = simp (append_assoc, append-nil)

pub node_text : (d bound : ℕ) (bytes rest : List ℕ) (node : MshNode) → Reads (node_rule d bound) bytes node rest → bytes ≡ node_line d node ++ rest
unfolding Reads node_rule
node_text d bound bytes rest node h =
    let x = h.3 in
    let y = x.3 in
    let z = y.3 in
    h.2.spells ∙ ap (λ bs. word space h.0 ++ bs) (x.2.spells ∙ ap (λ bs. decimal_word d space x.0 ++ bs) (y.2.spells ∙ ap (λ bs. decimal_word d space y.0 ++ bs) (z.2.spells ∙ ap (λ bs. decimal_word d feed z.0 ++ bs) z.3.1)))
    ∙ four_words (decimal h.0) (decimals d x.0) (decimals d y.0) (decimals d z.0) rest
    ∙ ap (λ bs. bs ++ rest) (node_line_is d h.0 x.0 y.0 z.0) ∙ ap (λ (m : MshNode). node_line d m ++ rest) z.3.0

nodes_say : (d : ℕ) (before after : List MshNode) (bytes rest : List ℕ) → Reads (more_nodes d before) bytes after rest → OneMore (λ e. node_line d e.1) before after bytes rest
unfolding Reads more_nodes
nodes_say d before after bytes rest h = record {
  one = h.0;
  is = sym h.3.0;
  text = node_text d (last_number before) bytes h.1 h.0 h.2 ∙ ap (λ bs. node_line d h.0 ++ bs) h.3.1;
}

-- ---- elements
six_words : (k t a b c d rest : List ℕ) → (k ++ 32 ∷ []) ++ (codes "4 2 " ++ ((t ++ 32 ∷ []) ++ ((t ++ 32 ∷ []) ++ ((a ++ 32 ∷ []) ++ ((b ++ 32 ∷ []) ++ ((c ++ 32 ∷ []) ++ ((d ++ 10 ∷ []) ++ rest)))))))
    ≡ (k ++ (codes " 4 2" ++ (((32 ∷ t) ++ ((32 ∷ t) ++ ((32 ∷ a) ++ ((32 ∷ b) ++ ((32 ∷ c) ++ ((32 ∷ d) ++ [])))))) ++ 10 ∷ []))) ++ rest
unfolding said spaced_words
six_words k t a b c d rest =
    append_assoc k (32 ∷ []) (codes "4 2 " ++ said (t ∷ t ∷ a ∷ b ∷ c ∷ []) d rest)
    ∙ ap (λ bs. k ++ (codes " 4 2" ++ bs)) (words_text (t ∷ t ∷ a ∷ b ∷ c ∷ []) d rest)
    ∙ sym (append_assoc k (codes " 4 2" ++ (spaced_words (t ∷ t ∷ a ∷ b ∷ c ∷ []) d ++ 10 ∷ [])) rest)

three_words : (k a b c rest : List ℕ) → (k ++ 32 ∷ []) ++ (codes "2 2 3 3 " ++ ((a ++ 32 ∷ []) ++ ((b ++ 32 ∷ []) ++ ((c ++ 10 ∷ []) ++ rest))))
    ≡ (k ++ (codes " 2 2 3 3" ++ (((32 ∷ a) ++ ((32 ∷ b) ++ ((32 ∷ c) ++ []))) ++ 10 ∷ []))) ++ rest
unfolding said spaced_words
three_words k a b c rest =
    append_assoc k (32 ∷ []) (codes "2 2 3 3 " ++ said (a ∷ b ∷ []) c rest)
    ∙ ap (λ bs. k ++ (codes " 2 2 3 3" ++ bs)) (words_text (a ∷ b ∷ []) c rest)
    ∙ sym (append_assoc k (codes " 2 2 3 3" ++ (spaced_words (a ∷ b ∷ []) c ++ 10 ∷ [])) rest)

tet_line_is : (k : ℕ) (t a b c d : ℕ) → decimal k ++ (codes " 4 2" ++ (((32 ∷ decimal t) ++ ((32 ∷ decimal t) ++ ((32 ∷ decimal a) ++ ((32 ∷ decimal b) ++ ((32 ∷ decimal c) ++ ((32 ∷ decimal d) ++ [])))))) ++ 10 ∷ [])) ≡ tet_line (k, record { corners = a ∷ b ∷ c ∷ d ∷ []; tag = t })
tet_line_is k t a b c d = simp (append_assoc, append-nil)

face_line_is : (k a b c : ℕ) → decimal k ++ (codes " 2 2 3 3" ++ (((32 ∷ decimal a) ++ ((32 ∷ decimal b) ++ ((32 ∷ decimal c) ++ []))) ++ 10 ∷ [])) ≡ face_line (k, record { 0 = a ∷ b ∷ c ∷ [] })
face_line_is k a b c = simp (append_assoc, append-nil)

-- a tetrahedron behind the number and the type
tet_text : (is_node : ℕ → Bool) (place : ℕ) (bytes rest : List ℕ) (tet : MshTet) → Reads (tet_rule is_node) bytes tet rest → word space place ++ (kind_text true ++ bytes) ≡ tet_line (place, tet) ++ rest
unfolding Reads tet_rule
tet_text is_node place bytes rest tet h =
    let again = h.3 in
    let a = again.3 in
    let b = a.3 in
    let c = b.3 in
    let d = c.3 in
    let same : again.0 ≡ h.0 = omega (arith, again.2.allowed.0, again.2.allowed.1) in
    ap (λ bs. word space place ++ (kind_text true ++ bs)) (h.2.spells ∙ ap (λ bs. word space h.0 ++ bs) (again.2.spells ∙ ap (λ t. word space t ++ again.1) same ∙ ap (λ bs. word space h.0 ++ bs)
    (a.2.spells ∙ ap (λ bs. word space a.0 ++ bs) (b.2.spells ∙ ap (λ bs. word space b.0 ++ bs) (c.2.spells ∙ ap (λ bs. word space c.0 ++ bs) (d.2.spells ∙ ap (λ bs. word feed d.0 ++ bs) d.3.1))))))
    ∙ six_words (decimal place) (decimal h.0) (decimal a.0) (decimal b.0) (decimal c.0) (decimal d.0) rest
    ∙ ap (λ bs. bs ++ rest) (tet_line_is place h.0 a.0 b.0 c.0 d.0) ∙ ap (λ (t : MshTet). tet_line (place, t) ++ rest) d.3.0

triangle_text : (is_node : ℕ → Bool) (before : List Face) (place : ℕ) (bytes rest : List ℕ) (face : Face) → Reads (triangle_rule is_node before) bytes face rest → word space place ++ (kind_text false ++ bytes) ≡ face_line (place, face) ++ rest
unfolding Reads triangle_rule
triangle_text is_node before place bytes rest face h =
    let b = h.3 in
    let c = b.3 in
    ap (λ bs. word space place ++ (kind_text false ++ bs)) (h.2.spells ∙ ap (λ bs. word space h.0 ++ bs) (b.2.spells ∙ ap (λ bs. word space b.0 ++ bs) (c.2.spells ∙ ap (λ bs. word feed c.0 ++ bs) c.3.1)))
    ∙ three_words (decimal place) (decimal h.0) (decimal b.0) (decimal c.0) rest
    ∙ ap (λ bs. bs ++ rest) (face_line_is place h.0 b.0 c.0) ∙ ap (λ (f : Face). face_line (place, f) ++ rest) c.3.0

pub record ElementsText (n : ℕ) (before after : Elements) (bytes rest : List ℕ) : Type 0 where
  pub tets : List MshTet
  pub faces : List Face
  pub tets_are : after.tets ≡ before.tets ++ tets
  pub faces_are : after.tracked ≡ before.tracked ++ faces
  pub count : length tets + length faces ≡ n
  pub parted : (tets ≡ []) ⊎ (before.tracked ≡ [])
  pub text : bytes ≡ flat_map tet_line (enumerate_from (length before.tets + 1) tets) ++ (flat_map face_line (enumerate_from (length after.tets + length before.tracked + 1) faces) ++ rest)

-- one more tetrahedron, and those behind it
tet_then : (is_node : ℕ → Bool) (n place : ℕ) (before mid after : Elements) (bytes behind last later rest : List ℕ) → place ≡ next_place before → bytes ≡ word space place ++ behind → Says kind_text (KindAllowed before.tracked) behind true last
    → Reads (more_tets is_node before) last mid later → ElementsText n mid after later rest → ElementsText (suc n) before after bytes rest
unfolding Reads more_tets
tet_then is_node n place before mid after bytes behind last later rest place_is spells kind h r =
    let none : before.tracked ≡ [] = kind.allowed refl in
    let mid_tets : mid.tets ≡ before.tets ++ h.0 ∷ [] = ap (λ (e : Elements). e.tets) (sym h.3.0) in
    let mid_faces : mid.tracked ≡ before.tracked = ap (λ (e : Elements). e.tracked) (sym h.3.0) in
    let number : place ≡ length before.tets + 1 = omega (arith, place_is, ap length none) in
    let next : length mid.tets + 1 ≡ length before.tets + 1 + 1 = omega (arith, ap length mid_tets, length-append before.tets (h.0 ∷ [])) in
    let faces = flat_map face_line (enumerate_from (length after.tets + length before.tracked + 1) r.faces) in
    record {
      tets = h.0 ∷ r.tets;
      faces = r.faces;
      tets_are = r.tets_are ∙ ap (λ (ts : List MshTet). ts ++ r.tets) mid_tets ∙ append_assoc before.tets (h.0 ∷ []) r.tets;
      faces_are = r.faces_are ∙ ap (λ (fs : List Face). fs ++ r.faces) mid_faces;
      count = omega (arith, r.count);
      parted = inr none;
      text = spells ∙ ap (λ bs. word space place ++ bs) kind.spells ∙ tet_text is_node place last h.1 h.0 h.2
          ∙ ap (λ k. tet_line (k, h.0) ++ h.1) number
          ∙ ap (λ bs. tet_line (length before.tets + 1, h.0) ++ bs) (h.3.1 ∙ r.text
          ∙ ap (λ k. flat_map tet_line (enumerate_from k r.tets) ++ (flat_map face_line (enumerate_from (length after.tets + length mid.tracked + 1) r.faces) ++ rest)) next
          ∙ ap (λ (fs : List Face). flat_map tet_line (enumerate_from (length before.tets + 1 + 1) r.tets) ++ (flat_map face_line (enumerate_from (length after.tets + length fs + 1) r.faces) ++ rest)) mid_faces)
          ∙ sym (append_assoc (tet_line (length before.tets + 1, h.0)) (flat_map tet_line (enumerate_from (length before.tets + 1 + 1) r.tets)) (faces ++ rest));
    }

no_more_tets : (tets : List MshTet) (faces : List Face) (face : Face) → (tets ≡ []) ⊎ (faces ++ face ∷ [] ≡ []) → tets ≡ []
no_more_tets tets faces face (inl none) = none
no_more_tets tets faces face (inr none) = absurd (omega (arith, ap length none, length-append faces (face ∷ [])))

-- one more triangle, and those behind it
triangle_then : (is_node : ℕ → Bool) (n place : ℕ) (before mid after : Elements) (bytes behind last later rest : List ℕ) → place ≡ next_place before → bytes ≡ word space place ++ behind → Says kind_text (KindAllowed before.tracked) behind false last
    → Reads (more_triangles is_node before) last mid later → ElementsText n mid after later rest → ElementsText (suc n) before after bytes rest
unfolding Reads more_triangles
triangle_then is_node n place before mid after bytes behind last later rest place_is spells kind h r =
    let mid_tets : mid.tets ≡ before.tets = ap (λ (e : Elements). e.tets) (sym h.3.0) in
    let mid_faces : mid.tracked ≡ before.tracked ++ h.0 ∷ [] = ap (λ (e : Elements). e.tracked) (sym h.3.0) in
    let no_tets : r.tets ≡ [] = no_more_tets r.tets before.tracked h.0 (subst (λ (fs : List Face). (r.tets ≡ []) ⊎ (fs ≡ [])) mid_faces r.parted) in
    let after_tets : after.tets ≡ before.tets = r.tets_are ∙ ap (λ (ts : List MshTet). mid.tets ++ ts) no_tets ∙ append-nil mid.tets ∙ mid_tets in
    let number : place ≡ length after.tets + length before.tracked + 1 = omega (arith, place_is, ap length after_tets) in
    let next : length after.tets + length mid.tracked + 1 ≡ length after.tets + length before.tracked + 1 + 1 = omega (arith, ap length mid_faces, length-append before.tracked (h.0 ∷ [])) in
    record {
      tets = [];
      faces = h.0 ∷ r.faces;
      tets_are = after_tets ∙ sym (append-nil before.tets);
      faces_are = r.faces_are ∙ ap (λ (fs : List Face). fs ++ r.faces) mid_faces ∙ append_assoc before.tracked (h.0 ∷ []) r.faces;
      count = omega (arith, r.count, ap length no_tets);
      parted = inl refl;
      text = spells ∙ ap (λ bs. word space place ++ bs) kind.spells ∙ triangle_text is_node before.tracked place last h.1 h.0 h.2
          ∙ ap (λ k. face_line (k, h.0) ++ h.1) number
          ∙ ap (λ bs. face_line (length after.tets + length before.tracked + 1, h.0) ++ bs) (h.3.1 ∙ r.text
          ∙ ap (λ (ts : List MshTet). flat_map tet_line (enumerate_from (length mid.tets + 1) ts) ++ (flat_map face_line (enumerate_from (length after.tets + length mid.tracked + 1) r.faces) ++ rest)) no_tets
          ∙ ap (λ k. flat_map face_line (enumerate_from k r.faces) ++ rest) next)
          ∙ sym (append_assoc (face_line (length after.tets + length before.tracked + 1, h.0)) (flat_map face_line (enumerate_from (length after.tets + length before.tracked + 1 + 1) r.faces)) rest);
    }

one_then : (is_node : ℕ → Bool) (n place : ℕ) (before mid after : Elements) (bytes behind last later rest : List ℕ) (kind : Bool) → place ≡ next_place before → bytes ≡ word space place ++ behind → Says kind_text (KindAllowed before.tracked) behind kind last
    → Reads (choose kind (more_tets is_node before) (more_triangles is_node before)) last mid later → ElementsText n mid after later rest → ElementsText (suc n) before after bytes rest
one_then is_node n place before mid after bytes behind last later rest true place_is spells says h r = tet_then is_node n place before mid after bytes behind last later rest place_is spells says h r
one_then is_node n place before mid after bytes behind last later rest false place_is spells says h r = triangle_then is_node n place before mid after bytes behind last later rest place_is spells says h r

pub elements_text : (is_node : ℕ → Bool) (n : ℕ) (before after : Elements) (bytes rest : List ℕ) → Reads (repeat (more_elements is_node) n before) bytes after rest → ElementsText n before after bytes rest
unfolding Reads repeat more_elements
elements_text is_node zero before after bytes rest h = record {
  tets = [];
  faces = [];
  tets_are = ap (λ (e : Elements). e.tets) (sym h.0) ∙ sym (append-nil before.tets);
  faces_are = ap (λ (e : Elements). e.tracked) (sym h.0) ∙ sym (append-nil before.tracked);
  count = refl;
  parted = inl refl;
  text = h.1;
}
elements_text is_node (suc n) before after bytes rest h =
    let one = h.2 in
    let place_is : one.0 ≡ next_place before = omega (arith, one.2.allowed.0, one.2.allowed.1) in
    one_then is_node n one.0 before h.0 after bytes one.1 one.3.1 h.1 rest one.3.0 place_is one.2.spells one.3.2 one.3.3 (elements_text is_node n h.0 after h.1 rest h.3)

-- ---- the whole text
foot : List ℕ
foot = codes "$EndElements\n"

elements_part : (e : Elements) (n : ℕ) (bytes rest : List ℕ) → ElementsText n no_elements e bytes rest → (n ≡ length e.tets + length e.tracked) × (bytes ≡ flat_map tet_line (enumerate_from 1 e.tets) ++ (flat_map face_line (enumerate_from (length e.tets + 1) e.tracked) ++ rest))
elements_part e n bytes rest r = (
  sym r.count ∙ ap (λ (ts : List MshTet). length ts + length r.faces) (sym r.tets_are) ∙ ap (λ (fs : List Face). length e.tets + length fs) (sym r.faces_are),
  r.text ∙ ap (λ (ts : List MshTet). flat_map tet_line (enumerate_from 1 ts) ++ (flat_map face_line (enumerate_from (length e.tets + 0 + 1) r.faces) ++ rest)) (sym r.tets_are)
      ∙ ap (λ (fs : List Face). flat_map tet_line (enumerate_from 1 e.tets) ++ (flat_map face_line (enumerate_from (length e.tets + 0 + 1) fs) ++ rest)) (sym r.faces_are)
      ∙ ap (λ k. flat_map tet_line (enumerate_from 1 e.tets) ++ (flat_map face_line (enumerate_from k e.tracked) ++ rest)) (omega arith),
)

nodes_part : (d n : ℕ) (nodes : List MshNode) (bytes rest : List ℕ) → Reads (repeat (more_nodes d) n []) bytes nodes rest → (n ≡ length nodes) × (bytes ≡ flat_map (node_line d) nodes ++ rest)
nodes_part d n nodes bytes rest h =
    let r = repeat_text (more_nodes d) (λ e. node_line d e.1) (nodes_say d) n [] nodes bytes rest h in
    (sym r.count ∙ ap length (sym r.are), r.text ∙ ap (λ bs. bs ++ rest) (no_places (node_line d) 0 r.new ∙ ap (flat_map (node_line d)) (sym r.are)))

-- seven texts one behind the other
pub seven_texts : (a b c d e f g : List ℕ) → a ++ (b ++ (c ++ (d ++ (e ++ (f ++ g))))) ≡ a ++ b ++ c ++ d ++ e ++ f ++ g
seven_texts a b c d e f g = simp append_assoc

-- the text of the parts that were read
text_of_parts : (d : ℕ) (nodes : List MshNode) (e : Elements) → List ℕ → List ℕ
text_of_parts d nodes e rest = head_text ++ (count_line (length nodes) ++ (flat_map (node_line d) nodes ++ (middle_text ++ (count_line (length e.tets + length e.tracked) ++ (flat_map tet_line (enumerate_from 1 e.tets) ++ (flat_map face_line (enumerate_from (length e.tets + 1) e.tracked) ++ (foot ++ rest)))))))

text_is : (d : ℕ) (nodes : List MshNode) (e : Elements) (rest : List ℕ) → text_of_parts d nodes e rest ≡ msh_text (record { digits = d; nodes = nodes; tets = e.tets; tracked = e.tracked }) ++ rest
unfolding text_of_parts msh_text foot
text_is d nodes e rest = simp append_assoc

pub whole_text : (d : ℕ) (bytes rest : List ℕ) (m : MshMesh) → Reads (msh_rules d) bytes m rest → bytes ≡ msh_text m ++ rest
unfolding Reads msh_rules text_of_parts foot head_text middle_text
whole_text d bytes rest m h =
    let n = h.3 in
    let ns = n.3 in
    let mid = ns.3 in
    let e = mid.3 in
    let es = e.3 in
    let last = es.3 in
    let nodes = nodes_part d n.0 ns.0 n.1 ns.1 ns.2 in
    let elements = elements_part es.0 e.0 e.1 es.1 (elements_text (is_node ns.0) e.0 no_elements es.0 e.1 es.1 es.2) in
    lines_text head_lines bytes h.1 h.0 h.2
    ∙ ap (λ bs. head_text ++ bs) (n.2.spells ∙ ap (λ k. count_line k ++ n.1) nodes.0 ∙ ap (λ bs. count_line (length ns.0) ++ bs) (nodes.1 ∙ ap (λ bs. flat_map (node_line d) ns.0 ++ bs) (lines_text middle_lines ns.1 mid.1 mid.0 mid.2
    ∙ ap (λ bs. middle_text ++ bs) (e.2.spells ∙ ap (λ k. count_line k ++ e.1) elements.0 ∙ ap (λ bs. count_line (length es.0.tets + length es.0.tracked) ++ bs) (elements.1
    ∙ ap (λ bs. flat_map tet_line (enumerate_from 1 es.0.tets) ++ (flat_map face_line (enumerate_from (length es.0.tets + 1) es.0.tracked) ++ bs)) (last.2.spells ∙ ap (λ bs. codes "$EndElements\n" ++ bs) last.3.1))))))
    ∙ text_is d ns.0 es.0 rest
    ∙ ap (λ (x : MshMesh). msh_text x ++ rest) last.3.0

-- ---- the answers
pub is_text : (d : ℕ) (bytes rest : List ℕ) (m : MshMesh) → Reads (msh_rules d) bytes m rest → eqb (length rest) 0 ≡ true → IsTextOf d bytes m
is_text d bytes rest m h none =
    let empty : rest ≡ [] = nothing_left rest none in
    let text : msh_text m ≡ bytes = sym (whole_text d bytes rest m h ∙ ap (λ bs. msh_text m ++ bs) empty ∙ append-nil (msh_text m)) in
    record {
      rules = subst (λ bs. Reads (msh_rules d) bs m []) (sym text) (subst (λ bs. Reads (msh_rules d) bytes m bs) empty h);
      text = text;
    }

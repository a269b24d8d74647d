-- The nodes that the kept tetrahedra have.
use Rattle.std.proofs.Common.{◌≡◌, ℕ, suc, ◌+◌, ◌<◌, ◌≤◌, Bool, false, cond, List, [], ◌∷◌, All, length, map, take, get_or, filter, slice_index_or, refl, ap, ◌∙◌, arith}
use Rattle.std.proofs.lemmas.List.Elements.{All-more}
use Rattle.msh_text.specs.declared.file_mesh.MshNode.{MshNode}
use Rattle.msh_text.specs.declared.file_mesh.MshTet.{MshTet}
use Rattle.msh_text.specs.declared.file_mesh.MshMesh.{MshMesh}
use Rattle.grid.specs.declared.shapes.Face.{Face}
use Rattle.msh_text.specs.FileMesh.{is_used, kept_part, kept_tets, nodes_of}

abbrev pub no_node : MshNode
no_node = record { number = 0; at = [] }

-- the first i + 1 numbers are below a bound that is not lower
pub below_more : (nodes : List MshNode) (i low high : ℕ) (d : MshNode) → i < length nodes → All (λ n. n.number < low) (take i nodes) → low ≤ high → (get_or nodes i d).number < high → All (λ n. n.number < high) (take (i + 1) nodes)
below_more nodes i low high d lt h le below =
    All-more (λ (n : MshNode). n.number < high) nodes i d lt (λ k e short. omega (arith, h k e short, le)) below

filter_same : {X : Type 0} (p q : X → Bool) (xs : List X) → All (λ x. p x ≡ q x) xs → filter p xs ≡ filter q xs
filter_same p q [] h = refl
filter_same p q (x ∷ xs) h =
    ap (λ b. cond b (x ∷ filter p xs) (filter p xs)) (h 0 x (omega arith))
    ∙ ap (λ ys. cond (q x) (x ∷ ys) ys) (filter_same p q xs (λ k d short. h (suc k) d (omega (arith, short))))

-- marks for all numbers of nodes, which say what the tetrahedra have
pub marked_are : (marks items : List Bool) (tets : List MshTet) (nodes : List MshNode) (bound : ℕ) → marks ≡ items → All (λ n. n.number < bound) nodes → ((u : ℕ) → u < bound → slice_index_or items u false ≡ is_used (map (λ t. t.corners) tets) u) → filter (λ n. slice_index_or marks n.number false) nodes ≡ nodes_of tets nodes
marked_are marks items tets nodes bound same below right =
    filter_same (λ (n : MshNode). slice_index_or marks n.number false) (λ n. is_used (map (λ (t : MshTet). t.corners) tets) n.number) nodes
    (λ k d short. ap (λ (ms : List Bool). slice_index_or ms (get_or nodes k d).number false) same ∙ right (get_or nodes k d).number (below k d short))

pub kept_made : (m : MshMesh) (nodes : List MshNode) (tets : List MshTet) (tracked : List Face) → nodes ≡ nodes_of (kept_tets m.tets) m.nodes → tets ≡ kept_tets m.tets → tracked ≡ [] → record { digits = m.digits; nodes = nodes; tets = tets; tracked = tracked } ≡ kept_part m
kept_made m nodes tets tracked a b c = cc

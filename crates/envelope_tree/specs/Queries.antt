-- What a question holds, and what is known of it while the tree is gone through.
use Rattle.std.specs.Prelude.{◌≡◌, ℕ, ◌+◌, ◌*◌, ◌^◌, ◌<◌, ◌≤◌, ◌⊎◌, List, length, All, slice_index_or, pos}
use Rattle.grid.specs.declared.shapes.Tri.{Tri}
use Rattle.grid.specs.Boxes.{IsInBox}
use Rattle.grid.specs.Envelopes.{AreNear, IsNearTo}
use Rattle.grid.specs.Limits.{most_epsilon}
use Rattle.envelope_tree.specs.declared.bounds.Bounds.{Bounds}
use Rattle.envelope_tree.specs.declared.query.Query.{Query}
use Rattle.envelope_tree.specs.declared.tree.Node.{Node}
use Rattle.envelope_tree.specs.Gaps.{IsFar}

-- its points, scale and distance are in range, and the numbers kept beside them are theirs
pub record IsQuery (q : Query) : Type 0 where
  pub k_in : q.k ≤ 6
  pub a_in : IsInBox (2 ^ (18 + q.k)) q.a
  pub b_in : IsInBox (2 ^ (18 + q.k)) q.b
  pub c_in : IsInBox (2 ^ (18 + q.k)) q.c
  pub e_in : q.e ≤ most_epsilon
  pub scale : q.scale ≡ pos (2 ^ q.k)
  pub reach : q.reach ≡ pos (q.e * 2 ^ q.k * (q.e * 2 ^ q.k))

-- all its points are near to the triangle
abbrev pub IsNear : Query → Tri → Type 0
IsNear q tri = AreNear q.a q.b q.c q.k tri q.e

-- one of its points is farther than its distance from the box
abbrev pub IsOutOfReach : Query → Bounds → Type 0
IsOutOfReach q b = IsFar q.a q.k b q.e ⊎ IsFar q.b q.k b q.e ⊎ IsFar q.c q.k b q.e

-- all its points are near to the triangle of the number
abbrev pub IsFound : List Tri → Query → ℕ → Type 0
IsFound triangles q t = IsNearTo triangles q.a q.b q.c q.k q.e t

-- no found number of the list is below the limit
abbrev pub AreFrom : List Tri → Query → ℕ → List ℕ → Type 0
AreFrom triangles q limit numbers = All (λ t. IsFound triangles q t → limit ≤ t) numbers

-- the nodes from `end` on have been gone through: the limit is the least found number of theirs, or it is the count of triangles
pub record IsSeen (nodes : List Node) (triangles : List Tri) (q : Query) (end limit : ℕ) : Type 0 where
  pub end_in : end ≤ length nodes
  pub limit_in : limit ≤ length triangles
  pub found : limit < length triangles → IsFound triangles q limit
  pub rest : (i : ℕ) (d : Node) → end ≤ i → i < length nodes → AreFrom triangles q limit (slice_index_or nodes i d).numbers.items

-- the numbers before i have been gone through, beginning with a limit
pub record IsLowered (triangles : List Tri) (q : Query) (numbers : List ℕ) (limit i least : ℕ) : Type 0 where
  pub bound : least ≤ limit
  pub found : (least ≡ limit) ⊎ IsFound triangles q least
  pub least_of : (k : ℕ) → k < i → IsFound triangles q (slice_index_or numbers k 0) → least ≤ slice_index_or numbers k 0

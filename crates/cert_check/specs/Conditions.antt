-- What is known of the soup, the mesh file and the report.
use Rattle.std.specs.Prelude.{◌≡◌, ◌+◌, ◌*◌, ◌^◌, ◌≤◌, true, unsigned_abs, map, length, All}
use Rattle.int_algebra.specs.Within.{IsWithin}
use Rattle.grid.specs.Boxes.{IsTriInBox}
use Rattle.grid.specs.Limits.{IsSide, largest_side, most_epsilon, most_input, most_points}
use Rattle.grid.specs.Simplices.{Rises}
use Rattle.msh_text.specs.declared.file_mesh.MshNode.{MshNode}
use Rattle.msh_text.specs.declared.file_mesh.MshMesh.{MshMesh}
use Rattle.msh_text.specs.Rules.{is_node}
use Rattle.report_text.specs.declared.report.Report.{Report}
use Rattle.soup.specs.declared.raw.Soup.{Soup}

-- a soup in a box of the grid; the triangles lie in the largest box at least
pub record IsPlaced (soup : Soup) : Type 0 where
  pub side : IsSide soup.side
  pub shift : All (λ s. unsigned_abs s ≤ 2 * 10 ^ 9) soup.shift
  pub few : length soup.triangles ≤ most_input
  pub in_box : All (IsTriInBox largest_side) soup.triangles

-- ---- what the judgement uses of the rules of the texts
-- a node within the limits
pub record IsNode (node : MshNode) : Type 0 where
  pub high : node.number ≤ most_points
  pub near : All (IsWithin (2 * 10 ^ 9)) node.at

-- nodes within the limits whose numbers rise, corners that are nodes, and not too many elements
pub record IsMshMesh (m : MshMesh) : Type 0 where
  pub few_elements : length m.tets + length m.tracked ≤ 2 ^ 24
  pub nodes : All IsNode m.nodes
  pub numbers_rise : Rises (map (λ n. n.number) m.nodes)
  pub corners : All (λ t. All (λ c. is_node m.nodes c ≡ true) t.corners) m.tets
  pub triangle_corners : All (λ f. All (λ c. is_node m.nodes c ≡ true) f.0) m.tracked

-- an epsilon within its limit, and not too many lines
pub record IsReport (r : Report) : Type 0 where
  pub epsilon : r.epsilon ≤ most_epsilon
  pub few_outcomes : length r.outcomes ≤ most_input
  pub few_faces : length r.faces ≤ 2 ^ 24

-- The line that sums up a run.
use Rattle.std.specs.Prelude.{ℕ, ◌+◌, not, nat_eq, List, ◌++◌, length, count_by, codes, decimal, Option, Some, None}
use Rattle.mesh_types.specs.declared.outcome.Outcome.{Outcome}
use Rattle.mesh_types.specs.Turns.{is_rolled_back}
use Rattle.mesh_types.specs.declared.tries.End.{End}
use Rattle.report_text.specs.Rules.{end_text}
use Rattle.report_text.specs.declared.report.Second.{Second}
use Rattle.msh_text.specs.declared.file_mesh.MshMesh.{MshMesh}
use Rattle.mesher.specs.declared.mesh.Meshed.{Meshed}

-- the nodes and tetrahedra written, the tracked faces, and the kept tetrahedra
abbrev pub mesh_counts : MshMesh → List ℕ
mesh_counts m =
    codes "points " ++ decimal (length m.nodes) ++ codes " tets " ++ decimal (length m.tets) ++ codes " tracked " ++ decimal (length m.tracked)
    ++ codes " kept " ++ decimal (count_by (λ t. nat_eq t.tag 1) m.tets)

-- ---- both turns
-- the triangles that the second turn inserted
abbrev pub inserted_again : Option Second → ℕ
inserted_again (Some second) = count_by (λ a. not (is_rolled_back a.outcome)) second.again
inserted_again None = 0

-- the triangles that were rolled back in the last turn that they had
abbrev pub left_out : List Outcome → Option Second → ℕ
left_out outcomes (Some second) = count_by (λ a. is_rolled_back a.outcome) second.again
left_out outcomes None = count_by is_rolled_back outcomes

abbrev pub tries_again : Option Second → ℕ
tries_again (Some second) = length second.journal.lines
tries_again None = 0

abbrev pub last_end : End → Option Second → End
last_end end (Some second) = second.end
last_end end None = end

-- the triangles that were inserted in either turn, and the others
abbrev pub outcome_counts : Meshed → List ℕ
outcome_counts made =
    codes " inserted " ++ decimal (count_by (λ o. not (is_rolled_back o)) made.outcomes + inserted_again made.second)
    ++ codes " rolled-back " ++ decimal (left_out made.outcomes made.second)

-- the tries, and why there are no more
abbrev pub try_counts : Meshed → List ℕ
try_counts made = codes " tries " ++ decimal (length made.journal.lines + tries_again made.second) ++ codes " " ++ end_text (last_end made.end made.second)

-- the line of a run
unfoldable pub summary_line : MshMesh → Meshed → List ℕ
summary_line m made = mesh_counts m ++ outcome_counts made ++ try_counts made

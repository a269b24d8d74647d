-- The files are sound exactly where no fault is there.
use Rattle.std.proofs.Common.{◌≡◌, ℕ, ◌<◌, ◌≤◌, [], ◌∷◌, List, length, map, get_or, subst, All, arith, pos}
use Rattle.std.specs.List.{Contains}
use Rattle.std.proofs.lemmas.List.{length-map}
use Rattle.std.proofs.lemmas.List.Elements.{All-map}
use Rattle.std.proofs.Math.ListN.{get_or-map}
use Rattle.grid.specs.declared.shapes.Face.{Face}
use Rattle.grid.specs.Boxes.{IsInBox, IsOnOneSide}
use Rattle.grid.specs.Determinants.{IsPositive}
use Rattle.grid.specs.Simplices.{all_faces, rising, reversed}
use Rattle.msh_text.specs.declared.file_mesh.MshNode.{MshNode}
use Rattle.msh_text.specs.declared.file_mesh.MshTet.{MshTet}
use Rattle.face_table.specs.Occurrences.{occurrences}
use Rattle.face_table.specs.Pairing.{NoneTwice, LieOnSides}
use Rattle.cert_check.specs.FileMesh.{node_point}
use Rattle.cert_check.specs.Faults.{Case, IsTagOf, mesh_in, side_of}
use Rattle.cert_check.specs.declared.fault.Fault.{Fault}
use Rattle.cert_check.specs.declared.fault.Fault.TheVariants as faults
use Rattle.cert_check.specs.Laws.{SoundIsGood}
use Rattle.cert_check.specs.Passed.{Lacks, Passed}
use Rattle.cert_check.specs.Sound.{IsSound}
use Rattle.cert_check.proofs.Facts.{All-from_places, equal_lengths}
use Rattle.cert_check.proofs.Passing.{lacks_none}
use Rattle.cert_check.proofs.Turned.{triples_suffice}

abbrev no_node : MshNode
no_node = record { number = 0; at = [] }

abbrev no_tet : MshTet
no_tet = record { corners = []; tag = 0 }

abbrev no_face : Face
no_face = record { 0 = [] }

-- ---- no fault
pub IsSound-passed : (c : Case) → Passed c 10 → IsSound c
IsSound-passed c h =
    let zero : Face = record { 0 = [] } in record {
      header = h faults.Header (omega arith);
      nodes = All-from_places (λ node. IsInBox (side_of c) (node_point c.soup.shift node)) c.mesh.nodes no_node (h (faults.NotInBox 0) (omega arith));
      tiles = record {
        positive = All-map (IsPositive (mesh_in c).points) (λ (t : MshTet). t.corners) c.mesh.tets
            (All-from_places (λ (t : MshTet). IsPositive (mesh_in c).points t.corners) c.mesh.tets no_tet (h (faults.NotPositive 0) (omega arith)));
        fills = record {
          once = λ x y z. h (faults.Twice zero) (omega arith) (x ∷ y ∷ z ∷ []);
          rim = λ x y z some none. h (faults.Loose zero) (omega arith) (x ∷ y ∷ z ∷ []) some none;
          volume_is = h (faults.Volume (pos 0)) (omega arith);
          tracked_are = All-map (Contains (map rising (all_faces (mesh_in c).tets))) (λ (f : Face). f.0) c.mesh.tracked
              (All-from_places (λ (f : Face). Contains (map rising (all_faces (mesh_in c).tets)) f.0) c.mesh.tracked no_face (h (faults.NotAFace 0) (omega arith)));
        };
      };
      one_covering_each = equal_lengths (length c.mesh.tracked) (length c.report.faces) (λ i lt. (h (faults.NotCovered 0) (omega arith) i lt).in_mesh) (λ i lt. (h (faults.NotCovered 0) (omega arith) i lt).in_report);
      covered = λ i lt. h (faults.NotCovered 0) (omega arith) i (omega (arith, lt));
      tags = All-from_places (IsTagOf (mesh_in c).tets (mesh_in c).tracked) c.mesh.tets no_tet (h (faults.Region 0) (omega arith));
      lines = h (faults.TriangleLines 0) (omega arith);
    }

-- ---- sound files
of_map : {X Y : Type 0} (P : Y → Type 0) (f : X → Y) (xs : List X) (d : X) → All P (map f xs) → (i : ℕ) → i < length xs → P (f (get_or xs i d))
of_map P f xs d h i lt = subst P (get_or-map f xs i d) (h i (f d) (omega (arith, lt, length-map xs f)))

once_each : (c : Case) → IsSound c → NoneTwice (all_faces (mesh_in c).tets)
once_each c h f =
    let fs = all_faces (mesh_in c).tets in
    triples_suffice (λ g. occurrences g fs ≤ 1) fs h.tiles.fills.once f (λ none. omega (arith, none))

on_sides : (c : Case) → IsSound c → LieOnSides (mesh_in c).points (side_of c) (all_faces (mesh_in c).tets) (all_faces (mesh_in c).tets)
on_sides c h f =
    let fs = all_faces (mesh_in c).tets in
    triples_suffice (λ g. 0 < occurrences g fs → occurrences (reversed g) fs ≡ 0 → IsOnOneSide (mesh_in c).points (side_of c) g) fs h.tiles.fills.rim f
    (λ none some. absurd (omega (arith, none, some)))

lacks-sound : (c : Case) → IsSound c → (f : Fault) → Lacks c f
lacks-sound c h faults.Header = h.header
lacks-sound c h (faults.NotInBox n) = λ i lt. h.nodes i no_node lt
lacks-sound c h (faults.NotPositive n) = of_map (IsPositive (mesh_in c).points) (λ (t : MshTet). t.corners) c.mesh.tets no_tet h.tiles.positive
lacks-sound c h (faults.Twice f) = once_each c h
lacks-sound c h (faults.Loose f) = on_sides c h
lacks-sound c h (faults.Volume s) = h.tiles.fills.volume_is
lacks-sound c h (faults.NotAFace n) = of_map (Contains (map rising (all_faces (mesh_in c).tets))) (λ (f : Face). f.0) c.mesh.tracked no_face h.tiles.fills.tracked_are
lacks-sound c h (faults.NotCovered n) = λ i lt. h.covered i (omega (arith, lt, h.one_covering_each))
lacks-sound c h (faults.Region n) = λ i lt. h.tags i no_tet lt
lacks-sound c h (faults.TriangleLines n) = h.lines

pub sound_is_good : SoundIsGood
sound_is_good c h f = lacks_none c f (lacks-sound c h f)

-- A soup has one mesh.
use Rattle.std.proofs.Common.{◌≡◌, ◌-◌, ℕ, Option, None, Some, List, [], ◌∷◌, length, nat_abs, refl, sym, ◌∙◌, subst}
use Rattle.std.specs.List.{range_with_len}
use Rattle.std.proofs.Math.Path.{transport}
use Rattle.grid.specs.declared.shapes.Point.{Point}
use Rattle.grid.specs.declared.shapes.Tri.{Tri}
use Rattle.grid.specs.Meshes.{Mesh}
use Rattle.cover.proofs.ForCallers.{certificate_law}
use Rattle.mesh_types.specs.declared.outcome.Again.{Again}
use Rattle.mesh_types.specs.declared.outcome.Outcome.{Outcome}
use Rattle.mesh_types.specs.declared.tries.End.{End}
use Rattle.mesh_types.specs.declared.tries.TryLine.{TryLine}
use Rattle.mesh_types.specs.Certificates.{most_levels}
use Rattle.mesh_types.specs.Journals.{JournalRule, last_mesh, setting}
use Rattle.mesh_types.specs.Lattice.{lattice}
use Rattle.mesh_types.specs.Turns.{rolled_back}
use Rattle.mesh_types.specs.Verdicts.{Setting, face_at}
use Rattle.mesh_types.specs.Views.{mesh_of}
use Rattle.mesh_types.proofs.ForCallers.{one-journal, turns_law}
use Rattle.insertion.specs.InTurn.{outcomes_of, triangles_of}
use Rattle.report_text.specs.declared.report.Covering.{Covering}
use Rattle.report_text.specs.declared.report.Second.{Second}
use Rattle.mesher.specs.Meshed.{IsCoveringOf, AreCoverings, IsPart, IsSecondOrNone, OneMesh}

one_covering : (triangles : List Tri) (e : ℕ) (points : List Point) (t : List ℕ) (c d : Covering) → IsCoveringOf triangles e points t c → IsCoveringOf triangles e points t d → c ≡ d
one_covering triangles e points t c d f g =
    let face = f.face ∙ sym g.face in
    let cert = (certificate_law triangles e most_levels 0 (face_at points t) c.cert f.cert).1 d.cert g.cert in
    λ i. record { face = face i; cert = cert i }

one_list : (triangles : List Tri) (e : ℕ) (points : List Point) (ts : List (List ℕ)) (cs ds : List Covering) → AreCoverings triangles e points ts cs → AreCoverings triangles e points ts ds → cs ≡ ds
one_list triangles e points [] [] [] f g = refl
one_list triangles e points [] [] (d ∷ ds) f g = elim g [ ]
one_list triangles e points [] (c ∷ cs) ds f g = elim f [ ]
one_list triangles e points (t ∷ ts) [] ds f g = elim f [ ]
one_list triangles e points (t ∷ ts) (c ∷ cs) [] f g = elim g [ ]
one_list triangles e points (t ∷ ts) (c ∷ cs) (d ∷ ds) f g =
    let here = one_covering triangles e points t c d f.0 g.0 in
    let there = one_list triangles e points ts cs ds f.1 g.1 in
    λ i. here i ∷ there i

-- a part has one list of outcomes, one journal and one last mesh
record IsSamePart (os qs : List Outcome) (ls ks : List TryLine) (d e : End) (last other : Mesh) : Type 0 where
  outcomes : os ≡ qs
  lines : ls ≡ ks
  end : d ≡ e
  mesh : last ≡ other

one_part : (s : Setting) (numbers : List ℕ) (budget : ℕ) (start : Mesh) (outcomes others : List Outcome) (lines other_lines : List TryLine) (end other_end : End) (last other : Mesh)
    → IsPart s numbers budget start outcomes lines end last → IsPart s numbers budget start others other_lines other_end other → IsSamePart outcomes others lines other_lines end other_end last other
one_part s numbers budget start outcomes others lines other_lines end other_end last other f g =
    let turns = turns_law s.triangles s.epsilon numbers start outcomes others f.between g.between f.inserted g.inserted in
    let rule = subst (λ (m : Mesh). JournalRule s m budget lines end) turns.1 f.journal in
    let tries = one-journal s g.between budget lines other_lines end other_end rule g.journal in
    record {
      outcomes = turns.0;
      lines = tries.0;
      end = tries.1;
      mesh = f.mesh ∙ ((λ i. last_mesh s.side (turns.1 i) (tries.0 i)) ∙ sym g.mesh);
    }

head_same : {X : Type 0} (x y : X) (xs ys : List X) → x ∷ xs ≡ y ∷ ys → x ≡ y
head_same x y xs ys e = cc

tail_same : {X : Type 0} (x y : X) (xs ys : List X) → x ∷ xs ≡ y ∷ ys → xs ≡ ys
tail_same x y xs ys e = cc

one_again : (again others : List Again) → triangles_of again ≡ triangles_of others → outcomes_of again ≡ outcomes_of others → again ≡ others
one_again [] [] e f = refl
one_again [] (b ∷ others) e f = cc e
one_again (a ∷ again) [] e f = cc e
one_again (a ∷ again) (b ∷ others) e f =
    let triangle = head_same a.triangle b.triangle (triangles_of again) (triangles_of others) e in
    let outcome = head_same a.outcome b.outcome (outcomes_of again) (outcomes_of others) f in
    let rest = one_again again others (tail_same a.triangle b.triangle (triangles_of again) (triangles_of others) e) (tail_same a.outcome b.outcome (outcomes_of again) (outcomes_of others) f) in
    λ i. record { triangle = triangle i; outcome = outcome i } ∷ rest i

one_second : (s : Setting) (numbers : List ℕ) (budget : ℕ) (start : Mesh) (second other : Option Second) (last other_last : Mesh)
    → IsSecondOrNone s numbers budget start second last → IsSecondOrNone s numbers budget start other other_last → (second ≡ other) × (last ≡ other_last)
one_second s numbers budget start None None last other_last f g = (refl, f.1 ∙ sym g.1)
one_second s numbers budget start None (Some b) last other_last f g = absurd (g.0 f.0)
one_second s numbers budget start (Some a) None last other_last f g = absurd (f.0 g.0)
one_second s numbers budget start (Some a) (Some b) last other_last f g =
    let same = one_part s numbers budget start (outcomes_of a.again) (outcomes_of b.again) a.journal.lines b.journal.lines a.end b.end last other_last f.1.part g.1.part in
    let again = one_again a.again b.again (f.1.triangles ∙ sym g.1.triangles) same.outcomes in
    ((λ i. Some (record { again = again i; journal = record { lines = same.lines i }; end = same.end i })), same.mesh)

pub one_mesh : OneMesh
one_mesh soup e cells budget made other f g =
    let s = setting soup.triangles e soup.side in
    let first = one_part s (range_with_len 0 (length soup.triangles)) budget (lattice (nat_abs soup.side) cells) made.outcomes other.outcomes made.journal.lines other.journal.lines made.end other.end f.middle g.middle f.first g.first in
    let second = one_second s (rolled_back 0 other.outcomes) (budget - length other.journal.lines) g.middle made.second other.second (mesh_of made.mesh) (mesh_of other.mesh) (transport (λ i. IsSecondOrNone s (rolled_back 0 (first.outcomes i)) (budget - length (first.lines i)) (first.mesh i) made.second (mesh_of made.mesh)) f.second) g.second in
    record {
      mesh = second.1;
      outcomes = first.outcomes;
      lines = first.lines;
      end = first.end;
      second = second.0;
      faces = one_list soup.triangles e other.mesh.points (mesh_of other.mesh).tracked made.faces other.faces (subst (λ (m : Mesh). AreCoverings soup.triangles e m.points m.tracked made.faces) second.1 f.covered) g.covered;
    }

-- The mesh after the four phases.
use Rattle.std.proofs.Common.{◌≡◌, ℕ, ◌+◌, ◌<◌, ◌≤◌, Bool, true, false, ◌||◌, Option, Some, MatchOption, List, ◌++◌, length, All, refl, sym, ap, ◌∙◌, subst}
use Rattle.std.specs.List.{list_any}
use Rattle.std.proofs.lemmas.List.Folds.{list_any-append}
use Rattle.grid.specs.declared.shapes.Face.{Face}
use Rattle.grid.specs.declared.shapes.Point.{Point}
use Rattle.grid.specs.declared.shapes.Tri.{Tri}
use Rattle.grid.specs.Meshes.{Mesh, IsWellFormed, IsTriple}
use Rattle.grid.specs.Simplices.{has_all}
use Rattle.grid.specs.Views.{triples_of}
use Rattle.mesh_types.specs.declared.lists.Lists.{Lists}
use Rattle.mesh_types.specs.Phases.{cut_by, wanted, is_unresolved, section}
use Rattle.mesh_types.specs.declared.outcome.Defect.{Defect}
use Rattle.mesh_types.specs.declared.outcome.Outcome.TheVariants.{Inserted, RolledBack}
use Rattle.grid.specs.Envelopes.{triangle_at}
use Rattle.mesh_types.specs.Insertion.{NamesFirst, Has, IsFirstDefect, IsInsertion}
use Rattle.mesh_types.specs.Tracking.{with_tracked}
use Rattle.mesh_types.specs.Views.{mesh_of}
use Rattle.cutting_rule.proofs.ForCallers.{code-all, lower, section-triples, until-well_formed, until-points}
use Rattle.std.proofs.lemmas.List.Elements.{recursion_from_All}
use Rattle.plain_ops.specs.declared.inserting.PlainInsert.{PlainInsert}
use Rattle.plain_ops.specs.CutMeshes.{IsCutFrom, IsJudged}

-- ---- the cut mesh
pub cut-well_formed : (m : Mesh) (t : Tri) (n : Lists) → IsCutFrom m t n → IsWellFormed (mesh_of n)
cut-well_formed m t n h = subst IsWellFormed (sym h.cut.mesh) (until-well_formed m t 4 h.before)

pub cut-longer : (m : Mesh) (t : Tri) (n : Lists) → IsCutFrom m t n → length m.points ≤ length n.points
cut-longer m t n h = subst (λ (k : ℕ). length m.points ≤ k) (sym (ap (λ (x : Mesh). length x.points) h.cut.mesh)) (until-points m t 4)

pub faces-there : (n : Lists) (t : Tri) (fs : List Face) (points : List Point) → IsWellFormed (mesh_of n) → triples_of fs ≡ section (mesh_of n) t → points ≡ n.points → All (λ (f : Face). All (λ u. u < length points) f.0) fs
faces-there n t fs points w e p =
    subst (λ (ps : List Point). All (λ (f : Face). All (λ u. u < length ps) f.0) fs) (sym p)
    (code-all (λ f. All (λ u. u < length n.points) f) fs (section (mesh_of n) t) e (lower (length n.points) (section (mesh_of n) t) (section-triples (mesh_of n) t w.tets_are)))

pub tracked-there : (n : Lists) (fs : List Face) (points : List Point) → IsWellFormed (mesh_of n) → fs ≡ n.tracked → points ≡ n.points → All (λ (f : Face). All (λ u. u < length points) f.0) fs
tracked-there n fs points w e p =
    subst (λ (ps : List Point). All (λ (f : Face). All (λ u. u < length ps) f.0) fs) (sym p)
    (code-all (λ f. All (λ u. u < length n.points) f) fs (triples_of n.tracked) (ap triples_of e) (lower (length n.points) (triples_of n.tracked) (recursion_from_All (IsTriple (length n.points)) (triples_of n.tracked) w.triples_are)))

-- ---- edges of all phases
or_nested : (a b c d : Bool) → (((a || b) || c) || d) ≡ (a || (b || (c || (d || false))))
or_nested true b c d = refl
or_nested false true c d = refl
or_nested false false true d = refl
or_nested false false false true = refl
or_nested false false false false = refl

open-is : (m : Mesh) (t : Tri) (es : List (List ℕ)) → es ≡ ((wanted m t 0 ++ wanted m t 1) ++ wanted m t 2) ++ wanted m t 3 → (x : List ℕ) → list_any (has_all x) es ≡ is_unresolved m t x
open-is m t es e x =
    let p = has_all x in
    let a = wanted m t 0 in
    let b = wanted m t 1 in
    let c = wanted m t 2 in
    let d = wanted m t 3 in
    ap (list_any p) e
    ∙ (list_any-append p ((a ++ b) ++ c) d
    ∙ (ap (λ (q : Bool). q || list_any p d) (list_any-append p (a ++ b) c ∙ ap (λ (q : Bool). q || list_any p c) (list_any-append p a b))
    ∙ or_nested (list_any p a) (list_any p b) (list_any p c) (list_any p d)))

-- the first tetrahedron with one of the edges is the first with an edge that some phase wants
pub found-open : (m : Mesh) (t : Tri) (points : List Point) (tets : List (List ℕ)) (es : List (List ℕ)) (found : Option (List Point)) → points ≡ m.points → tets ≡ m.tets → es ≡ ((wanted m t 0 ++ wanted m t 1) ++ wanted m t 2) ++ wanted m t 3
    → MatchOption found (All (λ x. list_any (has_all x) es ≡ false) tets) (NamesFirst points (λ x. list_any (has_all x) es ≡ true) tets)
    → MatchOption found (All (λ x. is_unresolved m t x ≡ false) m.tets) (NamesFirst m.points (λ x. is_unresolved m t x ≡ true) m.tets)
found-open m t points tets es found ep et ee h =
    let test : (λ (x : List ℕ). list_any (has_all x) es) ≡ is_unresolved m t = λ j x. open-is m t es ee x j in
    subst (λ (A : Type 0). A) (λ j. MatchOption found (All (λ x. test j x ≡ false) (et j)) (NamesFirst (ep j) (λ x. test j x ≡ true) (et j))) h

-- ---- the outcome
pub undone-is : (triangles : List Tri) (t e : ℕ) (m : Mesh) (d : Defect) (r : PlainInsert) (before : Lists) → mesh_of before ≡ m → IsFirstDefect triangles t e m (cut_by m (triangle_at triangles t)) d → r ≡ record { mesh = before; outcome = RolledBack d } → IsInsertion triangles t e m r.outcome (mesh_of r.mesh)
undone-is triangles t e m d r before b first is = subst (λ (q : PlainInsert). IsInsertion triangles t e m q.outcome (mesh_of q.mesh)) (sym is) (first, b)

pub rolled_back-is : (triangles : List Tri) (t e : ℕ) (m : Mesh) (n : Lists) (d : Defect) (found : Option Defect) (r : PlainInsert) (before : Lists) → mesh_of before ≡ m → IsCutFrom m (triangle_at triangles t) n → IsJudged triangles t e m (mesh_of n) found → found ≡ Some d → r ≡ record { mesh = before; outcome = RolledBack d } → IsInsertion triangles t e m r.outcome (mesh_of r.mesh)
rolled_back-is triangles t e m n d found r before b h judged is e_r =
    let first : IsFirstDefect triangles t e m (mesh_of n) d = subst (IsJudged triangles t e m (mesh_of n)) is judged in
    undone-is triangles t e m d r before b (subst (λ (x : Mesh). IsFirstDefect triangles t e m x d) h.cut.mesh first) e_r

pub inserted-is : (triangles : List Tri) (t e : ℕ) (m : Mesh) (n : Lists) (count : ℕ) (fs : List (List ℕ)) (after : Mesh) → IsCutFrom m (triangle_at triangles t) n → ((d : Defect) → ¬ Has triangles t e m (mesh_of n) d) → length m.points + count ≡ length n.points → fs ≡ section (mesh_of n) (triangle_at triangles t) → after ≡ with_tracked (mesh_of n) fs → IsInsertion triangles t e m (Inserted count) after
inserted-is triangles t e m n count fs after h none counted faces is =
    let tri = triangle_at triangles t in
    subst (λ (x : Mesh). ((d : Defect) → ¬ Has triangles t e m x d) × (length m.points + count ≡ length x.points) × (after ≡ with_tracked x (section x tri))) h.cut.mesh
    (none, counted, is ∙ ap (with_tracked (mesh_of n)) faces)

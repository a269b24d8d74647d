-- An insertion has one outcome, and leaves one mesh.
use Rattle.std.proofs.Common.{◌≡◌, ℕ, suc, ◌<◌, List, [], ◌∷◌, ◌++◌, length, refl, sym, ap, ◌∙◌, subst, arith}
use Rattle.std.specs.List.{AllByRecursion as Each}
use Rattle.std.proofs.lemmas.List.Elements.{recursion_from_All}
use Rattle.grid.specs.declared.shapes.Point.{Point}
use Rattle.grid.specs.declared.shapes.Tri.{Tri}
use Rattle.grid.specs.Envelopes.{triangle_at}
use Rattle.grid.specs.Meshes.{Mesh}
use Rattle.mesh_types.specs.declared.outcome.Defect.{Defect}
use Rattle.mesh_types.specs.declared.outcome.Defect.TheVariants.{Degenerate, Full, Inverted, Unresolved, Stray, Uncovered}
use Rattle.mesh_types.specs.declared.outcome.Outcome.{Outcome}
use Rattle.mesh_types.specs.declared.outcome.Outcome.TheVariants.{Inserted, RolledBack}
use Rattle.mesh_types.specs.Insertion.{NamesFirst, Has, rank, IsFirstDefect, IsInsertion}
use Rattle.mesh_types.specs.Phases.{points_of, cut_by}
use Rattle.mesh_types.specs.Turns.{AreInserted, TurnsLaw}

-- ---- the first that has a fault
first_same : (P : List ℕ → Type 0) (b c : List (List ℕ)) (x y : List ℕ) (bs cs : List (List ℕ)) → b ++ x ∷ bs ≡ c ++ y ∷ cs → Each (λ z. ¬ P z) b → Each (λ z. ¬ P z) c → P x → P y → x ≡ y
first_same P [] [] x y bs cs e f g p q = cc
first_same P [] (z ∷ c) x y bs cs e f g p q = let is : x ≡ z = cc in absurd (g.0 (subst P is p))
first_same P (z ∷ b) [] x y bs cs e f g p q = let is : z ≡ y = cc in absurd (f.0 (subst P (sym is) q))
first_same P (z ∷ b) (w ∷ c) x y bs cs e f g p q = let rest : b ++ x ∷ bs ≡ c ++ y ∷ cs = cc in first_same P b c x y bs cs rest f.1 g.1 p q

names_same : (points : List Point) (P : List ℕ → Type 0) (xs : List (List ℕ)) (named other : List Point) → NamesFirst points P xs named → NamesFirst points P xs other → named ≡ other
names_same points P xs named other f g =
    let same = first_same P f.before g.before f.simplex g.simplex f.after g.after (sym f.list ∙ g.list) (recursion_from_All (λ z. ¬ P z) f.before f.earlier) (recursion_from_All (λ z. ¬ P z) g.before g.earlier) f.fault g.fault in
    f.corners ∙ ap (points_of points) same ∙ sym g.corners

-- ---- defects
-- two defects of one kind are equal
same_kind : (triangles : List Tri) (t e : ℕ) (m n : Mesh) (c d : Defect) → Has triangles t e m n c → Has triangles t e m n d → rank c ≡ rank d → c ≡ d
same_kind triangles t e m n Degenerate Degenerate f g k = refl
same_kind triangles t e m n Full Full f g k = refl
same_kind triangles t e m n (Inverted a) (Inverted b) f g k = ap Inverted (names_same n.points _ n.tets a b f g)
same_kind triangles t e m n (Unresolved a) (Unresolved b) f g k = ap Unresolved (names_same n.points _ n.tets a b f g)
same_kind triangles t e m n (Stray a) (Stray b) f g k = ap Stray (names_same n.points _ _ a b f g)
same_kind triangles t e m n (Uncovered a) (Uncovered b) f g k = ap Uncovered (names_same n.points _ n.tracked a b f g)
same_kind triangles t e m n c d f g k = cc k

one_defect : (triangles : List Tri) (t e : ℕ) (m n : Mesh) (c d : Defect) → IsFirstDefect triangles t e m n c → IsFirstDefect triangles t e m n d → c ≡ d
one_defect triangles t e m n c d f g =
    let not_below : ¬ (rank c < rank d) = λ l. g.none_earlier c l f.holds in
    let not_above : ¬ (rank d < rank c) = λ l. f.none_earlier d l g.holds in
    let same : rank c ≡ rank d = omega (arith, not_below, not_above) in
    same_kind triangles t e m n c d f.holds g.holds same

-- ---- outcomes
one_outcome : (triangles : List Tri) (t e : ℕ) (m : Mesh) (o p : Outcome) (n k : Mesh) → IsInsertion triangles t e m o n → IsInsertion triangles t e m p k → (o ≡ p) × (n ≡ k)
one_outcome triangles t e m (RolledBack c) (RolledBack d) n k f g = (ap RolledBack (one_defect triangles t e m (cut_by m (triangle_at triangles t)) c d f.0 g.0), f.1 ∙ sym g.1)
one_outcome triangles t e m (RolledBack c) (Inserted b) n k f g = absurd (g.0 c f.0.holds)
one_outcome triangles t e m (Inserted a) (RolledBack d) n k f g = absurd (f.0 d g.0.holds)
one_outcome triangles t e m (Inserted a) (Inserted b) n k f g =
    let same : a ≡ b = omega (arith, f.1, g.1) in
    (ap Inserted same, f.2 ∙ sym g.2)

pub turns_law : TurnsLaw
turns_law triangles e [] m [] [] last other f g = (refl, f ∙ sym g)
turns_law triangles e [] m [] (p ∷ ps) last other f g = elim g [ ]
turns_law triangles e [] m (o ∷ os) others last other f g = elim f [ ]
turns_law triangles e (t ∷ ts) m [] others last other f g = elim f [ ]
turns_law triangles e (t ∷ ts) m (o ∷ os) [] last other f g = elim g [ ]
turns_law triangles e (t ∷ ts) m (o ∷ os) (p ∷ ps) last other f g =
    let here = one_outcome triangles t e m o p f.0 g.0 f.1 g.1 in
    let there = turns_law triangles e ts f.0 os ps last other f.2 (subst (λ z. AreInserted triangles e ts z ps other) (sym here.1) g.2) in
    ((λ i. here.0 i ∷ there.0 i), there.1)

-- triangles that are inserted in turn have an outcome each
pub one-each : (triangles : List Tri) (e : ℕ) (numbers : List ℕ) (m last : Mesh) (outcomes : List Outcome) → AreInserted triangles e numbers m outcomes last → length outcomes ≡ length numbers
one-each triangles e [] m last [] is = refl
one-each triangles e [] m last (o ∷ outcomes) is = elim is [ ]
one-each triangles e (t ∷ numbers) m last [] is = elim is [ ]
one-each triangles e (t ∷ numbers) m last (o ∷ outcomes) is = ap suc (one-each triangles e numbers is.0 last outcomes is.2)

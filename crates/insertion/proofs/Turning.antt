-- Triangles inserted in turn: one more.
use Rattle.std.proofs.Common.{◌≡◌, ◌⊎◌, ℕ, zero, suc, ◌+◌, ◌-◌, ◌≤◌, pos, List, [], ◌∷◌, ◌++◌, All, Result, Ok, Err, OnErr, refl, sym, ap, ◌∙◌, subst, inl, inr, arith}
use Rattle.std.specs.List.{range_with_len}
use Rattle.std.proofs.lemmas.Int.{by_lt_z}
use Rattle.std.proofs.lemmas.List.Elements.{All-from_recursion, recursion_from_All}
use lib.Signed.{clash_ℤ}
use Rattle.grid.specs.declared.shapes.Point.{Point}
use Rattle.grid.specs.declared.shapes.Tri.{Tri}
use Rattle.grid.specs.Determinants.{IsPositive, det_at}
use Rattle.grid.specs.Envelopes.{triangle_at}
use Rattle.grid.specs.Meshes.{Mesh, Tiles}
use Rattle.mesh_types.specs.declared.outcome.Defect.TheVariants.{Inverted}
use Rattle.mesh_types.specs.declared.outcome.Outcome.{Outcome}
use Rattle.mesh_types.specs.declared.outcome.Outcome.TheVariants.{Inserted, RolledBack}
use Rattle.mesh_types.specs.Insertion.{NamesFirst, IsInsertion}
use Rattle.mesh_types.specs.Journals.{AllPositive}
use Rattle.mesh_types.specs.Phases.{points_of, cut_by}
use Rattle.mesh_types.specs.Tracking.{with_tracked}
use Rattle.mesh_types.specs.Turns.{AreInserted}
use Rattle.insertion.specs.Bare.{IsCovered}
use Rattle.insertion.specs.InTurn.{AreTurns, AreSomeTurns}

-- ---- outcomes
pub inserted-push : (triangles : List Tri) (e t : ℕ) (numbers : List ℕ) (start m made : Mesh) (outcomes : List Outcome) (o : Outcome)
    → AreInserted triangles e numbers start outcomes m → IsInsertion triangles t e m o made → AreInserted triangles e (numbers ++ t ∷ []) start (outcomes ++ o ∷ []) made
inserted-push triangles e t [] start m made (p ∷ outcomes) o is more = elim is [ ]
inserted-push triangles e t (n ∷ numbers) start m made [] o is more = elim is [ ]
inserted-push triangles e t [] start m made [] o is more = (made, subst (λ z. IsInsertion triangles t e z o made) is more, refl)
inserted-push triangles e t (n ∷ numbers) start m made (p ∷ outcomes) o is more =
    (is.0, is.1, inserted-push triangles e t numbers is.0 m made outcomes o is.2 more)

-- ---- signs
positive_or_not : (points : List Point) (x : List ℕ) → IsPositive points x ⊎ ¬ IsPositive points x
positive_or_not points x = by_lt_z (pos 0) (det_at points x) (λ l. inl l) (λ l. inr (λ h. clash_ℤ h l))

-- each passes, or there is a first that does not
abbrev AllOrFirst : (points : List Point) (P : List ℕ → Type 0) → List (List ℕ) → Type 0
AllOrFirst points P xs = All P xs ⊎ ((named : List Point) × NamesFirst points (λ x. ¬ P x) xs named)

with_passed : (points : List Point) (P : List ℕ → Type 0) (x : List ℕ) (xs : List (List ℕ)) → P x → AllOrFirst points P xs → AllOrFirst points P (x ∷ xs)
with_passed points P x xs p (inl all) = inl (All-from_recursion P (x ∷ xs) (p, recursion_from_All P xs all))
with_passed points P x xs p (inr r) = inr (
  r.0,
  record {
    before = x ∷ r.1.before;
    simplex = r.1.simplex;
    after = r.1.after;
    list = ap (λ ys. x ∷ ys) r.1.list;
    earlier = All-from_recursion (λ y. ¬ ¬ P y) (x ∷ r.1.before) ((λ fails. fails p), recursion_from_All (λ y. ¬ ¬ P y) r.1.before r.1.earlier);
    fault = r.1.fault;
    corners = r.1.corners;
  },
)

all_or_first : (points : List Point) (P : List ℕ → Type 0) → ((x : List ℕ) → P x ⊎ ¬ P x) → (xs : List (List ℕ)) → AllOrFirst points P xs
all_or_first points P decide [] = inl (All-from_recursion P [] tt)
all_or_first points P decide (x ∷ xs) = step (decide x) (all_or_first points P decide xs)
  where
    step : P x ⊎ ¬ P x → AllOrFirst points P xs → AllOrFirst points P (x ∷ xs)
    step (inl p) rest = with_passed points P x xs p rest
    step (inr fails) rest = inr (points_of points x, record { before = []; simplex = x; after = xs; list = refl; earlier = All-from_recursion (λ y. ¬ ¬ P y) [] tt; fault = fails; corners = refl })

-- an inserted triangle leaves no tetrahedron that is not positive
positive-inserted : (triangles : List Tri) (e t : ℕ) (m made : Mesh) (o : Outcome) → AllPositive m → IsInsertion triangles t e m o made → AllPositive made
unfolding with_tracked
positive-inserted triangles e t m made (RolledBack d) positive is = subst AllPositive (sym is.1) positive
positive-inserted triangles e t m made (Inserted count) positive is =
    subst AllPositive (sym is.2) (cases (all_or_first n.points (IsPositive n.points) (λ x. positive_or_not n.points x) n.tets))
  where
    n : Mesh
    n = cut_by m (triangle_at triangles t)

    cases : All (IsPositive n.points) n.tets ⊎ ((named : List Point) × NamesFirst n.points (λ x. ¬ IsPositive n.points x) n.tets named) → AllPositive n
    cases (inl all) = all
    cases (inr found) = absurd (is.0 (Inverted found.0) found.1)

-- ---- turns
pub no-turns : (triangles : List Tri) (e : ℕ) (start : Mesh) → AreTurns triangles e [] start [] start
no-turns triangles e start = record { inserted = refl; positive = λ h. h; tiles = λ l h. h; covered = λ h. h }

-- one more triangle, by what `insert` says of it
pub turns-push : (triangles : List Tri) (e t : ℕ) (numbers : List ℕ) (start m made : Mesh) (outcomes : List Outcome) (o : Outcome)
    → AreTurns triangles e numbers start outcomes m
    → IsInsertion triangles t e m o made
    → ((l : ℕ) → Tiles m l → Tiles made l)
    → (All (IsCovered triangles e m.points) m.tracked → All (IsCovered triangles e made.points) made.tracked)
    → AreTurns triangles e (numbers ++ t ∷ []) start (outcomes ++ o ∷ []) made
turns-push triangles e t numbers start m made outcomes o so_far is tiles covered = record {
  inserted = inserted-push triangles e t numbers start m made outcomes o so_far.inserted is;
  positive = λ h. positive-inserted triangles e t m made o (so_far.positive h) is;
  tiles = λ l h. tiles l (so_far.tiles l h);
  covered = λ h. covered (so_far.covered h);
}

-- numbers in a row, in two parts
range-parts : (a k n b : ℕ) → a + k ≡ b → range_with_len a (k + n) ≡ range_with_len a k ++ range_with_len b n
range-parts a zero n b e =
    let same : a ≡ b = omega (arith, e) in
    let none : 0 + n ≡ n = omega arith in
    ap (λ k. range_with_len a k) none ∙ ap (λ c. range_with_len c n) same
range-parts a (suc k) n b e =
    let next : suc k + n ≡ suc (k + n) = omega arith in
    ap (λ m. range_with_len a m) next ∙ ap (λ ns. a ∷ ns) (range-parts (a + 1) k n b (omega (arith, e)))

pub range-push : (t : ℕ) → range_with_len 0 (t + 1) ≡ range_with_len 0 t ++ t ∷ []
range-push t = range-parts 0 t 1 t (omega arith)

pub on_err : {X E : Type 0} {P : Type 0} (r : Result X E) → P → OnErr r P
on_err (Ok x) p = tt
on_err (Err e) p = p

-- the first t of n triangles
pub first-turns : (triangles : List Tri) (e t n : ℕ) (start m : Mesh) (outcomes : List Outcome) → t ≤ n → AreTurns triangles e (range_with_len 0 t) start outcomes m → AreSomeTurns triangles e (range_with_len 0 n) start m
first-turns triangles e t n start m outcomes le turns = record {
  some = range_with_len 0 t;
  others = range_with_len t (n - t);
  first = ap (range_with_len 0) (omega (arith, le)) ∙ range-parts 0 t (n - t) t (omega arith);
  outcomes = outcomes;
  turns = turns;
}

-- Section faces are triples of points.
use Rattle.std.proofs.Common.{◌≡◌, ℕ, ◌<◌, Bool, true, false, ◌||◌, nat_eq, List, [], ◌∷◌, map, length, get_or, All, refl, sym, ◌∙◌, subst, inl, inr, arith}
use Rattle.std.specs.List.{filter, AllByRecursion as Each}
use Rattle.std.proofs.lemmas.Bool.{cases_Bool}
use Rattle.std.proofs.lemmas.Bool.Decides.{nat_tests}
use Rattle.std.proofs.lemmas.List.Elements.{All-from_recursion, recursion_from_All}
use Rattle.grid.specs.declared.shapes.Face.{Face}
use Rattle.grid.specs.declared.shapes.Tri.{Tri}
use Rattle.grid.specs.Meshes.{Mesh, IsTriple}
use Rattle.grid.specs.Simplices.{faces, all_faces, rising, AreDifferent, IsTet}
use Rattle.grid.specs.Views.{triples_of}
use Rattle.mesh_types.specs.Phases.{section, is_section_face}
use Rattle.grid.proofs.ForCallers.{Each-of_flat_map, has-rising, rising-Rises, length-rising, Each-face, has-get_or}
use Rattle.mesh_types.proofs.ForCallers.{Each-map, Each-in_order_once}
use Rattle.cutting_rule.proofs.Naming.{all-has, all-index}

pub code-all : (P : List ℕ → Type 0) (fs : List Face) (ts : List (List ℕ)) → triples_of fs ≡ ts → Each P ts → All (λ (f : Face). P f.0) fs
code-all P fs ts e h = All-from_recursion (λ (f : Face). P f.0) fs (Each-face P fs (subst (Each P) (sym e) h))

pub lower : (n : ℕ) (ts : List (List ℕ)) → Each (IsTriple n) ts → Each (λ t. All (λ u. u < n) t) ts
lower n [] h = tt
lower n (t ∷ ts) h = (h.0.in_range, lower n ts h.1)

-- ---- section faces
record IsFace (n : ℕ) (f : List ℕ) : Type 0 where
  three : length f ≡ 3
  different : AreDifferent f
  low : Each (λ u. u < n) f

has3 : (a b c d : ℕ) → (nat_eq b a || (nat_eq c a || (nat_eq d a || false))) ≡ false → (nat_eq b a ≡ false) × ((nat_eq c a ≡ false) × (nat_eq d a ≡ false))
has3 a b c d h = at (nat_eq b a) (nat_eq c a) (nat_eq d a) h
  where
    at : (p q r : Bool) → (p || (q || (r || false))) ≡ false → (p ≡ false) × ((q ≡ false) × (r ≡ false))
    at true q r h = cc
    at false true r h = cc
    at false false true h = cc
    at false false false h = (refl, (refl, refl))

flip : (a b : ℕ) → nat_eq a b ≡ false → nat_eq b a ≡ false
flip a b h = grind (arith, nat_tests)

two : (p q : Bool) → p ≡ false → q ≡ false → (p || (q || false)) ≡ false
two p q e f = rw (e, f) refl

one : (p : Bool) → p ≡ false → (p || false) ≡ false
one p e = rw e refl

or2 : (p q : Bool) → (p || (q || false)) ≡ false → (p ≡ false) × (q ≡ false)
or2 true q h = cc
or2 false true h = cc
or2 false false h = (refl, refl)

or1 : (p : Bool) → (p || false) ≡ false → p ≡ false
or1 true h = cc
or1 false h = refl

face-of : (n a b c : ℕ) → nat_eq b a ≡ false → nat_eq c a ≡ false → nat_eq c b ≡ false → a < n → b < n → c < n → IsFace n (a ∷ b ∷ c ∷ [])
face-of n a b c ab ac bc ha hb hc = record { three = refl; different = (two _ _ ab ac, (one _ bc, (refl, tt))); low = (ha, (hb, (hc, tt))) }

tet-faces : (n : ℕ) (x : List ℕ) → AreDifferent x → Each (λ c. c < n) x → Each (IsFace n) (faces x)
tet-faces n (a ∷ b ∷ c ∷ d ∷ []) h k =
    let pa = has3 a b c d h.0 in
    let pb = or2 (nat_eq c b) (nat_eq d b) h.1.0 in
    let pc = or1 (nat_eq d c) h.1.1.0 in
    let ha = k.0 in
    let hb = k.1.0 in
    let hc = k.1.1.0 in
    let hd = k.1.1.1.0 in
    (face-of n a c b pa.1.0 pa.0 (flip c b pb.0) ha hc hb, (face-of n a b d pa.0 pa.1.1 pb.1 ha hb hd, (face-of n a d c pa.1.1 pa.1.0 (flip d c pc) ha hd hc, (face-of n b c d pb.0 pb.1 pc hb hc hd, tt))))
tet-faces n [] h k = tt
tet-faces n (a ∷ []) h k = tt
tet-faces n (a ∷ b ∷ []) h k = tt
tet-faces n (a ∷ b ∷ c ∷ []) h k = tt
tet-faces n (a ∷ b ∷ c ∷ d ∷ e ∷ x) h k = tt

each-filter : (P : List ℕ → Type 0) (test : List ℕ → Bool) (xs : List (List ℕ)) → Each P xs → Each P (filter test xs)
each-filter P test [] h = tt
each-filter P test (x ∷ xs) h = elim (cases_Bool (test x)) [
  | inl e ↦ rw e (h.0, each-filter P test xs h.1)
  | inr e ↦ rw e (each-filter P test xs h.1)
]

rising-triple : (n : ℕ) (f : List ℕ) → IsFace n f → IsTriple n (rising f)
rising-triple n f h = record {
  three = length-rising f ∙ h.three;
  rises = rising-Rises f h.different;
  in_range = all-index (λ u. u < n) (rising f) (λ k lt. all-has (λ u. u < n) f (get_or (rising f) k 0) (All-from_recursion (λ u. u < n) f h.low) (sym (has-rising f (get_or (rising f) k 0)) ∙ has-get_or (rising f) k lt));
}

-- the section faces are triples of points
pub section-triples : (m : Mesh) (t : Tri) → All (IsTet (length m.points)) m.tets → Each (IsTriple (length m.points)) (section m t)
unfolding section
section-triples m t h =
    let n = length m.points in
    let all : Each (IsFace n) (all_faces m.tets) = Each-of_flat_map (IsTet n) (IsFace n) faces (λ x k. tet-faces n x k.different (recursion_from_All (λ c. c < n) x k.in_range)) m.tets (recursion_from_All (IsTet n) m.tets h) in
    Each-in_order_once (IsTriple n) (map rising (filter (is_section_face m.points t) (all_faces m.tets)))
    (Each-map (IsFace n) (IsTriple n) rising (rising-triple n) (filter (is_section_face m.points t) (all_faces m.tets)) (each-filter (IsFace n) (is_section_face m.points t) (all_faces m.tets) all))

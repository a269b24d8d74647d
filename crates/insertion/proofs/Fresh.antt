-- A tracked triple of the cut mesh was there before, or has a new corner.
use Rattle.std.proofs.Common.{◌≡◌, ◌⊎◌, ℕ, zero, suc, true, ◌||◌, List, [], ◌∷◌, map, length, All, refl, sym, ap, ◌∙◌, subst, inl, inr, arith}
use Rattle.std.specs.List.{Contains, flat_map, AllByRecursion as Each}
use Rattle.std.proofs.lemmas.Bool.{cases_Bool, or_left, or_right, true≢false}
use Rattle.std.proofs.lemmas.List.Elements.{All-from_recursion, recursion_from_All}
use Rattle.std.proofs.lemmas.Map.Views.{Contains-from_any}
use Rattle.grid.specs.declared.shapes.Tri.{Tri}
use Rattle.grid.specs.Meshes.{Mesh, IsWellFormed, IsTriple}
use Rattle.grid.specs.Simplices.{rising, Rises, same_triple}
use Rattle.mesh_types.specs.declared.cut.Cut.{Cut}
use Rattle.mesh_types.specs.Phases.{wanted_cuts}
use Rattle.mesh_types.specs.Refines.{refine, sub_all, is_touched}
use Rattle.grid.proofs.ForCallers.{Each-weaker, Each-of_flat_map, has-rising}
use Rattle.mesh_types.proofs.ForCallers.{Each-map, Each-in_order, sub_all-untouched, is_among, equal_to, equal_from}
use Rattle.mesh_store.proofs.ForCallers.{rising-risen}
use Rattle.insertion.proofs.NewPieces.{HasNew, touched-new}
use Rattle.cutting_rule.specs.Until.{until}
use Rattle.cutting_rule.proofs.ForCallers.{until-well_formed, until-points}
use Rattle.insertion.specs.Bare.{HasNewCorner}

-- ---- new corners
abbrev OldOrNew : List (List ℕ) → ℕ → List ℕ → Type 0
OldOrNew tracked n f = (is_among f tracked ≡ true) ⊎ HasNewCorner n f

all-among : (xs : List (List ℕ)) → Each (λ x. is_among x xs ≡ true) xs
all-among [] = tt
all-among (x ∷ xs) = (or_left (same_triple x x) (is_among x xs) (equal_to x x refl), Each-weaker (λ y. is_among y xs ≡ true) (λ y. is_among y (x ∷ xs) ≡ true) (λ y h. or_right (same_triple y x) (is_among y xs) h) xs (all-among xs))

both : (P Q : List ℕ → Type 0) (xs : List (List ℕ)) → Each P xs → Each Q xs → Each (λ x. P x × Q x) xs
both P Q [] h k = tt
both P Q (x ∷ xs) h k = ((h.0, k.0), both P Q xs h.1 k.1)

piece-old : (tracked : List (List ℕ)) (k : ℕ) (es : List Cut) (x : List ℕ) → (is_among x tracked ≡ true) × Rises x → Each (λ y. OldOrNew tracked k (rising y)) (sub_all k es x)
piece-old tracked k es x h = elim (cases_Bool (is_touched es x)) [
  | inl e ↦ Each-weaker (HasNew k) (λ y. OldOrNew tracked k (rising y)) (λ y n. inr (record { corner = n.corner; there = has-rising y n.corner ∙ n.there; new = n.new })) (sub_all k es x) (touched-new k k es x (omega arith) e)
  | inr e ↦ subst (Each (λ y. OldOrNew tracked k (rising y))) (sym (sub_all-untouched k es x e)) (inl (subst (λ y. is_among y tracked ≡ true) (sym (rising-risen x h.1)) h.0), tt)
]

fresh-refine : (m : Mesh) (es : List Cut) → IsWellFormed m → Each (OldOrNew m.tracked (length m.points)) (refine m es).tracked
unfolding refine
fresh-refine m es w =
    let k = length m.points in
    let rises : Each Rises m.tracked = Each-weaker (IsTriple k) Rises (λ x h. h.rises) m.tracked (recursion_from_All (IsTriple k) m.tracked w.triples_are) in
    let start = both (λ x. is_among x m.tracked ≡ true) Rises m.tracked (all-among m.tracked) rises in
    Each-in_order (OldOrNew m.tracked k) (map rising (flat_map (sub_all k es) m.tracked))
    (Each-map (λ y. OldOrNew m.tracked k (rising y)) (OldOrNew m.tracked k) rising (λ y h. h) (flat_map (sub_all k es) m.tracked)
    (Each-of_flat_map (λ x. (is_among x m.tracked ≡ true) × Rises x) (λ y. OldOrNew m.tracked k (rising y)) (sub_all k es) (piece-old m.tracked k es) m.tracked start))

each-at : (P : List ℕ → Type 0) (xs : List (List ℕ)) (f : List ℕ) → Each P xs → is_among f xs ≡ true → P f
each-at P [] f h e = absurd (true≢false (sym e))
each-at P (x ∷ xs) f h e = elim (cases_Bool (same_triple f x)) [
  | inl g ↦ subst P (sym (equal_from f x g)) h.0
  | inr g ↦ each-at P xs f h.1 (sym (ap (λ b. b || is_among f xs) g) ∙ e)
]

pub fresh-until : (m : Mesh) (t : Tri) (i : ℕ) → IsWellFormed m → Each (OldOrNew m.tracked (length m.points)) (until m t i).tracked
fresh-until m t zero w = Each-weaker (λ x. is_among x m.tracked ≡ true) (OldOrNew m.tracked (length m.points)) (λ x h. inl h) m.tracked (all-among m.tracked)
fresh-until m t (suc i) w =
    let mid = until m t i in
    let before = fresh-until m t i w in
    Each-weaker (OldOrNew mid.tracked (length mid.points)) (OldOrNew m.tracked (length m.points)) (λ f h. elim h [
      | inl old ↦ each-at (OldOrNew m.tracked (length m.points)) mid.tracked f before old
      | inr n ↦ inr (record { corner = n.corner; there = n.there; new = omega (arith, n.new, until-points m t i) })
    ]) (until m t (suc i)).tracked (fresh-refine mid (wanted_cuts mid t i) (until-well_formed m t i w))

contains-among : (xs : List (List ℕ)) (f : List ℕ) → is_among f xs ≡ true → Contains xs f
contains-among xs f e = Contains-from_any (λ x y g. equal_from x y g) f xs e

-- the same, in the words of the definitions
pub fresh : (m n : Mesh) (t : Tri) → IsWellFormed m → n ≡ until m t 4 → All (λ f. Contains m.tracked f ⊎ HasNewCorner (length m.points) f) n.tracked
fresh m n t w e =
    subst (λ (x : Mesh). All (λ f. Contains m.tracked f ⊎ HasNewCorner (length m.points) f) x.tracked) (sym e)
    (All-from_recursion (λ f. Contains m.tracked f ⊎ HasNewCorner (length m.points) f) (until m t 4).tracked
    (Each-weaker (OldOrNew m.tracked (length m.points)) (λ f. Contains m.tracked f ⊎ HasNewCorner (length m.points) f) (λ f h. elim h [ inl old ↦ inl (contains-among m.tracked f old) | inr n ↦ inr n ]) (until m t 4).tracked (fresh-until m t 4 w)))

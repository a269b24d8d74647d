-- The triangles of the second part, one outcome after the other.
use Rattle.std.proofs.Common.{◌≡◌, ◌↔◌, ℕ, suc, ◌+◌, ◌<◌, ◌≤◌, true, false, cond, List, [], ◌∷◌, length, drop, map, get_or, ap, sym, ◌∙◌, arith}
use Rattle.std.proofs.lemmas.List.{at_drop_more, length-map, length-drop}
use Rattle.std.proofs.Math.Seq.{drop-cons}
use Rattle.std.proofs.Math.ListN.{drop_of_length-le, get_or-map}
use Rattle.std.proofs.Math.Numerals.{add-one}
use Rattle.mesh_types.specs.declared.outcome.Outcome.{Outcome}
use Rattle.mesh_types.specs.declared.outcome.Outcome.TheVariants as outcomes
use Rattle.mesh_types.specs.declared.outcome.Again.{Again}
use Rattle.mesh_types.specs.Turns.{is_rolled_back, rolled_back}

abbrev pub triangles_of : List Again → List ℕ
triangles_of again = map (λ a. a.triangle) again

-- from place m of the second part on, it has the triangles that were rolled back from place i on
abbrev pub AreFrom : List Again → List Outcome → (m i : ℕ) → Type 0
AreFrom again outcomes m i = drop m (triangles_of again) ≡ rolled_back i (drop i outcomes)

abbrev pub no_outcome : Outcome
no_outcome = outcomes.Inserted 0

next : (os : List Outcome) (i : ℕ) → i < length os → rolled_back i (drop i os) ≡ cond (is_rolled_back (get_or os i no_outcome)) (i ∷ rolled_back (i + 1) (drop (i + 1) os)) (rolled_back (i + 1) (drop (i + 1) os))
next os i lt = at_drop_more (rolled_back i) os i no_outcome lt

-- an outcome that is none of them
pub AreFrom-other : (again : List Again) (os : List Outcome) (m i : ℕ) → i < length os → is_rolled_back (get_or os i no_outcome) ≡ false → AreFrom again os m i ↔ AreFrom again os m (i + 1)
AreFrom-other again os m i lt other =
    let same = next os i lt ∙ ap (λ b. cond b (i ∷ rolled_back (i + 1) (drop (i + 1) os)) (rolled_back (i + 1) (drop (i + 1) os))) other in
    (λ h. h ∙ same, λ h. h ∙ sym same)

is_next : (os : List Outcome) (i : ℕ) → i < length os → is_rolled_back (get_or os i no_outcome) ≡ true → rolled_back i (drop i os) ≡ i ∷ rolled_back (i + 1) (drop (i + 1) os)
is_next os i lt is = next os i lt ∙ ap (λ b. cond b (i ∷ rolled_back (i + 1) (drop (i + 1) os)) (rolled_back (i + 1) (drop (i + 1) os))) is

abbrev pub nobody : Again
nobody = record { triangle = 0; outcome = no_outcome }

first_of : (again : List Again) (m : ℕ) → m < length again → drop m (triangles_of again) ≡ (get_or again m nobody).triangle ∷ drop (m + 1) (triangles_of again)
first_of again m lt = drop_at (triangles_of again) (omega (arith, lt, length-map again (λ (a : Again). a.triangle))) ∙ ap (λ t. t ∷ drop (m + 1) (triangles_of again)) (get_or-map (λ (a : Again). a.triangle) again m nobody)
  where
    drop_at : (ts : List ℕ) → m < length ts → drop m ts ≡ get_or ts m 0 ∷ drop (m + 1) ts
    drop_at ts below = rw (add-one, drop-cons ts m 0)

abbrev tail : List ℕ → List ℕ
tail [] = []
tail (t ∷ ts) = ts

-- the next of them
pub AreFrom-next : (again : List Again) (os : List Outcome) (m i : ℕ) → i < length os → is_rolled_back (get_or os i no_outcome) ≡ true → m < length again → (get_or again m nobody).triangle ≡ i → AreFrom again os m i ↔ AreFrom again os (m + 1) (i + 1)
AreFrom-next again os m i lt is below same =
    let given = first_of again m below ∙ ap (λ t. t ∷ drop (m + 1) (triangles_of again)) same in
    let wanted = is_next os i lt is in
    (λ h. ap tail (sym given ∙ h ∙ wanted), λ h. given ∙ ap (λ ts. i ∷ ts) h ∙ sym wanted)

-- the second part ends too early
pub AreFrom-ended : (again : List Again) (os : List Outcome) (m i : ℕ) → i < length os → is_rolled_back (get_or os i no_outcome) ≡ true → length again ≤ m → AreFrom again os m i → ⊥
AreFrom-ended again os m i lt is ends h =
    let none : drop m (triangles_of again) ≡ [] = drop_of_length-le (triangles_of again) (omega (arith, ends, length-map again (λ (a : Again). a.triangle))) in
    let size : ◌≡◌ {A = ℕ} 0 (suc (length (rolled_back (i + 1) (drop (i + 1) os)))) = ap length (sym none ∙ h ∙ is_next os i lt is) in
    absurd (omega (arith, size))

-- or has another triangle there
pub AreFrom-wrong : (again : List Again) (os : List Outcome) (m i : ℕ) → i < length os → is_rolled_back (get_or os i no_outcome) ≡ true → m < length again → AreFrom again os m i → (get_or again m nobody).triangle ≡ i
AreFrom-wrong again os m i lt is below h = ap (λ ts. get_or ts 0 0) (sym (first_of again m below) ∙ h ∙ is_next os i lt is)

-- behind the last outcome
pub AreFrom-end : (again : List Again) (os : List Outcome) (m i : ℕ) → length os ≤ i → AreFrom again os m i ↔ (length again ≤ m)
AreFrom-end again os m i le =
    let none : drop i os ≡ [] = drop_of_length-le os le in
    let size = length-map again (λ (a : Again). a.triangle) in (
      λ h. let e : length (drop m (triangles_of again)) ≡ 0 = ap length (h ∙ ap (rolled_back i) none) in omega (arith, e, size, length-drop m (triangles_of again)),
      λ ends. drop_of_length-le (triangles_of again) (omega (arith, ends, size)) ∙ sym (ap (rolled_back i) none),
    )

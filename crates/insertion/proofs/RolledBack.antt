-- The triangles that were rolled back, among the first of them.
use Rattle.std.proofs.Common.{◌≡◌, ◌∙◌, ℕ, zero, suc, ◌+◌, ◌<◌, Bool, true, false, if◌then◌else◌, List, [], ◌∷◌, ◌++◌, length, take, drop, get_or, refl, ap, arith}
use Rattle.std.proofs.lemmas.List.{append-nil, map-append}
use Rattle.grid.specs.declared.shapes.Tri.{Tri}
use Rattle.grid.specs.Meshes.{Mesh}
use Rattle.mesh_types.specs.declared.outcome.Again.{Again}
use Rattle.mesh_types.specs.declared.outcome.Outcome.{Outcome}
use Rattle.mesh_types.specs.Turns.{is_rolled_back, rolled_back}
use Rattle.insertion.specs.InTurn.{AreTurns, AreSomeTurns, outcomes_of, triangles_of}

-- those of the first outcomes, and those of the others
pub rolled-parts : (n t : ℕ) (os : List Outcome) → rolled_back n os ≡ rolled_back n (take t os) ++ rolled_back (n + t) (drop t os)
rolled-parts n zero os = ap (λ k. rolled_back k os) (omega arith)
rolled-parts n (suc t) [] = refl
rolled-parts n (suc t) (o ∷ os) =
    let further : n + 1 + t ≡ n + suc t = omega arith in
    let rest = rolled-parts (n + 1) t os ∙ ap (λ k. rolled_back (n + 1) (take t os) ++ rolled_back k (drop t os)) further in
    step (is_rolled_back o) rest
  where
    step : (b : Bool) → rolled_back (n + 1) os ≡ rolled_back (n + 1) (take t os) ++ rolled_back (n + suc t) (drop t os)
        → (if b then n ∷ rolled_back (n + 1) os else rolled_back (n + 1) os) ≡ (if b then n ∷ rolled_back (n + 1) (take t os) else rolled_back (n + 1) (take t os)) ++ rolled_back (n + suc t) (drop t os)
    step true e = ap (λ ns. n ∷ ns) e
    step false e = e

-- one more outcome
rolled-more : (n t : ℕ) (os : List Outcome) (d : Outcome) → t < length os
    → rolled_back n (take (t + 1) os) ≡ rolled_back n (take t os) ++ (if is_rolled_back (get_or os t d) then (n + t) ∷ [] else [])
rolled-more n t [] d lt = absurd (omega (arith, lt))
rolled-more n zero (o ∷ os) d lt =
    let here : n ≡ n + 0 = omega arith in
    ap (λ k. if is_rolled_back o then k ∷ [] else []) here
rolled-more n (suc t) (o ∷ os) d lt =
    let longer : suc t + 1 ≡ suc (t + 1) = omega arith in
    let further : n + 1 + t ≡ n + suc t = omega arith in
    let last = get_or os t d in
    let rest = rolled-more (n + 1) t os d (omega (arith, lt)) ∙ ap (λ k. rolled_back (n + 1) (take t os) ++ (if is_rolled_back last then k ∷ [] else [])) further in
    ap (λ k. rolled_back n (take k (o ∷ os))) longer ∙ step (is_rolled_back o) (if is_rolled_back last then (n + suc t) ∷ [] else []) rest
  where
    step : (b : Bool) (more : List ℕ) → rolled_back (n + 1) (take (t + 1) os) ≡ rolled_back (n + 1) (take t os) ++ more
        → (if b then n ∷ rolled_back (n + 1) (take (t + 1) os) else rolled_back (n + 1) (take (t + 1) os)) ≡ (if b then n ∷ rolled_back (n + 1) (take t os) else rolled_back (n + 1) (take t os)) ++ more
    step true more e = ap (λ ns. n ∷ ns) e
    step false more e = e

rolled-from_first : (t : ℕ) (os : List Outcome) (d : Outcome) (b : Bool) → t < length os → is_rolled_back (get_or os t d) ≡ b
    → rolled_back 0 (take (t + 1) os) ≡ rolled_back 0 (take t os) ++ (if b then t ∷ [] else [])
rolled-from_first t os d b lt is =
    let place : 0 + t ≡ t = omega arith in
    rolled-more 0 t os d lt ∙ (λ i. rolled_back 0 (take t os) ++ (if is i then place i ∷ [] else []))

pub rolled-next : (t : ℕ) (os : List Outcome) (d : Outcome) → t < length os → is_rolled_back (get_or os t d) ≡ true
    → rolled_back 0 (take (t + 1) os) ≡ rolled_back 0 (take t os) ++ t ∷ []
rolled-next t os d lt back = rolled-from_first t os d true lt back

pub rolled-skip : (t : ℕ) (os : List Outcome) (d : Outcome) → t < length os → is_rolled_back (get_or os t d) ≡ false
    → rolled_back 0 (take (t + 1) os) ≡ rolled_back 0 (take t os)
rolled-skip t os d lt not_back = rolled-from_first t os d false lt not_back ∙ append-nil (rolled_back 0 (take t os))

-- ---- turns of these triangles
-- one more answer
pub again-push : (again more : List Again) (t : ℕ) (o : Outcome) → more ≡ again ++ record { triangle = t; outcome = o } ∷ []
    → (triangles_of more ≡ triangles_of again ++ t ∷ []) × (outcomes_of more ≡ outcomes_of again ++ o ∷ [])
again-push again more t o is =
    let one : List Again = record { triangle = t; outcome = o } ∷ [] in
    (ap triangles_of is ∙ map-append (λ a. a.triangle) again one, ap outcomes_of is ∙ map-append (λ a. a.outcome) again one)

-- those of the first t triangles that were rolled back
pub some-rolled_back : (triangles : List Tri) (e t : ℕ) (os : List Outcome) (start m : Mesh) (outcomes : List Outcome)
    → AreTurns triangles e (rolled_back 0 (take t os)) start outcomes m → AreSomeTurns triangles e (rolled_back 0 os) start m
some-rolled_back triangles e t os start m outcomes turns = record {
  some = rolled_back 0 (take t os);
  others = rolled_back (0 + t) (drop t os);
  first = rolled-parts 0 t os;
  outcomes = outcomes;
  turns = turns;
}

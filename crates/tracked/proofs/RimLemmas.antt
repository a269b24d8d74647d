-- The test for a rim point finds one exactly where there is one.
use Rattle.std.proofs.Common.{◌≡◌, ℕ, ◌<◌, Bool, true, not, ◌&&◌, nat_eq, List, [], ◌∷◌, sym, subst, ap, arith, inl, inr}
use Rattle.std.specs.List.{list_any}
use Rattle.std.proofs.lemmas.Bool.{and_parts, and_from, or_cases, or_left, or_right, cases_Bool, eqb-true, eq-eqb, eqb-false, ne_eqb, true≢false, not-true}
use Rattle.grid.specs.Rims.{IsRim, triples_at}
use Rattle.grid.specs.Simplices.{has}
use Rattle.grid.proofs.ForCallers.{count_by-cons_no}
use Rattle.tracked.specs.RimEdges.{is_rim_edge, has_rim_edge}

edge_is : (all : List (List ℕ)) (u v : ℕ) → is_rim_edge all u v ≡ true → IsRim all u
edge_is all u v e =
    let p = and_parts (not (nat_eq u v)) (nat_eq (triples_at all u v) 1) e in
    record { other = v; differs = λ f. eqb-false u v (not-true (nat_eq u v) p.0) (sym f); one = eqb-true (triples_at all u v) 1 p.1 }

pub IsRim-from_edge : (all : List (List ℕ)) (u : ℕ) (t : List ℕ) → has_rim_edge all u t ≡ true → IsRim all u
IsRim-from_edge all u [] e = absurd (true≢false (sym e))
IsRim-from_edge all u (v ∷ t) e = elim (or_cases (is_rim_edge all u v) (has_rim_edge all u t) e) [ inl f ↦ edge_is all u v f | inr f ↦ IsRim-from_edge all u t f ]

-- what the test of each triple finds
abbrev pub finds : List (List ℕ) → ℕ → List (List ℕ) → Bool
finds all u ts = list_any (λ t. has t u && has_rim_edge all u t) ts

corner_to : (all : List (List ℕ)) (u v : ℕ) (t : List ℕ) → is_rim_edge all u v ≡ true → has t v ≡ true → has_rim_edge all u t ≡ true
corner_to all u v [] e h = absurd (true≢false (sym h))
corner_to all u v (a ∷ t) e h = elim (or_cases (nat_eq a v) (has t v) h) [
  | inl f ↦ or_left (is_rim_edge all u a) (has_rim_edge all u t) (subst (λ w. is_rim_edge all u w ≡ true) (sym (eqb-true a v f)) e)
  | inr f ↦ or_right (is_rim_edge all u a) (has_rim_edge all u t) (corner_to all u v t e f)
]

found_at : (all : List (List ℕ)) (u v : ℕ) (ts : List (List ℕ)) → is_rim_edge all u v ≡ true → 0 < triples_at ts u v → finds all u ts ≡ true
found_at all u v [] e h = absurd (omega arith)
found_at all u v (t ∷ ts) e h = elim (cases_Bool (has t u && has t v)) [
  | inl f ↦
      let p = and_parts (has t u) (has t v) f in
      or_left (has t u && has_rim_edge all u t) (finds all u ts) (and_from (has t u) (has_rim_edge all u t) p.0 (corner_to all u v t e p.1))
  | inr f ↦
      or_right (has t u && has_rim_edge all u t) (finds all u ts) (found_at all u v ts e (omega (arith, h, count_by-cons_no (λ t. has t u && has t v) t ts f)))
]

pub finds-from_IsRim : (all : List (List ℕ)) (u : ℕ) → IsRim all u → finds all u all ≡ true
finds-from_IsRim all u r =
    let edge = and_from (not (nat_eq u r.other)) (nat_eq (triples_at all u r.other) 1) (ap not (ne_eqb u r.other (λ f. r.differs (sym f)))) (eq-eqb (triples_at all u r.other) 1 r.one) in
    found_at all u r.other all edge (omega (arith, r.one))

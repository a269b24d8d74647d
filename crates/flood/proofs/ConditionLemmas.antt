-- Which facets are tracked, and which have half-faces of both orientations.
use Rattle.std.proofs.Common.{◌≡◌, ◌≢◌, ℕ, ◌+◌, ◌<◌, ◌≤◌, Bool, true, false, cond, Option, Some, None, nat_eq, nat_lt, List, [], length, set, replicate, slice_index_or, refl, sym, ap, ◌∙◌, subst, inl, inr, arith}
use Rattle.std.specs.Prelude.{AllPairs}
use Rattle.std.specs.List.{position, position_or_len}
use Rattle.std.proofs.Math.ListN.{get_or-eq_default, length-replicate}
use Rattle.std.proofs.lemmas.Bool.{cases_Bool, cases_lt, eqb-true, eqb-false, ltb-true, ltb-false, false≢true}
use Rattle.std.proofs.lemmas.List.{get_or-replicate, get_or-set_same, get_or-set_other, length-set}
use Rattle.std.proofs.lemmas.List.Sums.{fails_before_first, passes_at_first}
use Rattle.std.proofs.lemmas.Slice.Eq.{bytes_eq-Decides}
use Rattle.grid.specs.declared.shapes.Face.{Face}
use Rattle.grid.specs.Simplices.{same_triple}
use Rattle.flood.specs.HalfFaces.{AreOpen, ArePaired, HasMate, IsAmong, IsBelow, facet_at, is_mate, shut_at, triple_at}
use Rattle.flood.specs.Chains.{IsLast}
use Rattle.flood.proofs.ReachLemmas.{marked-kept, marked-new, none-marked}

-- ---- tracked facets
-- facets with the same triple are the same
pub same_facet : (triples : List Face) (c d : ℕ) → AllPairs (λ f g. f ≢ g) triples → c < length triples → d < length triples → triple_at triples c ≡ triple_at triples d → c ≡ d
same_facet triples c d apart c_there d_there e =
    let none : Face = record { 0 = [] } in
    let same : slice_index_or triples c none ≡ slice_index_or triples d none = ap (λ (l : List ℕ). record { 0 = l }) e in
    elim (cases_lt c d) [
      | inl k ↦ absurd (apart c d none k d_there same)
      | inr k ↦ elim (cases_lt d c) [
        | inl l ↦ absurd (apart d c none l c_there (sym same))
        | inr l ↦ omega arith
      ]
    ]

-- the facet with that triple, or none
abbrev pub IsFacetOf : List Face → List ℕ → Option ℕ → Type 0
IsFacetOf triples t None = (c : ℕ) → c < length triples → triple_at triples c ≢ t
IsFacetOf triples t (Some c) = (c < length triples) × (triple_at triples c ≡ t)

found : (triples : List Face) (t : Face) (b : Bool) → ((b ≡ true) → position_or_len (λ g. same_triple t.0 g.0) triples < length triples) → ((b ≡ false) → length triples ≤ position_or_len (λ g. same_triple t.0 g.0) triples) → IsFacetOf triples t.0 (cond b (Some (position_or_len (λ g. same_triple t.0 g.0) triples)) None)
found triples t true within past =
    let p : Face → Bool = λ g. same_triple t.0 g.0 in
    let there = within refl in
    (there, sym ((bytes_eq-Decides t.0 (triple_at triples (position_or_len p triples))).0 (passes_at_first p triples (record { 0 = [] }) there)))
found triples t false within past = λ c below e.
    let p : Face → Bool = λ g. same_triple t.0 g.0 in
    let all = past refl in
    false≢true (sym (fails_before_first p triples c (record { 0 = [] }) (omega arith)) ∙ (bytes_eq-Decides t.0 (triple_at triples c)).1 (sym e))

pub IsFacetOf-from_position : (triples : List Face) (t : Face) → IsFacetOf triples t.0 (position (λ g. same_triple t.0 g.0) triples)
IsFacetOf-from_position triples t =
    let k = position_or_len (λ (g : Face). same_triple t.0 g.0) triples in
    found triples t (nat_lt k (length triples)) (λ e. ltb-true k (length triples) e) (λ e. ltb-false k (length triples) e)

pub IsBelow-facet : (triples : List Face) (t : List ℕ) (n : ℕ) (facet : Option ℕ) → n ≡ length triples → IsFacetOf triples t facet → IsBelow n facet
IsBelow-facet triples t n None e is = tt
IsBelow-facet triples t n (Some c) e is = let there = is.0 in omega arith

pub IsBelow-last : (facet_of : List ℕ) (c n m : ℕ) (o : Option ℕ) → n ≡ m → IsLast facet_of c n o → IsBelow m o
IsBelow-last facet_of c n m None e is = tt
IsBelow-last facet_of c n m (Some p) e is = let below = is.below in omega arith

pub AreOpen-starts : (tracked : List (List ℕ)) (triples : List Face) → AreOpen tracked 0 triples (replicate (length triples) true)
AreOpen-starts tracked triples = record {
  one_each = length-replicate (length triples) true;
  shut = λ c there e. absurd (false≢true (sym e ∙ get_or-replicate (length triples) c true false there));
  opened = λ c e among. let none = among.there in absurd (omega arith);
}

more_among : (tracked : List (List ℕ)) (n : ℕ) (t : List ℕ) → IsAmong tracked n t → IsAmong tracked (n + 1) t
more_among tracked n t among = let below = among.there in record { place = among.place; there = omega arith; is = among.is }

pub AreOpen-goes_on : (tracked : List (List ℕ)) (n : ℕ) (triples : List Face) (is_open : List Bool) (facet : Option ℕ) → AllPairs (λ f g. f ≢ g) triples → AreOpen tracked n triples is_open → IsFacetOf triples (slice_index_or tracked n []) facet → AreOpen tracked (n + 1) triples (shut_at facet is_open)
AreOpen-goes_on tracked n triples is_open None apart so_far none = record {
  one_each = so_far.one_each;
  shut = λ c there e. more_among tracked n (triple_at triples c) (so_far.shut c there e);
  opened = λ c e among. elim (cases_lt among.place n) [
    | inl k ↦ so_far.opened c e (record { place = among.place; there = k; is = among.is })
    | inr k ↦ let below = among.there in
        let at : among.place ≡ n = omega arith in
        let there : c < length triples = elim (cases_lt c (length triples)) [ inl l ↦ l | inr l ↦ let one_each = so_far.one_each in absurd (false≢true (sym (get_or-eq_default is_open false (omega arith)) ∙ e)) ] in
        none c there (sym among.is ∙ ap (λ i. slice_index_or tracked i []) at)
  ];
}
AreOpen-goes_on tracked n triples is_open (Some c) apart so_far is =
    let one_each = so_far.one_each in
    let there = is.0 in
    let here : slice_index_or (set is_open c false) c false ≡ false = get_or-set_same is_open c false false (omega arith) in
    record {
      one_each = length-set is_open c false ∙ one_each;
      shut = λ d d_there e. elim (cases_Bool (nat_eq d c)) [
        | inl k ↦ record { place = n; there = omega arith; is = sym is.1 ∙ ap (triple_at triples) (sym (eqb-true d c k)) }
        | inr k ↦ more_among tracked n (triple_at triples d) (so_far.shut d d_there (sym (get_or-set_other is_open c d false false (eqb-false d c k)) ∙ e))
      ];
      opened = λ d e among.
          let other : d ≢ c = λ same. false≢true (sym here ∙ ap (λ x. slice_index_or (set is_open c false) x false) (sym same) ∙ e) in
          let was : slice_index_or is_open d false ≡ true = sym (get_or-set_other is_open c d false false other) ∙ e in
          elim (cases_lt among.place n) [
            | inl k ↦ so_far.opened d was (record { place = among.place; there = k; is = among.is })
            | inr k ↦ let below = among.there in
                let at : among.place ≡ n = omega arith in
                let d_there : d < length triples = elim (cases_lt d (length triples)) [ inl l ↦ l | inr l ↦ absurd (false≢true (sym (get_or-eq_default is_open false (omega arith)) ∙ was)) ] in
                other (same_facet triples d c apart d_there there (sym among.is ∙ ap (λ i. slice_index_or tracked i []) at ∙ sym is.1))
          ];
    }

-- ---- paired facets
pub ArePaired-starts : (tets : List (List ℕ)) (facet_of : List ℕ) (given : List (Option ℕ)) → ArePaired tets facet_of 0 given (replicate (length given) false)
ArePaired-starts tets facet_of given = record {
  one_each = length-replicate (length given) false;
  paired = λ c e. absurd (false≢true (sym (none-marked (length given) c) ∙ e));
  unpaired = λ h none. absurd (omega arith);
}

more_mate : (tets : List (List ℕ)) (facet_of : List ℕ) (n c : ℕ) (g : Option ℕ) → HasMate tets facet_of n c g → HasMate tets facet_of (n + 1) c g
more_mate tets facet_of n c g m = let below = m.there in record { mate = m.mate; there = omega arith; facet_is = m.facet_is; reverse = m.reverse }

pub ArePaired-goes_on : (tets : List (List ℕ)) (facet_of : List ℕ) (n : ℕ) (given : List (Option ℕ)) (is_paired : List Bool) (has_mate : Bool) → ArePaired tets facet_of n given is_paired → facet_at facet_of n < length given → has_mate ≡ is_mate tets n (slice_index_or given (facet_at facet_of n) None) → ArePaired tets facet_of (n + 1) given (cond has_mate (set is_paired (facet_at facet_of n) true) is_paired)
ArePaired-goes_on tets facet_of n given is_paired true so_far there is =
    let f = facet_at facet_of n in
    let one_each = so_far.one_each in
    let f_there : f < length is_paired = omega arith in
    record {
      one_each = length-set is_paired f true ∙ one_each;
      paired = λ c e. elim (marked-new is_paired f c e) [
        | inl k ↦ more_mate tets facet_of n c (slice_index_or given c None) (so_far.paired c k)
        | inr k ↦ record { mate = n; there = omega arith; facet_is = sym k; reverse = ap (λ x. is_mate tets n (slice_index_or given x None)) k ∙ sym is }
      ];
      unpaired = λ h below e.
          let was : slice_index_or is_paired (facet_at facet_of h) false ≡ false = elim (cases_Bool (slice_index_or is_paired (facet_at facet_of h) false)) [
            | inl k ↦ absurd (false≢true (sym e ∙ marked-kept is_paired f (facet_at facet_of h) f_there k))
            | inr k ↦ k
          ] in
          elim (cases_lt h n) [
            | inl k ↦ so_far.unpaired h k was
            | inr k ↦ let at : h ≡ n = omega arith in
                absurd (false≢true (sym e ∙ ap (λ x. slice_index_or (set is_paired f true) (facet_at facet_of x) false) at ∙ get_or-set_same is_paired f true false f_there))
          ];
    }
ArePaired-goes_on tets facet_of n given is_paired false so_far there is = record {
  one_each = so_far.one_each;
  paired = λ c e. more_mate tets facet_of n c (slice_index_or given c None) (so_far.paired c e);
  unpaired = λ h below e. elim (cases_lt h n) [
    | inl k ↦ so_far.unpaired h k e
    | inr k ↦ let at : n ≡ h = omega arith in
        subst (λ x. is_mate tets x (slice_index_or given (facet_at facet_of x) None) ≡ false) at (sym is)
  ];
}

-- The lists of half-faces on each facet, one half-face after the other.
use Rattle.std.proofs.Common.{◌≡◌, ◌≢◌, ℕ, ◌+◌, ◌<◌, Option, Some, None, List, [], ◌∷◌, ◌++◌, nat_eq, set, replicate, slice_index_or, sym, ap, ◌∙◌, subst, inl, inr, arith}
use Rattle.std.proofs.Math.ListN.{get_or-append, length-replicate}
use Rattle.std.proofs.Math.Seq.{get_or-append_seam}
use Rattle.std.proofs.lemmas.Bool.{cases_Bool, cases_lt, eqb-true, eqb-false}
use Rattle.std.proofs.lemmas.List.{get_or-replicate, get_or-set_same, get_or-set_other, length-set, length_push}
use Rattle.flood.specs.HalfFaces.{facet_at}
use Rattle.flood.specs.Chains.{AreChains, IsLast}

-- a half-face on another facet changes nothing
IsLast-more : (facet_of : List ℕ) (c n : ℕ) (o : Option ℕ) → IsLast facet_of c n o → facet_at facet_of n ≢ c → IsLast facet_of c (n + 1) o
IsLast-more facet_of c n None h e = λ q below f. elim (cases_lt q n) [
  | inl k ↦ h q k f
  | inr k ↦ let same : n ≡ q = omega arith in e (ap (facet_at facet_of) same ∙ f)
]
IsLast-more facet_of c n (Some p) h e = record {
  below = let k = h.below in omega arith;
  on = h.on;
  last = λ q after below f. elim (cases_lt q n) [
    | inl k ↦ h.last q after k f
    | inr k ↦ let same : n ≡ q = omega arith in e (ap (facet_at facet_of) same ∙ f)
  ];
}

pub AreChains-starts : (facets : ℕ) (facet_of : List ℕ) → AreChains facets facet_of 0 (replicate facets None) []
AreChains-starts facets facet_of = record {
  one_last = length-replicate facets None;
  one_before = omega arith;
  in_range = λ h none. absurd (omega arith);
  last_is = λ c below. let P : Option ℕ → Type 0 = IsLast facet_of c 0 in
      subst P (sym (get_or-replicate facets c None None below)) (λ q none. absurd (omega arith));
  before_is = λ h none. absurd (omega arith);
}

pub AreChains-goes_on : (facets : ℕ) (facet_of : List ℕ) (n : ℕ) (last before : List (Option ℕ)) → AreChains facets facet_of n last before → facet_at facet_of n < facets → AreChains facets facet_of (n + 1) (set last (facet_at facet_of n) (Some n)) (before ++ slice_index_or last (facet_at facet_of n) None ∷ [])
AreChains-goes_on facets facet_of n last before so_far in_range =
    let f = facet_at facet_of n in
    let x = slice_index_or last f None in
    let one_last = so_far.one_last in
    let one_before = so_far.one_before in
    record {
      one_last = length-set last f (Some n) ∙ one_last;
      one_before = length_push before x ∙ ap (λ m. m + 1) one_before;
      in_range = λ h below. elim (cases_lt h n) [
        | inl k ↦ so_far.in_range h k
        | inr k ↦ let same : n ≡ h = omega arith in subst (λ m. facet_at facet_of m < facets) same in_range
      ];
      last_is = λ c below.
          let P : Option ℕ → Type 0 = IsLast facet_of c (n + 1) in
          elim (cases_Bool (nat_eq c f)) [
            | inl e ↦ let same = eqb-true c f e in
                subst P (sym (ap (λ k. slice_index_or (set last f (Some n)) k None) same ∙ get_or-set_same last f (Some n) None (omega arith)))
                (record { below = omega arith; on = sym same; last = λ q after up_to. absurd (omega arith) })
            | inr e ↦ let other = eqb-false c f e in
                subst P (sym (get_or-set_other last f c (Some n) None other)) (IsLast-more facet_of c n (slice_index_or last c None) (so_far.last_is c below) (λ g. other (sym g)))
          ];
      before_is = λ h below.
          elim (cases_lt h n) [
            | inl k ↦ let P : Option ℕ → Type 0 = IsLast facet_of (facet_at facet_of h) h in
                subst P (sym (get_or-append before (x ∷ []) None h (omega arith))) (so_far.before_is h k)
            | inr k ↦ let P : ℕ → Type 0 = λ m. IsLast facet_of (facet_at facet_of m) m (slice_index_or (before ++ x ∷ []) m None) in
                let Q : Option ℕ → Type 0 = IsLast facet_of f n in
                let same : n ≡ h = omega arith in
                subst P same (subst Q (sym (ap (λ m. slice_index_or (before ++ x ∷ []) m None) (sym one_before) ∙ get_or-append_seam before x [] None)) (so_far.last_is f in_range))
          ];
    }

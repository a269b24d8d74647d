-- Marks of the tetrahedra reached, and their numbers in order.
use Rattle.std.proofs.Common.{◌≡◌, ℕ, ◌+◌, ◌<◌, ◌⊎◌, Bool, true, false, not, cond, nat_eq, List, [], ◌∷◌, ◌++◌, length, replicate, set, slice_index_or, count_by, sym, ap, ◌∙◌, subst, inl, inr, arith}
use Rattle.std.proofs.Math.ListN.{get_or-append, get_or-eq_default, length-replicate}
use Rattle.std.proofs.Math.Seq.{get_or-append_seam}
use Rattle.std.proofs.lemmas.Bool.{cases_Bool, cases_lt, eqb-true, eqb-false, false≢true}
use Rattle.std.proofs.lemmas.List.{get_or-replicate, get_or-set_same, get_or-set_other, length-set, length_push}
use Rattle.std.proofs.lemmas.List.Sums.{sum_by-set}
use Rattle.flood.specs.Floods.{AreReachable, FillsFacets, IsFilled, IsListed, IsLoose, IsOn, IsReachable, starts, goes_on, Reaches, State, is_marked}

-- ---- one more mark
pub marked-set_same : (marks : List Bool) (t : ℕ) → t < length marks → is_marked (set marks t true) t ≡ true
marked-set_same marks t there = get_or-set_same marks t true false there

pub marked-kept : (marks : List Bool) (t i : ℕ) → t < length marks → is_marked marks i ≡ true → is_marked (set marks t true) i ≡ true
marked-kept marks t i there m = elim (cases_Bool (nat_eq i t)) [
  | inl e ↦ ap (is_marked (set marks t true)) (eqb-true i t e) ∙ marked-set_same marks t there
  | inr e ↦ get_or-set_other marks t i true false (eqb-false i t e) ∙ m
]

pub marked-new : (marks : List Bool) (t i : ℕ) → is_marked (set marks t true) i ≡ true → (is_marked marks i ≡ true) ⊎ (i ≡ t)
marked-new marks t i m = elim (cases_Bool (nat_eq i t)) [
  | inl e ↦ inr (eqb-true i t e)
  | inr e ↦ inl (sym (get_or-set_other marks t i true false (eqb-false i t e)) ∙ m)
]

count-set : (marks : List Bool) (t : ℕ) → t < length marks → is_marked marks t ≡ false → count_by not (set marks t true) + 1 ≡ count_by not marks
count-set marks t there e =
    let f : Bool → ℕ = λ b. cond (not b) 1 0 in
    let one : f (is_marked marks t) ≡ 1 = ap f e in
    let sums = sum_by-set f marks t true false there in
    omega (arith, one, sums)

pub IsListed-more : (marks : List Bool) (order : List ℕ) (t : ℕ) → IsListed marks order → t < length marks → is_marked marks t ≡ false → IsListed (set marks t true) (order ++ t ∷ [])
IsListed-more marks order t so_far there e =
    let more = length_push order t in
    let same_length = length-set marks t true in
    let old : (k : ℕ) → k < length order → slice_index_or (order ++ t ∷ []) k 0 ≡ slice_index_or order k 0 = λ k below. get_or-append order (t ∷ []) 0 k below in
    let new : slice_index_or (order ++ t ∷ []) (length order) 0 ≡ t = get_or-append_seam order t [] 0 in
    record {
      in_range = λ k below. elim (cases_lt k (length order)) [
        | inl i ↦ let is = old k i in let range = so_far.in_range k i in omega arith
        | inr i ↦ let at : k ≡ length order = omega arith in let is = ap (λ j. slice_index_or (order ++ t ∷ []) j 0) at ∙ new in omega arith
      ];
      marked = λ k below. elim (cases_lt k (length order)) [
        | inl i ↦ ap (is_marked (set marks t true)) (old k i) ∙ marked-kept marks t (slice_index_or order k 0) there (so_far.marked k i)
        | inr i ↦ let at : k ≡ length order = omega arith in ap (is_marked (set marks t true)) (ap (λ j. slice_index_or (order ++ t ∷ []) j 0) at ∙ new) ∙ marked-set_same marks t there
      ];
      listed = λ i m. elim (marked-new marks t i m) [
        | inl k ↦ let l = so_far.listed i k in (l.0, omega arith, old l.0 l.1 ∙ l.2)
        | inr k ↦ (length order, omega arith, new ∙ sym k)
      ];
      each_once = let once = so_far.each_once in let fewer = count-set marks t there e in omega arith;
    }

-- ---- more and more marks
pub Reaches-then : (A B C : ℕ → Type 0) (a b c : State) → Reaches A a b → Reaches B b c → ((i : ℕ) → A i → C i) → ((i : ℕ) → B i → C i) → Reaches C a c
Reaches-then A B C a b c s t from_a from_b =
    let longer_s = s.longer in
    let longer_t = t.longer in
    record {
      same_facets = t.same_facets ∙ s.same_facets;
      one_each = t.one_each ∙ s.one_each;
      kept = λ i k. t.kept i (s.kept i k);
      new_ones = λ i k. elim (t.new_ones i k) [
        | inl l ↦ elim (s.new_ones i l) [ inl x ↦ inl x | inr x ↦ inr (from_a i x) ]
        | inr x ↦ inr (from_b i x)
      ];
      longer = omega arith;
      front = λ k below. t.front k (omega arith) ∙ s.front k below;
    }

-- ---- fewer and fewer facets that wait
pub FillsFacets-then : (A B : ℕ → Type 0) (a b c : State) → Reaches A a b → Reaches B b c → FillsFacets a b → FillsFacets b c → FillsFacets a c
FillsFacets-then A B a b c r q s t = record {
  one_each = t.one_each ∙ s.one_each;
  fewer = λ d k. s.fewer d (t.fewer d k);
  filled = λ d k e. elim (cases_Bool (slice_index_or b.waiting d false)) [
    | inl waits ↦ subst (λ f. IsFilled f c.marks d) r.same_facets (t.filled d waits e)
    | inr done ↦ λ i on. q.kept i (s.filled d k done i on)
  ];
}

-- what does not wait does not wait later on
pub FillsFacets-still : (a b : State) (c : ℕ) → FillsFacets a b → slice_index_or a.waiting c false ≡ false → slice_index_or b.waiting c false ≡ false
FillsFacets-still a b c s e = elim (cases_Bool (slice_index_or b.waiting c false)) [
  | inl k ↦ absurd (false≢true (sym e ∙ s.fewer c k))
  | inr k ↦ k
]

-- ---- at the start
pub none-marked : (n i : ℕ) → is_marked (replicate n false) i ≡ false
none-marked n i = elim (cases_lt i n) [
  | inl k ↦ get_or-replicate n i false false k
  | inr k ↦ get_or-eq_default (replicate n false) false (omega (arith, length-replicate n false))
]

-- ---- at the end
IsReachable-from : (facet_of : List ℕ) (is_open : List Bool) (A B : ℕ → Type 0) → ((i : ℕ) → A i → B i) → (i : ℕ) → IsReachable facet_of is_open A i → IsReachable facet_of is_open B i
IsReachable-from facet_of is_open A B from i (starts k s) = starts k (from k s)
IsReachable-from facet_of is_open A B from j (goes_on i k c r beside on opened) = goes_on i k c (IsReachable-from facet_of is_open A B from i r) beside on opened

-- each tetrahedron that can be reached is marked once no listed one has a facet that waits
reached-complete : (old new : State) → IsListed new.marks new.order → ((i : ℕ) → is_marked old.marks i ≡ true → is_marked new.marks i ≡ true) → FillsFacets old new → ((k : ℕ) → k < length new.order → (c : ℕ) → IsOn old.facet_of c (slice_index_or new.order k 0) → slice_index_or new.waiting c false ≡ false) → (i : ℕ) → IsReachable old.facet_of old.waiting (λ j. is_marked old.marks j ≡ true) i → is_marked new.marks i ≡ true
reached-complete old new so_far kept fills passed i (starts k s) = kept k s
reached-complete old new so_far kept fills passed j (goes_on i k c r beside on opened) =
    let l = so_far.listed i (reached-complete old new so_far kept fills passed i r) in
    fills.filled c opened (passed l.0 l.1 c (subst (IsOn old.facet_of c) (sym l.2) beside)) k on

pub AreReachable-ends : (old new : State) → IsListed new.marks new.order → Reaches (IsReachable old.facet_of old.waiting (λ j. is_marked old.marks j ≡ true)) old new → FillsFacets old new → ((k : ℕ) → k < length new.order → (c : ℕ) → IsOn old.facet_of c (slice_index_or new.order k 0) → slice_index_or new.waiting c false ≡ false) → AreReachable old.facet_of old.waiting (λ j. is_marked old.marks j ≡ true) new.marks
AreReachable-ends old new so_far reaches fills passed = record {
  sound = λ i m. elim (reaches.new_ones i m) [ inl s ↦ starts i s | inr r ↦ r ];
  complete = reached-complete old new so_far reaches.kept fills passed;
}

-- from those with loose faces on
pub AreReachable-loose : (facet_of : List ℕ) (is_open is_paired : List Bool) (n : ℕ) (first : State) (marks : List Bool) → Reaches (IsLoose facet_of is_paired) (record { facet_of = facet_of; waiting = is_open; marks = replicate n false; order = [] }) first → ((i : ℕ) → IsLoose facet_of is_paired i → is_marked first.marks i ≡ true) → AreReachable facet_of is_open (λ j. is_marked first.marks j ≡ true) marks → AreReachable facet_of is_open (IsLoose facet_of is_paired) marks
AreReachable-loose facet_of is_open is_paired n first marks reaches loose all =
    let First : ℕ → Type 0 = λ j. is_marked first.marks j ≡ true in
    let Loose : ℕ → Type 0 = IsLoose facet_of is_paired in
    let back : (i : ℕ) → First i → Loose i = λ i m. elim (reaches.new_ones i m) [ inl k ↦ absurd (false≢true (sym (none-marked n i) ∙ k)) | inr x ↦ x ] in
    record {
      sound = λ i m. IsReachable-from facet_of is_open First Loose back i (all.sound i m);
      complete = λ i r. all.complete i (IsReachable-from facet_of is_open Loose First loose i r);
    }

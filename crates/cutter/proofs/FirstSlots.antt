-- The first slot that passes a test.
use Rattle.std.proofs.Common.{◌≡◌, ◌⊎◌, ℕ, zero, suc, ◌+◌, ◌<◌, ◌≤◌, Bool, true, false, ◌&&◌, ◌||◌, cond, nat_lt, if◌then◌else◌, Option, None, Some, List, [], ◌∷◌, ◌++◌, length, take, get_or, All, refl, sym, ap, ◌∙◌, subst, inl, inr, arith}
use Rattle.std.specs.List.{list_any, AllByRecursion as Each}
use Rattle.std.proofs.lemmas.Bool.{cases_Bool, true≢false, and_parts, and_from, or_cases, false_from_ne_true}
use Rattle.std.proofs.lemmas.Bool.Decides.{nat_tests}
use Rattle.std.proofs.lemmas.List.Elements.{All-from_recursion, recursion_from_All}
use Rattle.grid.specs.declared.shapes.Point.{Point}
use Rattle.grid.specs.Simplices.{has, has_all, same_triple}
use Rattle.mesh_types.specs.Insertion.{NamesFirst}
use Rattle.mesh_types.specs.Phases.{points_of}
use Rattle.mesh_store.specs.Parts.{live_tets}
use Rattle.tet_slots.specs.declared.slot.Slot.{Slot}
use Rattle.tet_slots.specs.Searches.{numbers_of as found_numbers, has_edge}
use Rattle.tet_slots.specs.Slots.{slot_at}
use Rattle.std.proofs.lemmas.List.{take_more}
use Rattle.std.proofs.lemmas.List.Folds.{list_any-append, Any-from_list_any, list_any-from_Any}
use Rattle.std.specs.List.{flat_map}
use Rattle.grid.specs.declared.shapes.Tri.{Tri}
use Rattle.grid.specs.Meshes.{Mesh}
use Rattle.mesh_types.specs.Phases.{wanted_in, wanted, is_unresolved}
use Rattle.mesh_types.specs.Tracking.{in_order_once}
use Rattle.grid.proofs.ForCallers.{same_bools}
use Rattle.mesh_types.proofs.ForCallers.{is_among, is_among-in_order_once, equal_to, equal_from}
use Rattle.cutting_rule.specs.declared.edge.Edge.{Edge}
use Rattle.cutting_rule.specs.Edges.{numbers_of}
use Rattle.cutter.proofs.Near.{AreFrom, all, first, rest}
use Rattle.cutter.specs.First.{earlier, head, IsAtMost, IsFirstSlot, has_one_of, is_open}

-- ---- the lower of two
at_most-left : (a b : Option ℕ) (j : ℕ) → IsAtMost a j → IsAtMost (earlier a b) j
at_most-left (Some x) (Some y) j h = elim (cases_Bool (nat_lt x y)) [ inl e ↦ rw e h | inr e ↦ rw e (grind (arith, nat_tests)) ]
at_most-left (Some x) None j h = h
at_most-left None b j h = absurd h

at_most-right : (a b : Option ℕ) (j : ℕ) → IsAtMost b j → IsAtMost (earlier a b) j
at_most-right (Some x) (Some y) j h = elim (cases_Bool (nat_lt x y)) [ inl e ↦ rw e (grind (arith, nat_tests)) | inr e ↦ rw e h ]
at_most-right (Some x) None j h = absurd h
at_most-right None b j h = h

one_of : (a b : Option ℕ) (k : ℕ) → earlier a b ≡ Some k → (a ≡ Some k) ⊎ (b ≡ Some k)
one_of (Some x) (Some y) k h = elim (cases_Bool (nat_lt x y)) [
  | inl e ↦ inl (sym (ap (λ (t : Bool). Some (if t then x else y)) e) ∙ h)
  | inr e ↦ inr (sym (ap (λ (t : Bool). Some (if t then x else y)) e) ∙ h)
]
one_of (Some x) None k h = inl h
one_of None b k h = inr h

-- where a slot passes p or q just where it passes r
pub first-both : (p q r : Slot → Bool) (slots : List Slot) (a b : Option ℕ) → ((s : Slot) → r s ≡ (p s || q s)) → IsFirstSlot p slots a → IsFirstSlot q slots b → IsFirstSlot r slots (earlier a b)
first-both p q r slots a b is h g = record {
  passes = λ k e. elim (one_of a b k e) [
    | inl f ↦ ((h.passes k f).0, is (slot_at slots k) ∙ ap (λ (t : Bool). t || q (slot_at slots k)) (h.passes k f).1)
    | inr f ↦ ((g.passes k f).0, is (slot_at slots k) ∙ (ap (λ (t : Bool). p (slot_at slots k) || t) (g.passes k f).1 ∙ or_true (p (slot_at slots k))))
  ];
  first = λ j lt e. elim (or_cases (p (slot_at slots j)) (q (slot_at slots j)) (sym (is (slot_at slots j)) ∙ e)) [
    | inl f ↦ at_most-left a b j (h.first j lt f)
    | inr f ↦ at_most-right a b j (g.first j lt f)
  ];
}
  where
    or_true : (p : Bool) → (p || true) ≡ true
    or_true true = refl
    or_true false = refl

pub first-same : (p q : Slot → Bool) (slots : List Slot) (a b : Option ℕ) → ((s : Slot) → q s ≡ p s) → a ≡ b → IsFirstSlot p slots a → IsFirstSlot q slots b
first-same p q slots a b is e h = subst (IsFirstSlot q slots) e (record {
  passes = λ k f. ((h.passes k f).0, is (slot_at slots k) ∙ (h.passes k f).1);
  first = λ j lt f. h.first j lt (sym (is (slot_at slots j)) ∙ f);
})

-- ---- the first of the numbers that a search finds
head-first : (p : Slot → Bool) (slots : List Slot) (k : ℕ) (ss : List Slot) → AreFrom slots k ss → k + length ss ≡ length slots → (j : ℕ) → k ≤ j → j < length slots → p (slot_at slots j) ≡ true → IsAtMost (head (found_numbers p k ss)) j
head-first p slots k [] h long j low lt e = absurd (omega (arith, long, low, lt))
head-first p slots k (s ∷ ss) h long j low lt e = elim (cases_Bool (p s)) [
  | inl f ↦ rw f low
  | inr f ↦
      let apart : (k ≡ j) ⊎ (suc k ≤ j) = grind arith in
      elim apart [
        | inl g ↦ absurd (true≢false (sym e ∙ (ap (λ i. p (slot_at slots i)) (sym g) ∙ (ap p (first slots k s ss h) ∙ f))))
        | inr g ↦ rw f (head-first p slots (suc k) ss (rest slots k s ss h) (omega arith) j g lt e)
      ]
]

head-passes : (p : Slot → Bool) (slots : List Slot) (k : ℕ) (ss : List Slot) → AreFrom slots k ss → k + length ss ≡ length slots → (j : ℕ) → head (found_numbers p k ss) ≡ Some j → (j < length slots) × (p (slot_at slots j) ≡ true)
head-passes p slots k [] h long j e = cc
head-passes p slots k (s ∷ ss) h long j e = elim (cases_Bool (p s)) [
  | inl f ↦
      let is : k ≡ j = some_same k j (sym (ap (λ (b : Bool). head (cond b (k ∷ found_numbers p (suc k) ss) (found_numbers p (suc k) ss))) f) ∙ e) in
      (omega (arith, is), ap (λ i. p (slot_at slots i)) (sym is) ∙ (ap p (first slots k s ss h) ∙ f))
  | inr f ↦ head-passes p slots (suc k) ss (rest slots k s ss h) (omega arith) j (sym (ap (λ (b : Bool). head (cond b (k ∷ found_numbers p (suc k) ss) (found_numbers p (suc k) ss))) f) ∙ e)
]
  where
    some_same : (k j : ℕ) → Some k ≡ Some j → k ≡ j
    some_same k j e = cc

pub first-found : (p : Slot → Bool) (slots : List Slot) → IsFirstSlot p slots (head (found_numbers p 0 slots))
first-found p slots =
    record {
      passes = λ k e. head-passes p slots 0 slots (all slots) (omega arith) k e;
      first = λ j lt e. head-first p slots 0 slots (all slots) (omega arith) j (omega arith) lt e;
    }

-- ---- naming the first tetrahedron
names-step : (points : List Point) (P : List ℕ → Type 0) (s : Slot) (xs : List (List ℕ)) (named : List Point) → (s.live ≡ true → ¬ P s.tet.0) → NamesFirst points P xs named → (b : Bool) → s.live ≡ b → NamesFirst points P (cond b (s.tet.0 ∷ xs) xs) named
names-step points P s xs named not_first r true e = record {
  before = s.tet.0 ∷ r.before;
  simplex = r.simplex;
  after = r.after;
  list = ap (λ ys. s.tet.0 ∷ ys) r.list;
  earlier = All-from_recursion (λ x. ¬ P x) (s.tet.0 ∷ r.before) (not_first e, recursion_from_All (λ x. ¬ P x) r.before r.earlier);
  fault = r.fault;
  corners = r.corners;
}
names-step points P s xs named not_first r false e = r

pub names-first : (points : List Point) (P : List ℕ → Type 0) (slots : List Slot) (k : ℕ) (named : List Point) → k < length slots → (slot_at slots k).live ≡ true → P (slot_at slots k).tet.0 → ((j : ℕ) → j < k → (slot_at slots j).live ≡ true → ¬ P (slot_at slots j).tet.0) → named ≡ points_of points (slot_at slots k).tet.0 → NamesFirst points P (live_tets slots) named
names-first points P [] k named lt live fault earlier is = absurd (omega arith)
names-first points P (s ∷ ss) zero named lt live fault earlier is = subst (λ b. NamesFirst points P (cond b (s.tet.0 ∷ live_tets ss) (live_tets ss)) named) (sym live) (record {
  before = [];
  simplex = s.tet.0;
  after = live_tets ss;
  list = refl;
  earlier = All-from_recursion (λ x. ¬ P x) [] tt;
  fault = fault;
  corners = is;
})
names-first points P (s ∷ ss) (suc k) named lt live fault earlier is =
    names-step points P s (live_tets ss) named (λ e. earlier 0 (omega arith) e)
    (names-first points P ss k named (omega arith) live fault (λ j below e. earlier (suc j) (omega arith) e) is) s.live refl

all-step : (P : List ℕ → Type 0) (s : Slot) (xs : List (List ℕ)) → (s.live ≡ true → P s.tet.0) → Each P xs → (b : Bool) → s.live ≡ b → Each P (cond b (s.tet.0 ∷ xs) xs)
all-step P s xs h g true e = (h e, g)
all-step P s xs h g false e = g

each-live : (P : List ℕ → Type 0) (slots : List Slot) → ((j : ℕ) → j < length slots → (slot_at slots j).live ≡ true → P (slot_at slots j).tet.0) → Each P (live_tets slots)
each-live P [] h = tt
each-live P (s ∷ ss) h = all-step P s (live_tets ss) (λ e. h 0 (omega arith) e) (each-live P ss (λ j lt e. h (suc j) (omega arith) e)) s.live refl

-- what holds of each live slot's tetrahedron
pub all-live : (P : List ℕ → Type 0) (slots : List Slot) → ((j : ℕ) → j < length slots → (slot_at slots j).live ≡ true → P (slot_at slots j).tet.0) → All P (live_tets slots)
all-live P slots h = All-from_recursion P (live_tets slots) (each-live P slots h)

-- ---- an edge
pub has_edge-one : (u v : ℕ) (s : Slot) → has_one_of ((u ∷ v ∷ []) ∷ []) s ≡ has_edge u v s
has_edge-one u v s = at s.live (has s.tet.0 u) (has s.tet.0 v)
  where
    at : (a b c : Bool) → (a && ((b && (c && true)) || false)) ≡ (a && b && c)
    at true true true = refl
    at true true false = refl
    at true false c = refl
    at false b c = refl

-- ---- one more edge
one-more : (s : Slot) (es gs : List (List ℕ)) → has_one_of (es ++ gs) s ≡ (has_one_of es s || has_one_of gs s)
one-more s es gs = ap (λ (b : Bool). s.live && b) (list_any-append (has_all s.tet.0) es gs) ∙ at s.live (list_any (has_all s.tet.0) es) (list_any (has_all s.tet.0) gs)
  where
    at : (a b c : Bool) → (a && (b || c)) ≡ ((a && b) || (a && c))
    at true b c = refl
    at false b c = refl

numbers-more : (es : List Edge) (i : ℕ) (d : Edge) → i < length es → numbers_of (take (i + 1) es) ≡ numbers_of (take i es) ++ (get_or es i d).0 ∷ []
numbers-more es i d lt = ap numbers_of (take_more es i d lt) ∙ parts (take i es) (get_or es i d)
  where
    parts : (es : List Edge) (e : Edge) → numbers_of (es ++ e ∷ []) ≡ numbers_of es ++ e.0 ∷ []
    parts [] e = refl
    parts (x ∷ es) e = ap (λ ys. x.0 ∷ ys) (parts es e)

pub first-step : (slots : List Slot) (es : List Edge) (i : ℕ) (d : Edge) (u v : ℕ) (a b c : Option ℕ) → i < length es → (get_or es i d).0 ≡ u ∷ v ∷ [] → c ≡ earlier a b → IsFirstSlot (has_one_of (numbers_of (take i es))) slots a → IsFirstSlot (has_one_of ((u ∷ v ∷ []) ∷ [])) slots b → IsFirstSlot (has_one_of (numbers_of (take (i + 1) es))) slots c
first-step slots es i d u v a b c lt pair e h g =
    subst (IsFirstSlot (has_one_of (numbers_of (take (i + 1) es))) slots) (sym e)
    (first-both (has_one_of (numbers_of (take i es))) (has_one_of ((u ∷ v ∷ []) ∷ [])) (has_one_of (numbers_of (take (i + 1) es))) slots a b
    (λ s. ap (λ es. has_one_of es s) (numbers-more es i d lt ∙ ap (λ f. numbers_of (take i es) ++ f ∷ []) pair) ∙ one-more s (numbers_of (take i es)) ((u ∷ v ∷ []) ∷ []))
    h g)

-- ---- the edges that a phase wants, in order
among-any : (test : List ℕ → Bool) (xs ys : List (List ℕ)) → ((t : List ℕ) → is_among t xs ≡ true → is_among t ys ≡ true) → list_any test xs ≡ true → list_any test ys ≡ true
among-any test xs ys more e =
    let a = Any-from_list_any test xs e in
    let there : is_among a.1 xs ≡ true = list_any-from_Any (same_triple a.1) xs (a.0, a.1, a.2, a.3, equal_to a.1 a.1 refl) in
    let b = Any-from_list_any (same_triple a.1) ys (more a.1 there) in
    list_any-from_Any test ys (b.0, b.1, b.2, b.3, ap test (sym (equal_from a.1 b.1 b.4)) ∙ a.4)

any-in_order_once : (test : List ℕ → Bool) (xs : List (List ℕ)) → list_any test (in_order_once xs) ≡ list_any test xs
any-in_order_once test xs =
    same_bools _ _
    (among-any test (in_order_once xs) xs (λ t e. sym (is_among-in_order_once t xs) ∙ e))
    (among-any test xs (in_order_once xs) (λ t e. is_among-in_order_once t xs ∙ e))

pub first-wanted : (slots : List Slot) (points : List Point) (tets : List (List ℕ)) (es : List (List ℕ)) (m : Mesh) (s t : Tri) (i : ℕ) (found : Option ℕ) → es ≡ flat_map (wanted_in points s i) tets → points ≡ m.points → tets ≡ m.tets → s ≡ t → IsFirstSlot (has_one_of es) slots found → IsFirstSlot (has_one_of (wanted m t i)) slots found
unfolding wanted
first-wanted slots points tets es m s t i found e p q r h =
    let all : es ≡ flat_map (wanted_in m.points t i) m.tets = e ∙ (λ j. flat_map (wanted_in (p j) (r j) i) (q j)) in
    first-same (has_one_of es) (has_one_of (in_order_once (flat_map (wanted_in m.points t i) m.tets))) slots found found
    (λ x. ap (λ (b : Bool). x.live && b) (any-in_order_once (has_all x.tet.0) (flat_map (wanted_in m.points t i) m.tets)) ∙ ap (λ gs. has_one_of gs x) (sym all)) refl h

-- ---- of all four phases
pub first-of_four : (m : Mesh) (t : Tri) (slots : List Slot) (a b c d : Option ℕ) → IsFirstSlot (has_one_of (wanted m t 0)) slots a → IsFirstSlot (has_one_of (wanted m t 1)) slots b → IsFirstSlot (has_one_of (wanted m t 2)) slots c → IsFirstSlot (has_one_of (wanted m t 3)) slots d → IsFirstSlot (is_open m t) slots (earlier a (earlier b (earlier c d)))
first-of_four m t slots a b c d ha hb hc hd =
    let p : ℕ → Slot → Bool = λ i. has_one_of (wanted m t i) in
    let cd = first-both (p 2) (p 3) (λ s. p 2 s || p 3 s) slots c d (λ s. refl) hc hd in
    let bcd = first-both (p 1) (λ s. p 2 s || p 3 s) (λ s. p 1 s || (p 2 s || p 3 s)) slots b (earlier c d) (λ s. refl) hb cd in
    let abcd = first-both (p 0) (λ s. p 1 s || (p 2 s || p 3 s)) (λ s. p 0 s || (p 1 s || (p 2 s || p 3 s))) slots a (earlier b (earlier c d)) (λ s. refl) ha bcd in
    first-same (λ s. p 0 s || (p 1 s || (p 2 s || p 3 s))) (is_open m t) slots _ _ (λ s. at s.live (list_any (has_all s.tet.0) (wanted m t 0)) (list_any (has_all s.tet.0) (wanted m t 1)) (list_any (has_all s.tet.0) (wanted m t 2)) (list_any (has_all s.tet.0) (wanted m t 3))) refl abcd
  where
    at : (l a b c d : Bool) → (l && (a || (b || (c || (d || false))))) ≡ ((l && a) || ((l && b) || ((l && c) || (l && d))))
    at true a b c true = refl
    at true a b c false = refl
    at false a b c d = refl

-- no slot is open
pub none-open : (m : Mesh) (t : Tri) (slots : List Slot) → live_tets slots ≡ m.tets → IsFirstSlot (is_open m t) slots None → All (λ x. is_unresolved m t x ≡ false) m.tets
none-open m t slots e h = subst (All (λ x. is_unresolved m t x ≡ false)) e (all-live (λ x. is_unresolved m t x ≡ false) slots (λ j lt live. false_from_ne_true (is_unresolved m t (slot_at slots j).tet.0) (λ f. h.first j lt (and_from _ _ live f))))

-- the first open slot
pub first-open : (m : Mesh) (t : Tri) (slots : List Slot) (k : ℕ) (named : List Point) → live_tets slots ≡ m.tets → named ≡ points_of m.points (slot_at slots k).tet.0 → IsFirstSlot (is_open m t) slots (Some k) → NamesFirst m.points (λ x. is_unresolved m t x ≡ true) m.tets named
first-open m t slots k named e is h =
    let at = h.passes k refl in
    subst (λ tets. NamesFirst m.points (λ x. is_unresolved m t x ≡ true) tets named) e
    (names-first m.points (λ x. is_unresolved m t x ≡ true) slots k named at.0 (and_parts _ _ at.1).0 (and_parts _ _ at.1).1
    (λ j below live f. let low : k ≤ j = h.first j (omega (arith, at.0, below)) (and_from _ _ live f) in absurd (omega arith)) is)

pub pair : (x : List ℕ) → length x ≡ 2 → x ≡ get_or x 0 0 ∷ get_or x 1 0 ∷ []
pair [] e = cc e
pair (a ∷ []) e = cc e
pair (a ∷ b ∷ []) e = refl
pair (a ∷ b ∷ c ∷ x) e = cc e

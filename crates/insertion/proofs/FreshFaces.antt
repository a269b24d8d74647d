-- The tracked faces with a new corner, among all tracked faces.
use Rattle.std.proofs.Common.{◌≡◌, ℕ, ◌+◌, ◌<◌, ◌≤◌, Bool, true, false, ◌&&◌, ◌||◌, cond, nat_eq, nat_le, nat_lt, Option, None, Some, MatchOption, List, [], ◌∷◌, ◌++◌, All, filter, refl, sym, ap, ap₂, ◌∙◌, subst, inl, inr, arith}
use Rattle.std.specs.List.{list_any, AllByRecursion as Each}
use Rattle.std.proofs.lemmas.Bool.{cases_Bool, or_cases}
use Rattle.std.proofs.lemmas.Bool.Decides.{nat_tests}
use Rattle.std.proofs.lemmas.List.Elements.{All-from_recursion, recursion_from_All}
use Rattle.std.proofs.lemmas.List.Folds.{list_any-append}
use Rattle.grid.specs.declared.shapes.Face.{Face}
use Rattle.grid.specs.declared.shapes.Point.{Point}
use Rattle.grid.specs.declared.shapes.Tri.{Tri}
use Rattle.grid.specs.Meshes.{IsTriple, Ordered}
use Rattle.grid.specs.Simplices.{has, same_triple}
use Rattle.grid.specs.Views.{triples_of}
use Rattle.mesh_types.specs.Insertion.{NamesFirst}
use Rattle.mesh_types.specs.Phases.{points_of}
use Rattle.mesh_types.specs.Tracking.{in_order_once}
use Rattle.mesh_types.proofs.ForCallers.{is_among, equal_from, in_order_once-Ordered, is_among-in_order_once}
use Rattle.mesh_store.specs.Parts.{tracked_in}
use Rattle.mesh_store.proofs.ForCallers.{chosen-is, tracked-triples, among-filter, triples-filter}
use Rattle.tracked.specs.Keys.{Keys, faces_at, faces_in}
use Rattle.insertion.specs.Bare.{IsBare, IsKept, is_fresh}
use Rattle.insertion.proofs.Starting.{kept-not}

-- ---- point after point
-- some corner is from n on and below k
abbrev pub is_between : (n k : ℕ) → List ℕ → Bool
is_between n k x = list_any (λ u. nat_le n u && nat_lt u k) x

-- the faces so far are those with a corner from n on and below k
abbrev pub FoundTo : Keys → (n k : ℕ) → List Face → Type 0
FoundTo keys n k fs = (x : List ℕ) → is_among x (triples_of fs) ≡ (is_among x (triples_of (faces_in keys)) && is_between n k x)

never : (n u : ℕ) → (nat_le n u && nat_lt u n) ≡ false
never n u = elim (cases_Bool (nat_le n u)) [
  | inl a ↦ let b : nat_lt u n ≡ false = grind (arith, nat_tests) in rw (a, b) refl
  | inr a ↦ rw a refl
]

none-between : (n : ℕ) (x : List ℕ) → is_between n n x ≡ false
none-between n [] = refl
none-between n (u ∷ x) = rw (never n u) (none-between n x)

and_false : (b : Bool) → (b && false) ≡ false
and_false true = refl
and_false false = refl

pub FoundTo-none : (keys : Keys) (n : ℕ) → FoundTo keys n n []
FoundTo-none keys n x = sym (ap (λ (b : Bool). is_among x (triples_of (faces_in keys)) && b) (none-between n x) ∙ and_false (is_among x (triples_of (faces_in keys))))

one-more : (n k u : ℕ) → n ≤ k → (nat_le n u && nat_lt u (k + 1)) ≡ ((nat_le n u && nat_lt u k) || nat_eq u k)
one-more n k u l = elim (cases_Bool (nat_le n u)) [
  | inl a ↦ elim (cases_Bool (nat_lt u k)) [
    | inl b ↦ let c : nat_lt u (k + 1) ≡ true = grind (arith, nat_tests) in rw (a, b, c) refl
    | inr b ↦ elim (cases_Bool (nat_eq u k)) [
      | inl d ↦ let c : nat_lt u (k + 1) ≡ true = grind (arith, nat_tests) in rw (a, b, d, c) refl
      | inr d ↦ let c : nat_lt u (k + 1) ≡ false = grind (arith, nat_tests) in rw (a, b, d, c) refl
    ]
  ]
  | inr a ↦ let d : nat_eq u k ≡ false = grind (arith, nat_tests) in rw (a, d) refl
]

regroup : (a b c d : Bool) → ((a || b) || (c || d)) ≡ ((a || c) || (b || d))
regroup true b c d = refl
regroup false true true d = refl
regroup false true false d = refl
regroup false false c d = refl

more-between : (n k : ℕ) (x : List ℕ) → n ≤ k → is_between n (k + 1) x ≡ (is_between n k x || has x k)
more-between n k [] l = refl
more-between n k (u ∷ x) l =
    ap₂ (λ (a b : Bool). a || b) (one-more n k u l) (more-between n k x l)
    ∙ regroup (nat_le n u && nat_lt u k) (nat_eq u k) (is_between n k x) (has x k)

spread : (l a b : Bool) → ((l && a) || (l && b)) ≡ (l && (a || b))
spread true a b = refl
spread false a b = refl

triples-append : (fs gs : List Face) → triples_of (fs ++ gs) ≡ triples_of fs ++ triples_of gs
triples-append [] gs = refl
triples-append (f ∷ fs) gs = ap (λ (ts : List (List ℕ)). f.0 ∷ ts) (triples-append fs gs)

pub FoundTo-more : (keys : Keys) (n k : ℕ) (fs at more new : List Face) → n ≤ k → at ≡ faces_at keys k → more ≡ at → new ≡ fs ++ more → FoundTo keys n k fs → FoundTo keys n (k + 1) new
FoundTo-more keys n k fs at more new l e same f h x =
    let all : Bool = is_among x (triples_of (faces_in keys)) in
    ap (λ (gs : List Face). is_among x (triples_of gs)) (f ∙ ap (λ (gs : List Face). fs ++ gs) (same ∙ e))
    ∙ (ap (is_among x) (triples-append fs (faces_at keys k)) ∙ list_any-append (same_triple x) (triples_of fs) (triples_of (faces_at keys k))
    ∙ (ap₂ (λ (a b : Bool). a || b) (h x) (ap (is_among x) (triples-filter (λ t. has t k) (faces_in keys)) ∙ among-filter (λ t. has t k) x (triples_of (faces_in keys)))
    ∙ (spread all (is_between n k x) (has x k) ∙ ap (λ (b : Bool). all && b) (sym (more-between n k x l)))))

-- ---- past the last point
same-past : (n k u : ℕ) → u < k → (nat_le n u && nat_lt u k) ≡ nat_le n u
same-past n k u l = let b : nat_lt u k ≡ true = grind (arith, nat_tests) in rw b (and_true (nat_le n u))
  where
    and_true : (b : Bool) → (b && true) ≡ b
    and_true true = refl
    and_true false = refl

all-between : (n m k : ℕ) (x : List ℕ) → m ≤ k → Each (λ u. u < m) x → is_between n k x ≡ is_fresh n x
all-between n m k [] l h = refl
all-between n m k (u ∷ x) l h = ap₂ (λ (a b : Bool). a || b) (same-past n k u (omega (arith, l, h.0))) (all-between n m k x l h.1)

among-each : (P : List ℕ → Type 0) (x : List ℕ) (ts : List (List ℕ)) → is_among x ts ≡ true → Each P ts → P x
among-each P x [] e h = cc
among-each P x (t ∷ ts) e h = elim (or_cases (same_triple x t) (is_among x ts) e) [
  | inl g ↦ subst P (sym (equal_from x t g)) h.0
  | inr g ↦ among-each P x ts g h.1
]

pub fresh-found : (keys : Keys) (n m k : ℕ) (fs risen : List Face) → All (λ (f : Face × Bool). IsTriple m f.0.0) keys → m ≤ k → FoundTo keys n k fs → triples_of risen ≡ in_order_once (triples_of fs) → triples_of risen ≡ filter (is_fresh n) (tracked_in keys)
fresh-found keys n m k fs risen triples l h e =
    chosen-is (is_fresh n) keys risen (subst Ordered (sym e) (in_order_once-Ordered (triples_of fs))) (λ x.
    ap (is_among x) e ∙ (is_among-in_order_once x (triples_of fs) ∙ (h x ∙ past x)))
  where
    past : (x : List ℕ) → (is_among x (triples_of (faces_in keys)) && is_between n k x) ≡ (is_among x (triples_of (faces_in keys)) && is_fresh n x)
    past x = elim (cases_Bool (is_among x (triples_of (faces_in keys)))) [
      | inl a ↦
          let r : IsTriple m x = among-each (IsTriple m) x (tracked_in keys) (is_among-in_order_once x (triples_of (faces_in keys)) ∙ a) (tracked-triples m keys triples) in
          ap (λ (b : Bool). is_among x (triples_of (faces_in keys)) && b) (all-between n m k x l (recursion_from_All (λ u. u < m) x r.in_range))
      | inr a ↦ rw a refl
    ]

-- ---- the first bare face is a fresh one
old-low : (n : ℕ) (x : List ℕ) → is_fresh n x ≡ false → Each (λ u. u < n) x
old-low n [] e = tt
old-low n (u ∷ x) e = elim (cases_Bool (nat_le n u)) [
  | inl a ↦ cc
  | inr a ↦ (below n u a, old-low n x (sym (ap (λ (b : Bool). b || is_fresh n x) a) ∙ e))
]
  where
    below : (n u : ℕ) → nat_le n u ≡ false → u < n
    below n u a = grind (arith, nat_tests)

same-first : (x y : List ℕ) (xs ys : List (List ℕ)) → x ∷ xs ≡ y ∷ ys → x ≡ y
same-first x y xs ys e = cc

same-rest : (x y : List ℕ) (xs ys : List (List ℕ)) → x ∷ xs ≡ y ∷ ys → xs ≡ ys
same-rest x y xs ys e = cc

module _ (points : List Point) (triangles : List Tri) (e n : ℕ) where
  old-kept : (x : List ℕ) → is_fresh n x ≡ false → IsKept points triangles e n x
  old-kept x o = inl (All-from_recursion (λ u. u < n) x (old-low n x o))

  each-kept : (xs : List (List ℕ)) → Each (IsKept points triangles e n) (filter (is_fresh n) xs) → Each (IsKept points triangles e n) xs
  each-kept [] h = tt
  each-kept (x ∷ xs) h = elim (cases_Bool (is_fresh n x)) [
    | inl a ↦ let g = subst (λ b. Each (IsKept points triangles e n) (cond b (x ∷ filter (is_fresh n) xs) (filter (is_fresh n) xs))) a h in (g.0, each-kept xs g.1)
    | inr a ↦ let g = subst (λ b. Each (IsKept points triangles e n) (cond b (x ∷ filter (is_fresh n) xs) (filter (is_fresh n) xs))) a h in (old-kept x a, each-kept xs g)
  ]

  passed : (x : List ℕ) (xs : List (List ℕ)) → is_fresh n x ≡ true → x ∷ filter (is_fresh n) xs ≡ filter (is_fresh n) (x ∷ xs)
  passed x xs a = sym (ap (λ (b : Bool). cond b (x ∷ filter (is_fresh n) xs) (filter (is_fresh n) xs)) a)

  left_out : (x : List ℕ) (xs : List (List ℕ)) → is_fresh n x ≡ false → filter (is_fresh n) xs ≡ filter (is_fresh n) (x ∷ xs)
  left_out x xs a = sym (ap (λ (b : Bool). cond b (x ∷ filter (is_fresh n) xs) (filter (is_fresh n) xs)) a)

  earlier-one : (x : List ℕ) (xs : List (List ℕ)) (named : List Point) → ¬ IsBare points triangles e n x → NamesFirst points (IsBare points triangles e n) xs named → NamesFirst points (IsBare points triangles e n) (x ∷ xs) named
  earlier-one x xs named not_bare r = record {
    before = x ∷ r.before;
    simplex = r.simplex;
    after = r.after;
    list = ap (λ ys. x ∷ ys) r.list;
    earlier = All-from_recursion (λ y. ¬ IsBare points triangles e n y) (x ∷ r.before) (not_bare, recursion_from_All (λ y. ¬ IsBare points triangles e n y) r.before r.earlier);
    fault = r.fault;
    corners = r.corners;
  }

  names-fresh : (xs : List (List ℕ)) (named : List Point) (before : List (List ℕ)) (simplex : List ℕ) (after : List (List ℕ)) → filter (is_fresh n) xs ≡ before ++ simplex ∷ after → Each (λ y. ¬ IsBare points triangles e n y) before → IsBare points triangles e n simplex → named ≡ points_of points simplex → NamesFirst points (IsBare points triangles e n) xs named
  names-fresh [] named [] simplex after is h fault corners = cc
  names-fresh [] named (b ∷ before) simplex after is h fault corners = cc
  names-fresh (x ∷ xs) named [] simplex after is h fault corners = elim (cases_Bool (is_fresh n x)) [
    | inl a ↦ let same : x ≡ simplex = same-first x simplex (filter (is_fresh n) xs) after (passed x xs a ∙ is) in record {
      before = [];
      simplex = x;
      after = xs;
      list = refl;
      earlier = All-from_recursion (λ y. ¬ IsBare points triangles e n y) [] tt;
      fault = subst (IsBare points triangles e n) (sym same) fault;
      corners = corners ∙ ap (points_of points) (sym same);
    }
    | inr a ↦ earlier-one x xs named (kept-not points triangles e n x (old-kept x a)) (names-fresh xs named [] simplex after (left_out x xs a ∙ is) h fault corners)
  ]
  names-fresh (x ∷ xs) named (b ∷ before) simplex after is h fault corners = elim (cases_Bool (is_fresh n x)) [
    | inl a ↦
        earlier-one x xs named (subst (λ y. ¬ IsBare points triangles e n y) (sym (same-first x b (filter (is_fresh n) xs) (before ++ simplex ∷ after) (passed x xs a ∙ is))) h.0)
        (names-fresh xs named before simplex after (same-rest x b (filter (is_fresh n) xs) (before ++ simplex ∷ after) (passed x xs a ∙ is)) h.1 fault corners)
    | inr a ↦ earlier-one x xs named (kept-not points triangles e n x (old-kept x a)) (names-fresh xs named (b ∷ before) simplex after (left_out x xs a ∙ is) h fault corners)
  ]

  pub first-fresh : (xs : List (List ℕ)) (found : Option (List Point)) → MatchOption found (All (IsKept points triangles e n) (filter (is_fresh n) xs)) (NamesFirst points (IsBare points triangles e n) (filter (is_fresh n) xs)) → MatchOption found (All (IsKept points triangles e n) xs) (NamesFirst points (IsBare points triangles e n) xs)
  first-fresh xs None h = All-from_recursion (IsKept points triangles e n) xs (each-kept xs (recursion_from_All (IsKept points triangles e n) (filter (is_fresh n) xs) h))
  first-fresh xs (Some named) h = names-fresh xs named h.before h.simplex h.after h.list (recursion_from_All (λ y. ¬ IsBare points triangles e n y) h.before h.earlier) h.fault h.corners

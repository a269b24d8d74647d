-- What swaps make of the mesh.
use Rattle.std.proofs.Common.{◌≡◌, ◌≢◌, ℤ, ℕ, ◌+◌, ◌<◌, Bool, true, false, ◌&&◌, ◌||◌, not, nat_eq, Option, None, Some, get_or, drop, List, [], ◌∷◌, ◌++◌, map, filter, length, refl, sym, ◌∙◌, ap, subst, inl, inr, arith, append-nil, length-append}
use Rattle.std.specs.List.{find, flat_map, AllByRecursion as Each}
use Rattle.std.proofs.lemmas.Bool.{cases_Bool, and_from, and_parts, or_cases, true≢false}
use Rattle.std.proofs.lemmas.List.{length-map}
use Rattle.std.proofs.lemmas.List.Elements.{recursion_from_All}
use Rattle.grid.specs.Meshes.{Mesh, IsWithinLimits}
use Rattle.grid.specs.Simplices.{IsTet, has, replaced}
use Rattle.grid.specs.Limits.{most_made}
use Rattle.mesh_types.specs.Results.{edge_swap, face_swap, first_outside, has_face, is_across, without}
use Rattle.grid.proofs.ForCallers.{Each-weaker, has_first}
use Rattle.mesh_types.proofs.ForCallers.{IsTet-from, cornered-put, cornered_of, below_each}
use Rattle.tet_slots.specs.declared.slot.Slot.{Slot}
use Rattle.tet_slots.specs.Slots.{no_slot}
use Rattle.tet_slots.specs.Searches.{numbers_of, has_edge}
use Rattle.mesh_store.specs.Parts.{Parts, live_slot, live_tets, tracked_in, mesh_in}
use Rattle.mesh_store.specs.Sound.{IsSoundStore}
use Rattle.mesh_store.specs.Exchanges.{all_killed, CanKill, exchanged, has_either, tet_in}
use Rattle.mesh_store.proofs.Finding.{find-later, has_face-has, outside-is, IsFirst, first-numbers, none-numbers, two-can_kill, two-killed}
use Rattle.mesh_store.proofs.Killing.{CanKill-numbers, all_killed-numbers, all_killed-length, tets-numbers}
use Rattle.mesh_store.proofs.Exchanged.{CanKill-there}
use Rattle.mesh_store.proofs.LiveSlots.{live-append, live-made, live-killed}

-- ---- any slots exchanged for tetrahedra
pub mesh-exchanged : (old : Parts) (gone : List ℕ) (fresh kept : List (List ℕ)) → live_tets (all_killed gone old.slots) ≡ kept
    → mesh_in (exchanged gone fresh [] [] old) ≡ record { points = old.points ++ []; tets = kept ++ fresh; tracked = tracked_in old.keys; made = length old.slots + length fresh }
mesh-exchanged old gone fresh kept e = λ i. record {
  points = sym (append-nil old.points) i;
  tets = (live-append (all_killed gone old.slots) (map live_slot fresh) ∙ (ap (λ (xs : List (List ℕ)). xs ++ live_tets (map live_slot fresh)) e ∙ ap (λ (xs : List (List ℕ)). kept ++ xs) (live-made fresh))) i;
  tracked = tracked_in old.keys;
  made = (length-append (all_killed gone old.slots) (map live_slot fresh) ∙ (ap (λ n. n + length (map live_slot fresh)) (all_killed-length gone old.slots) ∙ ap (λ n. length old.slots + n) (length-map fresh live_slot))) i;
}

-- a corner put in that was not there
pub put-IsTet : (n u c : ℕ) (x : List ℕ) → IsTet n x → has x c ≡ false → c < n → IsTet n (replaced u c x)
put-IsTet n u c x h e l = IsTet-from n (replaced u c x) (cornered-put u c n x (cornered_of n x h) e l)

-- the numbers of slots that hold tetrahedra
pub tet-at : (side : ℤ) (m : Parts) → IsSoundStore side m → (i : ℕ) → i < length m.slots → IsTet (length m.points) (tet_in m.slots i)
tet-at side m h i l = h.tets_are i no_slot l

and_assoc : (a b c : Bool) → ((a && b) && c) ≡ (a && (b && c))
and_assoc true b c = refl
and_assoc false b c = refl

abbrev has_both : ℕ → ℕ → List ℕ → Bool
has_both u v x = has x u && has x v

edge_is : (u v : ℕ) (s : Slot) → has_edge u v s ≡ (s.live && has_both u v s.tet.0)
edge_is u v s = and_assoc s.live (has s.tet.0 u) (has s.tet.0 v)

pub edge-can_kill : (u v : ℕ) (slots : List Slot) → CanKill (numbers_of (has_edge u v) 0 slots) slots
edge-can_kill u v slots = CanKill-numbers (has_edge u v) (has_both u v) (edge_is u v) [] slots

pub edge-tets : (u v : ℕ) (slots : List Slot) → map (tet_in slots) (numbers_of (has_edge u v) 0 slots) ≡ filter (λ x. has x u && has x v) (live_tets slots)
edge-tets u v slots = tets-numbers (has_edge u v) (has_both u v) (edge_is u v) [] slots

edge-kept : (u v : ℕ) (slots : List Slot) → live_tets (all_killed (numbers_of (has_edge u v) 0 slots) slots) ≡ filter (λ x. not (has x u && has x v)) (live_tets slots)
edge-kept u v slots = ap live_tets (all_killed-numbers (has_edge u v) (has_both u v) (edge_is u v) [] slots) ∙ live-killed (has_both u v) slots

-- ---- corners of lists of tetrahedra
or_true : (b : Bool) → (b || true) ≡ true
or_true true = refl
or_true false = refl

none-outside : (x ys : List ℕ) → Each (λ c. has x c ≡ true) ys → first_outside x ys ≡ None
none-outside x [] h = refl
none-outside x (y ∷ ys) h = rw h.0 (none-outside x ys h.1)

has-more : (a c : ℕ) (x : List ℕ) → has x c ≡ true → has (a ∷ x) c ≡ true
has-more a c x h = ap (λ (b : Bool). nat_eq a c || b) h ∙ or_true (nat_eq a c)

each-corner : (x : List ℕ) → Each (λ c. has x c ≡ true) x
each-corner [] = tt
each-corner (a ∷ x) = (has_first a x, Each-weaker (λ c. has x c ≡ true) (λ c. has (a ∷ x) c ≡ true) (λ c h. has-more a c x h) x (each-corner x))

none-self : (x : List ℕ) → first_outside x x ≡ None
none-self x = none-outside x x (each-corner x)

flat-map : (f : ℕ → List ℕ) (is : List ℕ) → flat_map (λ y. y) (map f is) ≡ flat_map f is
flat-map f [] = refl
flat-map f (i ∷ is) = ap (λ (ys : List ℕ). f i ++ ys) (flat-map f is)

below-append : (n : ℕ) (x ys : List ℕ) → ((c : ℕ) → has x c ≡ true → c < n) → ((c : ℕ) → has ys c ≡ true → c < n) → (c : ℕ) → has (x ++ ys) c ≡ true → c < n
below-append n [] ys h g c e = g c e
below-append n (a ∷ x) ys h g c e = elim (or_cases (nat_eq a c) (has (x ++ ys) c) e) [
  | inl f ↦ h c (ap (λ (b : Bool). b || has x c) f)
  | inr f ↦ below-append n x ys (λ d k. h d (has-more a d x k)) g c f
]

pub below-flat : (n : ℕ) (slots : List Slot) (is : List ℕ) → Each (λ i. IsTet n (tet_in slots i)) is → (c : ℕ) → has (flat_map (tet_in slots) is) c ≡ true → c < n
below-flat n slots [] h c e = absurd (true≢false (sym e))
below-flat n slots (i ∷ is) h c e =
    below-append n (tet_in slots i) (flat_map (tet_in slots) is) (below_each n (tet_in slots i) (recursion_from_All (λ o. o < n) (tet_in slots i) h.0.in_range)) (below-flat n slots is h.1) c e

-- ---- the swap of an edge
module _ (u v : ℕ) (old : Parts) where
  abbrev m : Mesh
  m = mesh_in old

  pub edge-none : numbers_of (has_edge u v) 0 old.slots ≡ [] → mesh_in old ≡ (edge_swap (mesh_in old) u v).mesh
  unfolding edge_swap
  edge-none e =
      let none : filter (λ x. has x u && has x v) (live_tets old.slots) ≡ [] = sym (edge-tets u v old.slots) ∙ ap (map (tet_in old.slots)) e in
      rw none refl

  module _ (i : ℕ) (is : List ℕ) (e : numbers_of (has_edge u v) 0 old.slots ≡ i ∷ is) where
    edge-list : filter (λ x. has x u && has x v) (live_tets old.slots) ≡ tet_in old.slots i ∷ map (tet_in old.slots) is
    edge-list = sym (edge-tets u v old.slots) ∙ ap (map (tet_in old.slots)) e

    others-outside : first_outside (tet_in old.slots i) (flat_map (λ y. y) (map (tet_in old.slots) is)) ≡ first_outside (tet_in old.slots i) (flat_map (tet_in old.slots) (i ∷ is))
    others-outside =
        ap (first_outside (tet_in old.slots i)) (flat-map (tet_in old.slots) is)
        ∙ sym (find-later (λ c. not (has (tet_in old.slots i) c)) (tet_in old.slots i) (flat_map (tet_in old.slots) is) (none-self (tet_in old.slots i)))

    pub edge-unchanged : first_outside (tet_in old.slots i) (flat_map (tet_in old.slots) (i ∷ is)) ≡ None → mesh_in old ≡ (edge_swap (mesh_in old) u v).mesh
    unfolding edge_swap
    edge-unchanged f = let g = others-outside ∙ f in rw (edge-list, g) refl

    abbrev two : ℕ → List (List ℕ)
    two c = replaced v c (tet_in old.slots i) ∷ replaced u c (tet_in old.slots i) ∷ []

    pub edge-is : (c : ℕ) → first_outside (tet_in old.slots i) (flat_map (tet_in old.slots) (i ∷ is)) ≡ Some c
        → (edge_swap (mesh_in old) u v).mesh ≡ record { points = old.points ++ []; tets = filter (λ x. not (has x u && has x v)) (live_tets old.slots) ++ two c; tracked = tracked_in old.keys; made = length old.slots + length (two c) }
    unfolding edge_swap
    edge-is c f = let g = others-outside ∙ f in rw (edge-list, g) refl

    pub mesh-edge : (c : ℕ) → first_outside (tet_in old.slots i) (flat_map (tet_in old.slots) (i ∷ is)) ≡ Some c → mesh_in (exchanged (i ∷ is) (two c) [] [] old) ≡ (edge_swap (mesh_in old) u v).mesh
    mesh-edge c f =
        mesh-exchanged old (i ∷ is) (two c) (filter (λ x. not (has x u && has x v)) (live_tets old.slots)) (ap (λ (ns : List ℕ). live_tets (all_killed ns old.slots)) (sym e) ∙ edge-kept u v old.slots) ∙ sym (edge-is c f)

    pub beyond-edge : (c : ℕ) → first_outside (tet_in old.slots i) (flat_map (tet_in old.slots) (i ∷ is)) ≡ Some c → most_made < length old.slots + 2 → IsWithinLimits (edge_swap (mesh_in old) u v).mesh → ⊥
    beyond-edge c f h w = let few = w.made_few in let made = ap (λ (n : Mesh). n.made) (edge-is c f) in absurd (omega (arith, h, few, made))

-- ---- the swap of a face
abbrev face3 : ℕ → ℕ → ℕ → List ℕ
face3 a b c = a ∷ b ∷ c ∷ []

either-part : (a b c : ℕ) (x : List ℕ) → has_either (face3 a b c) x ≡ true → has_both a b x ≡ true
either-part a b c x h = elim (or_cases (has_face (face3 a b c) x) (has_face (face3 a c b) x) h) [
  | inl e ↦ let r = has_face-has a b c x e in and_from (has x a) (has x b) r.0 r.1
  | inr e ↦ let r = has_face-has a c b x e in and_from (has x a) (has x b) r.0 r.2
]

across-part : (a b c : ℕ) (x y : List ℕ) → is_across (face3 a b c) x y ≡ true → has_both a b y ≡ true
across-part a b c x y h = elim (cases_Bool (has_face (face3 a b c) x)) [
  | inl e ↦ let k = rw e at h in let r = has_face-has a c b y (and_parts _ _ k).0 in and_from (has y a) (has y b) r.0 r.2
  | inr e ↦ let k = rw e at h in let r = has_face-has a b c y (and_parts _ _ k).0 in and_from (has y a) (has y b) r.0 r.1
]

-- the search among the slots at the edge is one among all
module _ (a b : ℕ) (slots : List Slot) (p : List ℕ → Bool) (part : (x : List ℕ) → p x ≡ true → has_both a b x ≡ true) where
  none-plus : (i : ℕ) → 0 + i ≡ i
  none-plus i = omega arith

  pub first-edge : (i : ℕ) → find (λ j. p (tet_in slots j)) (numbers_of (has_edge a b) 0 slots) ≡ Some i → IsFirst p slots i
  first-edge i e =
      let r = first-numbers p (has_edge a b) (has_both a b) (edge_is a b) part (λ j. p (tet_in slots j)) 0 slots (λ j. ap (λ (n : ℕ). p (tet_in slots n)) (none-plus j)) i e in
      subst (IsFirst p slots) (sym (r.1 ∙ none-plus r.0)) r.2

  pub none-edge : find (λ j. p (tet_in slots j)) (numbers_of (has_edge a b) 0 slots) ≡ None → find p (live_tets slots) ≡ None
  none-edge e = none-numbers p (has_edge a b) (has_both a b) (edge_is a b) part (λ j. p (tet_in slots j)) 0 slots (λ j. ap (λ (n : ℕ). p (tet_in slots n)) (none-plus j)) e

module _ (a b c : ℕ) (old : Parts) where
  pub face-first : (i : ℕ) → find (λ j. has_either (face3 a b c) (tet_in old.slots j)) (numbers_of (has_edge a b) 0 old.slots) ≡ Some i → IsFirst (has_either (face3 a b c)) old.slots i
  face-first i e = first-edge a b old.slots (has_either (face3 a b c)) (either-part a b c) i e

  pub face-second : (x : List ℕ) (i : ℕ) → find (λ j. is_across (face3 a b c) x (tet_in old.slots j)) (numbers_of (has_edge a b) 0 old.slots) ≡ Some i → IsFirst (is_across (face3 a b c) x) old.slots i
  face-second x i e = first-edge a b old.slots (is_across (face3 a b c) x) (across-part a b c x) i e

  pub face-none : find (λ j. has_either (face3 a b c) (tet_in old.slots j)) (numbers_of (has_edge a b) 0 old.slots) ≡ None → mesh_in old ≡ (face_swap (mesh_in old) a b c).mesh
  unfolding face_swap
  face-none e =
      let f : find (λ x. has_face (a ∷ b ∷ c ∷ []) x || has_face (a ∷ c ∷ b ∷ []) x) (live_tets old.slots) ≡ None = none-edge a b old.slots (has_either (face3 a b c)) (either-part a b c) e in
      rw f refl

  module _ (i : ℕ) (first : IsFirst (has_either (face3 a b c)) old.slots i) where
    found-first : find (λ x. has_face (a ∷ b ∷ c ∷ []) x || has_face (a ∷ c ∷ b ∷ []) x) (live_tets old.slots) ≡ Some (tet_in old.slots i)
    found-first = first.found

    pub face-alone : find (λ j. is_across (face3 a b c) (tet_in old.slots i) (tet_in old.slots j)) (numbers_of (has_edge a b) 0 old.slots) ≡ None → mesh_in old ≡ (face_swap (mesh_in old) a b c).mesh
    unfolding face_swap
    face-alone e =
        let f : find (is_across (a ∷ b ∷ c ∷ []) (tet_in old.slots i)) (live_tets old.slots) ≡ None = none-edge a b old.slots (is_across (face3 a b c) (tet_in old.slots i)) (across-part a b c (tet_in old.slots i)) e in
        rw (found-first, f) refl

    module _ (j : ℕ) (second : IsFirst (is_across (face3 a b c) (tet_in old.slots i)) old.slots j) where
      found-second : find (is_across (a ∷ b ∷ c ∷ []) (tet_in old.slots i)) (live_tets old.slots) ≡ Some (tet_in old.slots j)
      found-second = second.found

      pub face-closed : first_outside (tet_in old.slots i) (tet_in old.slots j) ≡ None → mesh_in old ≡ (face_swap (mesh_in old) a b c).mesh
      unfolding face_swap
      face-closed e = rw (found-first, found-second, e) refl

      abbrev three : ℕ → List (List ℕ)
      three o = replaced a o (tet_in old.slots i) ∷ replaced b o (tet_in old.slots i) ∷ replaced c o (tet_in old.slots i) ∷ []

      module _ (o : ℕ) (apex : first_outside (tet_in old.slots i) (tet_in old.slots j) ≡ Some o) where
        face-is : (face_swap (mesh_in old) a b c).mesh ≡ record { points = old.points ++ []; tets = without (tet_in old.slots j) (without (tet_in old.slots i) (live_tets old.slots)) ++ three o; tracked = tracked_in old.keys; made = length old.slots + length (three o) }
        unfolding face_swap
        face-is = rw (found-first, found-second, apex) refl

        apart : i ≢ j
        apart e =
            let r = outside-is (tet_in old.slots i) (tet_in old.slots j) o apex in
            true≢false (sym r.1 ∙ (ap (λ (k : ℕ). has (tet_in old.slots k) o) (sym e) ∙ r.0))

        pub face-can_kill : CanKill (i ∷ j ∷ []) old.slots
        face-can_kill = two-can_kill (has_either (face3 a b c)) (is_across (face3 a b c) (tet_in old.slots i)) old.slots i j first second apart

        pub face-corners : (side : ℤ) → IsSoundStore side old → (u : ℕ) → IsTet (length old.points) (replaced u o (tet_in old.slots i))
        face-corners side sound u =
            let r = outside-is (tet_in old.slots i) (tet_in old.slots j) o apex in
            put-IsTet (length old.points) u o (tet_in old.slots i) (tet-at side old sound i first.there) r.0
            (below_each (length old.points) (tet_in old.slots j) (recursion_from_All (λ k. k < length old.points) (tet_in old.slots j) (tet-at side old sound j second.there).in_range) o r.1)

        pub mesh-face : mesh_in (exchanged (i ∷ j ∷ []) (three o) [] [] old) ≡ (face_swap (mesh_in old) a b c).mesh
        mesh-face =
            mesh-exchanged old (i ∷ j ∷ []) (three o) (without (tet_in old.slots j) (without (tet_in old.slots i) (live_tets old.slots)))
            (two-killed (has_either (face3 a b c)) (is_across (face3 a b c) (tet_in old.slots i)) old.slots i j first second apart)
            ∙ sym face-is

        pub beyond-face : most_made < length old.slots + 3 → IsWithinLimits (face_swap (mesh_in old) a b c).mesh → ⊥
        beyond-face h w = let few = w.made_few in let made = ap (λ (n : Mesh). n.made) face-is in absurd (omega (arith, h, few, made))

-- ---- the swap of an edge, as the code finds its parts
-- the slots at the edge, the first of them, its tetrahedron, and the first corner of theirs that it has not
pub record IsHinge (u v : ℕ) (old : Parts) (gone : List ℕ) (i : ℕ) (x : List ℕ) (o : Option ℕ) : Type 0 where
  pub numbers : gone ≡ numbers_of (has_edge u v) 0 old.slots
  pub some : 0 < length gone
  pub first : i ≡ get_or gone 0 i
  pub tet : x ≡ tet_in old.slots i
  pub outside : o ≡ first_outside x (flat_map (tet_in old.slots) gone)

-- a list that is not empty
pub split-first : (ns : List ℕ) (i : ℕ) → 0 < length ns → i ≡ get_or ns 0 i → ns ≡ i ∷ drop 1 ns
split-first [] i h e = absurd (omega arith)
split-first (n ∷ ns) i h e = ap (λ (k : ℕ). k ∷ ns) (sym e)

module _ (u v : ℕ) (old : Parts) (gone : List ℕ) (i : ℕ) (x : List ℕ) (o : Option ℕ) (k : IsHinge u v old gone i x o) where
  all-is : numbers_of (has_edge u v) 0 old.slots ≡ i ∷ drop 1 gone
  all-is = sym k.numbers ∙ split-first gone i k.some k.first

  out-is : first_outside (tet_in old.slots i) (flat_map (tet_in old.slots) (i ∷ drop 1 gone)) ≡ o
  out-is =
      ap (λ (ns : List ℕ). first_outside (tet_in old.slots i) (flat_map (tet_in old.slots) ns)) (sym (split-first gone i k.some k.first))
      ∙ (ap (λ (y : List ℕ). first_outside y (flat_map (tet_in old.slots) gone)) (sym k.tet) ∙ sym k.outside)

  pub hinge-unchanged : o ≡ None → mesh_in old ≡ (edge_swap (mesh_in old) u v).mesh
  hinge-unchanged e = edge-unchanged u v old i (drop 1 gone) all-is (out-is ∙ e)

  module _ (side : ℤ) (sound : IsSoundStore side old) (c : ℕ) (e : o ≡ Some c) where
    each-tet : (is : List ℕ) → Each (λ j. j < length old.slots) is → Each (λ j. IsTet (length old.points) (tet_in old.slots j)) is
    each-tet [] h = tt
    each-tet (j ∷ is) h = (tet-at side old sound j h.0, each-tet is h.1)

    all-there : Each (λ j. j < length old.slots) (i ∷ drop 1 gone)
    all-there = CanKill-there (i ∷ drop 1 gone) old.slots (subst (λ (ns : List ℕ). CanKill ns old.slots) all-is (edge-can_kill u v old.slots))

    pub hinge-corners : (w : ℕ) → IsTet (length old.points) (replaced w c x)
    hinge-corners w =
        let r = outside-is (tet_in old.slots i) (flat_map (tet_in old.slots) (i ∷ drop 1 gone)) c (out-is ∙ e) in
        subst (λ (y : List ℕ). IsTet (length old.points) (replaced w c y)) (sym k.tet)
        (put-IsTet (length old.points) w c (tet_in old.slots i) (tet-at side old sound i all-there.0) r.0
        (below-flat (length old.points) old.slots (i ∷ drop 1 gone) (each-tet (i ∷ drop 1 gone) all-there) c r.1))

  module _ (c : ℕ) (e : o ≡ Some c) where
    pub hinge-mesh : mesh_in (exchanged gone (replaced v c x ∷ replaced u c x ∷ []) [] [] old) ≡ (edge_swap (mesh_in old) u v).mesh
    hinge-mesh =
        ap (λ (ns : List ℕ). mesh_in (exchanged ns (replaced v c x ∷ replaced u c x ∷ []) [] [] old)) (split-first gone i k.some k.first)
        ∙ (ap (λ (y : List ℕ). mesh_in (exchanged (i ∷ drop 1 gone) (replaced v c y ∷ replaced u c y ∷ []) [] [] old)) k.tet
        ∙ mesh-edge u v old i (drop 1 gone) all-is c (out-is ∙ e))

    pub hinge-beyond : most_made < length old.slots + 2 → IsWithinLimits (edge_swap (mesh_in old) u v).mesh → ⊥
    hinge-beyond h w = beyond-edge u v old i (drop 1 gone) all-is c (out-is ∙ e) h w

pub hinge-none : (u v : ℕ) (old : Parts) (gone : List ℕ) → gone ≡ numbers_of (has_edge u v) 0 old.slots → length gone ≡ 0 → mesh_in old ≡ (edge_swap (mesh_in old) u v).mesh
hinge-none u v old [] e h = edge-none u v old (sym e)
hinge-none u v old (i ∷ is) e h = absurd (omega arith)

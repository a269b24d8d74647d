-- The parts of a new store.
use Rattle.std.proofs.Common.{◌≡◌, ℕ, ℤ, zero, suc, ◌+◌, ◌<◌, Bool, true, false, None, List, [], ◌∷◌, ◌++◌, map, length, get_or, take, refl, sym, ◌∙◌, ap, subst, arith}
use Rattle.std.specs.List.{IsDistinct, AllByRecursion as Each}
use Rattle.std.specs.Map.{keys_of}
use Rattle.std.proofs.lemmas.Bool.{false_from_ne_true, true≢false}
use Rattle.std.proofs.lemmas.List.{length-map, take_more}
use Rattle.std.proofs.lemmas.List.Elements.{All-from_recursion, recursion_from_All}
use Rattle.std.proofs.lemmas.Slice.Eq.{bytes_eq-Decides}
use Rattle.grid.specs.declared.shapes.Face.{Face}
use Rattle.grid.specs.declared.shapes.Tet.{Tet}
use Rattle.grid.specs.Meshes.{IsTriple, Ordered, is_below}
use Rattle.grid.specs.Simplices.{IsTet, same_triple}
use Rattle.grid.specs.Views.{corners_of, triples_of}
use Rattle.mesh_types.specs.declared.lists.Lists.{Lists}
use Rattle.mesh_types.specs.Tracking.{in_order_once}
use Rattle.mesh_types.specs.Views.{mesh_of}
use Rattle.mesh_types.proofs.ForCallers.{below_not, in_order_once-of}
use Rattle.tet_slots.specs.declared.slot.Slot.{Slot}
use Rattle.tracked.specs.Keys.{Keys, same_face, state_of, put, faces_in}
use Rattle.tracked.proofs.ForCallers.{put-new}
use Rattle.mesh_store.specs.Parts.{live_slot, mesh_in, parts_from}
use Rattle.mesh_store.specs.Sound.{IsSoundStore, IsFirstMesh}
use Rattle.mesh_store.proofs.LiveSlots.{live-made}

abbrev all_in : List Face → Keys
all_in faces = map (λ f. (f, true)) faces

-- ---- faces in strictly rising order differ
pub differ : (x y : List ℕ) → is_below x y ≡ true → same_triple y x ≡ false
differ x y h = false_from_ne_true (same_triple y x) (λ e. true≢false (sym h ∙ (ap (is_below x) ((bytes_eq-Decides y x).0 e) ∙ below_not x)))

differ-after : (x y : List ℕ) → is_below x y ≡ true → same_triple x y ≡ false
differ-after x y h = false_from_ne_true (same_triple x y) (λ e. true≢false (sym h ∙ (ap (λ z. is_below z y) ((bytes_eq-Decides x y).0 e) ∙ below_not y)))

later : (x : List ℕ) (fs : List Face) (i : ℕ) (d : Face) → Each (λ y. is_below x y ≡ true) (triples_of fs) → i < length fs → is_below x (get_or fs i d).0 ≡ true
later x [] i d h l = absurd (omega arith)
later x (f ∷ fs) zero d h l = h.0
later x (f ∷ fs) (suc i) d h l = later x fs i d h.1 (less i (length fs) l)
  where
    less : (i n : ℕ) → suc i < suc n → i < n
    less i n h = omega arith

none-earlier : (fs : List Face) (i : ℕ) (d : Face) → Ordered (triples_of fs) → i < length fs → state_of (get_or fs i d) (all_in (take i fs)) ≡ None
none-earlier [] i d o l = absurd (omega arith)
none-earlier (f ∷ fs) zero d o l = refl
none-earlier (f ∷ fs) (suc i) d o l =
    let rest = none-earlier fs i d o.1 (less i (length fs) l) in
    rw (differ f.0 (get_or fs i d).0 (later f.0 fs i d o.0 (less i (length fs) l))) rest
  where
    less : (i n : ℕ) → suc i < suc n → i < n
    less i n h = omega arith

map-push : (fs : List Face) (f : Face) → all_in (fs ++ f ∷ []) ≡ all_in fs ++ (f, true) ∷ []
map-push [] f = refl
map-push (g ∷ fs) f = ap (λ (ks : Keys). (g, true) ∷ ks) (map-push fs f)

-- one face more
pub put-listed : (fs : List Face) (i : ℕ) (d : Face) → Ordered (triples_of fs) → i < length fs → put (get_or fs i d) true (all_in (take i fs)) ≡ all_in (take (i + 1) fs)
put-listed fs i d o l =
    put-new (get_or fs i d) true (all_in (take i fs)) (none-earlier fs i d o l)
    ∙ (sym (map-push (take i fs) (get_or fs i d)) ∙ ap all_in (sym (take_more fs i d l)))

-- ---- the parts are sound
keys-all_in : (fs : List Face) → keys_of (all_in fs) ≡ fs
keys-all_in [] = refl
keys-all_in (f ∷ fs) = ap (λ (gs : List Face). f ∷ gs) (keys-all_in fs)

apart : (f : Face) (fs : List Face) → Each (λ y. is_below f.0 y ≡ true) (triples_of fs) → Each (λ g. same_face f g ≡ false) fs
apart f [] h = tt
apart f (g ∷ fs) h = (differ-after f.0 g.0 h.0, apart f fs h.1)

distinct-ordered : (fs : List Face) → Ordered (triples_of fs) → IsDistinct same_face fs
unfolding IsDistinct
distinct-ordered [] o = tt
distinct-ordered (f ∷ fs) o = (apart f fs o.0, distinct-ordered fs o.1)

each-slots : (n : ℕ) (xs : List (List ℕ)) → Each (IsTet n) xs → Each (λ (s : Slot). IsTet n s.tet.0) (map live_slot xs)
each-slots n [] h = tt
each-slots n (x ∷ xs) h = (h.0, each-slots n xs h.1)

each-keys : (n : ℕ) (fs : List Face) → Each (IsTriple n) (triples_of fs) → Each (λ (k : Face × Bool). IsTriple n k.0.0) (all_in fs)
each-keys n [] h = tt
each-keys n (f ∷ fs) h = (h.0, each-keys n fs h.1)

pub sound-first : (side : ℤ) (m : Lists) → IsFirstMesh side m → IsSoundStore side (parts_from m)
sound-first side m h =
    let n = length m.points in
    let few = h.within.made_few in
    record {
      box = h.box;
      points_few = h.within.points_few;
      slots_few = omega (arith, few, h.made, length-map (corners_of m.tets) live_slot, length-map m.tets (λ (t : Tet). t.0));
      in_box = h.in_box;
      tets_are = All-from_recursion (λ (s : Slot). IsTet n s.tet.0) (map live_slot (corners_of m.tets)) (each-slots n (corners_of m.tets) (recursion_from_All (IsTet n) (corners_of m.tets) h.well_formed.tets_are));
      triples_are = All-from_recursion (λ (k : Face × Bool). IsTriple n k.0.0) (all_in m.tracked) (each-keys n m.tracked (recursion_from_All (IsTriple n) (triples_of m.tracked) h.well_formed.triples_are));
      distinct = subst (IsDistinct same_face) (sym (keys-all_in m.tracked)) (distinct-ordered m.tracked h.well_formed.ordered);
    }

-- ---- and are those of the mesh
faces-all_in : (fs : List Face) → faces_in (all_in fs) ≡ fs
faces-all_in [] = refl
faces-all_in (f ∷ fs) = ap (λ (gs : List Face). f ∷ gs) (faces-all_in fs)

pub mesh-first : (side : ℤ) (m : Lists) → IsFirstMesh side m → mesh_in (parts_from m) ≡ mesh_of m
mesh-first side m h = λ i. record {
  points = m.points;
  tets = live-made (corners_of m.tets) i;
  tracked = (ap (λ (fs : List Face). in_order_once (triples_of fs)) (faces-all_in m.tracked) ∙ in_order_once-of (triples_of m.tracked) h.well_formed.ordered) i;
  made = (length-map (corners_of m.tets) live_slot ∙ (length-map m.tets (λ (t : Tet). t.0) ∙ sym h.made)) i;
}

-- What a split, a shift or a collapse makes is read off the tetrahedra near it.
use Rattle.std.proofs.Common.{◌≡◌, ℕ, Bool, true, false, not, ◌&&◌, ◌||◌, cond, List, [], ◌∷◌, ◌++◌, map, length, ℤ, nat_abs, refl, sym, ◌∙◌, ap, ap₂, subst, inl, inr}
use Rattle.std.specs.List.{filter, flat_map, AllByRecursion as Each}
use Rattle.std.proofs.lemmas.Bool.{cases_Bool}
use Rattle.std.proofs.lemmas.List.{append-nil}
use Rattle.std.proofs.lemmas.List.Concat.{flat_map_single}
use Rattle.grid.specs.declared.shapes.Point.{Point}
use Rattle.grid.specs.Boxes.{IsInBox}
use Rattle.grid.specs.Determinants.{point_at}
use Rattle.grid.specs.Simplices.{has, replaced, sub}
use Rattle.grid.specs.Limits.{largest_side}
use Rattle.mesh_types.specs.declared.tries.Try.{Try}
use Rattle.mesh_types.specs.declared.tries.Try.TheVariants.{Split, Shift, Collapse}
use Rattle.mesh_types.specs.Refines.{is_touched, sub_all, refine}
use Rattle.mesh_types.specs.Results.{midpoint_floored, middle_cut, target, split, shift, collapse}
use Rattle.grid.proofs.ForCallers.{Each-weaker}
use Rattle.mesh_types.proofs.ForCallers.{Each-passed, flat_map-none}
use Rattle.tet_slots.specs.declared.slot.Slot.{Slot}
use Rattle.mesh_store.specs.Parts.{Parts, live_tets, mesh_in}
use Rattle.mesh_store.specs.Sound.{IsSoundStore}
use Rattle.mesh_store.proofs.ForCallers.{tets-numbers}
use Rattle.local_ops.specs.Attempts.{may_go}
use Rattle.local_ops.specs.Foreseen.{IsAim, near_tets, pieces_of}
use Rattle.local_ops.proofs.Killed.{may_go-is}
use Rattle.local_ops.proofs.Means.{in-grid}
use Rattle.local_ops.proofs.NewPoints.{middle-in, target-in}
use Rattle.local_ops.proofs.Replacing.{is_near}

-- ---- lists
filter-agree : (p q : List ℕ → Bool) → ((x : List ℕ) → p x ≡ q x) → (xs : List (List ℕ)) → filter p xs ≡ filter q xs
filter-agree p q h [] = refl
filter-agree p q h (x ∷ xs) = ap₂ (λ b ys. cond b (x ∷ ys) ys) (h x) (filter-agree p q h xs)

flat-same : (f g : List ℕ → List (List ℕ)) (xs : List (List ℕ)) → Each (λ x. f x ≡ g x) xs → flat_map f xs ≡ flat_map g xs
flat-same f g [] h = refl
flat-same f g (x ∷ xs) h = ap₂ ◌++◌ h.0 (flat-same f g xs h.1)

-- the tetrahedra in those slots
pub near-is : (t : Try) (slots : List Slot) → near_tets t slots ≡ filter (is_near t) (live_tets slots)
near-is t slots = tets-numbers (may_go t) (is_near t) (may_go-is t) [] slots

module _ (side : ℤ) (m : Parts) (sound : IsSoundStore side m) where
  abbrev l : ℕ
  l = nat_abs side

  abbrev n : ℕ
  n = length m.points

  -- ---- the split
  touched : (u v : ℕ) → near_tets (Split u v) m.slots ≡ filter (is_touched (middle_cut (mesh_in m) u v)) (live_tets m.slots)
  touched u v = near-is (Split u v) m.slots ∙ filter-agree (is_near (Split u v)) (is_touched (middle_cut (mesh_in m) u v)) (λ x. or_none (has x u && has x v)) (live_tets m.slots)
    where
      or_none : (b : Bool) → b ≡ (b || false)
      or_none true = refl
      or_none false = refl

  split-pieces : (u v : ℕ) (x : List ℕ) → is_touched (middle_cut (mesh_in m) u v) x ≡ true → pieces_of (Split u v) n x ≡ sub_all n (middle_cut (mesh_in m) u v) x
  split-pieces u v x e = by (has x u && has x v) e ∙ sym (flat_map-none (sub u v n x))
    where
      by : (b : Bool) → (b || false) ≡ true → replaced u n x ∷ replaced v n x ∷ [] ≡ cond b (replaced u n x ∷ replaced v n x ∷ []) (x ∷ [])
      by true e = refl
      by false e = cc e

  pub aim-split : (u v : ℕ) (p : Point) → p ≡ midpoint_floored (point_at m.points u) (point_at m.points v) → IsAim l m (Split u v) p
  unfolding split refine
  aim-split u v p e =
      let es = middle_cut (mesh_in m) u v in
      let here = filter (is_touched es) (live_tets m.slots) in
      record {
        within = subst (IsInBox largest_side) (sym e) (in-grid side sound.box (midpoint_floored (point_at m.points u) (point_at m.points v)) (middle-in l (mesh_in m) sound.in_box u v));
        at_end = tt;
        points = ap (λ q. m.points ++ q ∷ []) e;
        gone = touched u v;
        fresh = ap (flat_map (pieces_of (Split u v) n)) (touched u v)
            ∙ flat-same (pieces_of (Split u v) n) (sub_all n es) here (Each-weaker (λ x. is_touched es x ≡ true) (λ x. pieces_of (Split u v) n x ≡ sub_all n es x) (split-pieces u v) here (Each-passed (is_touched es) (live_tets m.slots)));
      }

  -- ---- the shift
  pub aim-shift : (u way : ℕ) (p : Point) → p ≡ target l (mesh_in m) u way → IsAim l m (Shift u way) p
  unfolding shift
  aim-shift u way p e = record {
    within = subst (IsInBox largest_side) (sym e) (in-grid side sound.box (target l (mesh_in m) u way) (target-in l (mesh_in m) sound.in_box u way));
    at_end = tt;
    points = ap (λ q. m.points ++ q ∷ []) e;
    gone = near-is (Shift u way) m.slots;
    fresh = ap (flat_map (pieces_of (Shift u way) n)) (near-is (Shift u way) m.slots) ∙ flat_map_single (replaced u n) (filter (λ x. has x u) (live_tets m.slots));
  }

  -- ---- the collapse
  collapsed : (u v : ℕ) (xs : List (List ℕ)) → flat_map (pieces_of (Collapse u v) n) (filter (λ x. has x u) xs) ≡ map (replaced u v) (filter (λ x. has x u && not (has x v)) xs)
  collapsed u v [] = refl
  collapsed u v (x ∷ xs) =
      let rest = collapsed u v xs in
      elim (cases_Bool (has x u)) [
        | inr e ↦ rw e rest
        | inl e ↦ elim (cases_Bool (has x v)) [
          | inl d ↦ rw (e, d) rest
          | inr d ↦ rw (e, d) (ap (λ ys. replaced u v x ∷ ys) rest)
        ]
      ]

  pub aim-collapse : (u v : ℕ) (p : Point) → p ≡ point_at m.points v → IsInBox largest_side p → IsAim l m (Collapse u v) p
  unfolding collapse
  aim-collapse u v p e within = record {
    within = within;
    at_end = e;
    points = sym (append-nil m.points);
    gone = near-is (Collapse u v) m.slots;
    fresh = ap (flat_map (pieces_of (Collapse u v) n)) (near-is (Collapse u v) m.slots) ∙ collapsed u v (live_tets m.slots);
  }

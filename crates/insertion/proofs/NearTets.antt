-- The slots that a search finds are those of the tetrahedra near the triangle, and their signs tell a corner off its plane.
use Rattle.std.proofs.Common.{◌≡◌, ℕ, suc, pos, Bool, true, false, ◌&&◌, cond, List, [], ◌∷◌, map, length, get_or, All, refl, sym, ap, ◌∙◌, subst, inl, inr}
use Rattle.std.specs.List.{filter, list_all, AllByRecursion as Each}
use Rattle.std.specs.Ordering.{int_eq}
use Rattle.std.proofs.lemmas.Bool.{cases_Bool}
use Rattle.std.proofs.lemmas.List.{length-map}
use Rattle.std.proofs.lemmas.List.Elements.{All-from_recursion, recursion_from_All}
use Rattle.std.proofs.lemmas.List.Folds.{list_all-map}
use Rattle.grid.specs.declared.shapes.Point.{Point}
use Rattle.grid.specs.declared.shapes.Tri.{Tri}
use Rattle.grid.specs.Planes.{snap_sign}
use Rattle.mesh_types.specs.CuttingRule.{lies_on, section_plane}
use Rattle.mesh_types.specs.Phases.{points_of}
use Rattle.tet_slots.specs.declared.slot.Slot.{Slot}
use Rattle.tet_slots.specs.Searches.{numbers_of}
use Rattle.tet_slots.specs.Slots.{slot_at}
use Rattle.mesh_store.specs.Parts.{live_tets}
use Rattle.cutter.specs.declared.touching.Touched.{Touched}
use Rattle.cutter.specs.declared.touching.Touching.{Touching}
use Rattle.cutter.specs.Found.{AreTouching, is_touching, tets_at, touched_at}
use Rattle.cutting_rule.specs.Touching.{signs_at}
use Rattle.insertion.proofs.LaterCuts.{is_near, near_tets, HasCornerOff}

-- ---- the tetrahedra of the slots found
numbers-later : (p : Slot → Bool) (k : ℕ) (ss : List Slot) → numbers_of p (suc k) ss ≡ map suc (numbers_of p k ss)
numbers-later p k [] = refl
numbers-later p k (s ∷ ss) = elim (cases_Bool (p s)) [
  | inl e ↦ rw e (ap (λ ns. suc k ∷ ns) (numbers-later p (suc k) ss))
  | inr e ↦ rw e (numbers-later p (suc k) ss)
]

tets-later : (s : Slot) (ss : List Slot) (ns : List ℕ) → tets_at (s ∷ ss) (map suc ns) ≡ tets_at ss ns
tets-later s ss [] = refl
tets-later s ss (n ∷ ns) = ap (λ xs. (slot_at ss n).tet.0 ∷ xs) (tets-later s ss ns)

near-step : (near : List ℕ → Bool) (f : ℕ → List ℕ) (live : Bool) (ns : List ℕ) (xs : List (List ℕ)) → map f ns ≡ filter near xs → map f (cond (live && near (f 0)) (0 ∷ ns) ns) ≡ filter near (cond live (f 0 ∷ xs) xs)
near-step near f false ns xs h = h
near-step near f true ns xs h = elim (cases_Bool (near (f 0))) [
  | inl e ↦ rw e (ap (λ ys. f 0 ∷ ys) h)
  | inr e ↦ rw e h
]

near-found : (points : List Point) (t : Tri) (lo hi : Point) (slots : List Slot) → tets_at slots (numbers_of (is_touching points t lo hi) 0 slots) ≡ near_tets points t lo hi (live_tets slots)
near-found points t lo hi [] = refl
near-found points t lo hi (s ∷ ss) =
    let p = is_touching points t lo hi in
    near-step (is_near points t lo hi) (λ k. (slot_at (s ∷ ss) k).tet.0) s.live (numbers_of p 1 ss) (live_tets ss)
    (ap (tets_at (s ∷ ss)) (numbers-later p 0 ss) ∙ (tets-later s ss (numbers_of p 0 ss) ∙ near-found points t lo hi ss))

-- there are as many
pub near-count : (points : List Point) (t : Tri) (lo hi : Point) (slots : List Slot) → length (numbers_of (is_touching points t lo hi) 0 slots) ≡ length (near_tets points t lo hi (live_tets slots))
near-count points t lo hi slots =
    sym (length-map (numbers_of (is_touching points t lo hi) 0 slots) (λ k. (slot_at slots k).tet.0)) ∙ ap length (near-found points t lo hi slots)

-- ---- their signs
-- not all signs of the corners at the triangle's plane are 0
abbrev pub HasSignOff : Touched → Type 0
HasSignOff e = list_all (λ s. int_eq s (pos 0)) e.touch.signs ≡ false

off-at : (points : List Point) (slots : List Slot) (t : Tri) (ns : List ℕ) → Each HasSignOff (map (touched_at points slots t) ns) → Each (HasCornerOff points t) (tets_at slots ns)
unfolding lies_on
off-at points slots t [] h = tt
off-at points slots t (k ∷ ns) h =
    (sym (list_all-map (λ s. int_eq s (pos 0)) (snap_sign (section_plane t)) (points_of points (slot_at slots k).tet.0)) ∙ h.0, off-at points slots t ns h.1)

pub near-off_all : (points : List Point) (slots : List Slot) (t : Tri) (near : Touching) → AreTouching points slots t near → All HasSignOff near.slots.items → All (HasCornerOff points t) (near_tets points t near.reach.lo near.reach.hi (live_tets slots))
near-off_all points slots t near touching h =
    let ns = numbers_of (is_touching points t near.reach.lo near.reach.hi) 0 slots in
    let signs : Each HasSignOff (map (touched_at points slots t) ns) = subst (Each HasSignOff) touching.found (recursion_from_All HasSignOff near.slots.items h) in
    All-from_recursion (HasCornerOff points t) (near_tets points t near.reach.lo near.reach.hi (live_tets slots))
    (subst (Each (HasCornerOff points t)) (near-found points t near.reach.lo near.reach.hi slots) (off-at points slots t ns signs))

-- not all signs of the points of these corners are 0
abbrev pub HasPointSignOff : List Point → Tri → List ℕ → Type 0
HasPointSignOff points t x = list_all (λ s. int_eq s (pos 0)) (signs_at t (points_of points x)) ≡ false

pub signs-off_all : (points : List Point) (t : Tri) (xs : List (List ℕ)) → All (HasPointSignOff points t) xs → All (HasCornerOff points t) xs
unfolding lies_on
signs-off_all points t xs h = λ k d lt.
    sym (list_all-map (λ s. int_eq s (pos 0)) (snap_sign (section_plane t)) (points_of points (get_or xs k d))) ∙ h k d lt

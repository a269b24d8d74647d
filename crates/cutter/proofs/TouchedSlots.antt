-- The slots that a triangle touches, found by a search, and after cuts.
use Rattle.std.proofs.Common.{Vec, Global, ◌≡◌, ℕ, zero, suc, ◌+◌, ◌<◌, ◌≤◌, Bool, true, false, ◌&&◌, cond, List, [], ◌∷◌, ◌++◌, length, map, take, drop, get_or, None, Some, All, refl, sym, ap, ◌∙◌, subst, inl, inr, arith, add-one, append_assoc}
use Rattle.std.specs.List.{filter, flat_map, AllByRecursion as Each}
use Rattle.std.proofs.lemmas.Bool.{cases_Bool}
use Rattle.std.proofs.lemmas.List.{append-nil, drop_all, map-append}
use Rattle.std.proofs.lemmas.List.Elements.{recursion_from_All, All-from_recursion}
use Rattle.std.proofs.Math.Seq.{drop-cons}
use Rattle.grid.specs.declared.shapes.Point.{Point}
use Rattle.grid.specs.declared.shapes.Tri.{Tri}
use Rattle.grid.specs.Determinants.{point_at}
use Rattle.grid.specs.Simplices.{IsTet}
use Rattle.mesh_types.specs.Phases.{points_of}
use Rattle.mesh_types.proofs.ForCallers.{Each-map}
use Rattle.mesh_store.specs.Changes.{IsGrown}
use Rattle.mesh_store.specs.Parts.{Parts}
use Rattle.tet_slots.specs.declared.slot.Slot.{Slot}
use Rattle.tet_slots.specs.Searches.{numbers_of, meets}
use Rattle.tet_slots.specs.Slots.{slot_at, no_slot}
use Rattle.cutting_rule.specs.Bounds.{is_met}
use Rattle.cutting_rule.specs.Touching.{touches, touch_of, phases_of, may_want, IsReach}
use Rattle.cutting_rule.specs.declared.touch.Touch.{Touch}
use Rattle.cutter.specs.Found.{AreTouching, is_touching, picked, picked_near, tets_at, touched_at}
use Rattle.cutter.specs.declared.touching.Touched.{Touched}
use Rattle.cutter.specs.declared.touching.Touching.{Touching}
use Rattle.cutter.proofs.Near.{found-all}
use Rattle.cutter.proofs.Meeting.{touching-met}

-- ---- of those found before the ones that pass, and those made since
more-numbers : (p q : Slot → Bool) (g : ℕ → Bool) (k : ℕ) (olds news : List Slot) → length olds ≤ length news → ((i : ℕ) → i < length olds → p (slot_at news i) ≡ (g (i + k) && q (slot_at olds i))) → numbers_of p k news ≡ filter g (numbers_of q k olds) ++ numbers_of p (length olds + k) (drop (length olds) news)
more-numbers p q g k [] news le h = let e : k ≡ 0 + k = omega arith in ap (λ n. numbers_of p n news) e
more-numbers p q g k (o ∷ os) [] le h = absurd (omega arith)
more-numbers p q g k (o ∷ os) (n ∷ ns) le h =
    let here : 0 + k ≡ k = omega arith in
    let head : p n ≡ (g k && q o) = h 0 (omega arith) ∙ ap (λ i. g i && q o) here in
    let last : length os + suc k ≡ suc (length os) + k = omega arith in
    let rest : numbers_of p (suc k) ns ≡ filter g (numbers_of q (suc k) os) ++ numbers_of p (suc (length os) + k) (drop (length os) ns) =
    more-numbers p q g (suc k) os ns (omega arith) (λ i lt. let e : i + suc k ≡ suc i + k = omega arith in h (suc i) (omega arith) ∙ ap (λ j. g j && q (slot_at os i)) (sym e))
    ∙ ap (λ j. filter g (numbers_of q (suc k) os) ++ numbers_of p j (drop (length os) ns)) last in
    step (p n) (q o) head rest
  where
    step : (a b : Bool) → a ≡ (g k && b) → numbers_of p (suc k) ns ≡ filter g (numbers_of q (suc k) os) ++ numbers_of p (suc (length os) + k) (drop (length os) ns) → cond a (k ∷ numbers_of p (suc k) ns) (numbers_of p (suc k) ns) ≡ filter g (cond b (k ∷ numbers_of q (suc k) os) (numbers_of q (suc k) os)) ++ numbers_of p (suc (length os) + k) (drop (length os) ns)
    step a false f rest = elim (cases_Bool (g k)) [
      | inl e ↦ rw (f, e) rest
      | inr e ↦ rw (f, e) rest
    ]
    step a true f rest = elim (cases_Bool (g k)) [
      | inl e ↦ rw (f, e) (ap (λ ms. k ∷ ms) rest)
      | inr e ↦ rw (f, e) rest
    ]

-- ---- a search of the box
-- those of the slots found that the triangle touches
pub picks : (points : List Point) (slots : List Slot) (t : Tri) (ms : List ℕ) → flat_map (picked points slots t) ms ≡ map (touched_at points slots t) (filter (λ k. touches t (points_of points (slot_at slots k).tet.0)) ms)
picks points slots t [] = refl
picks points slots t (k ∷ ms) = elim (cases_Bool (touches t (points_of points (slot_at slots k).tet.0))) [
  | inl e ↦ rw e (ap (λ es. touched_at points slots t k ∷ es) (picks points slots t ms))
  | inr e ↦ rw e (picks points slots t ms)
]

pub touching-found : (points : List Point) (slots : List Slot) (t : Tri) (near : Touching) (ms : List ℕ) → IsReach t near.reach.lo near.reach.hi → ms ≡ numbers_of (meets points near.reach.lo near.reach.hi) 0 slots → near.slots.items ≡ flat_map (picked points slots t) ms → AreTouching points slots t near
touching-found points slots t near ms reach e f =
    let lo = near.reach.lo in
    let hi = near.reach.hi in
    let g : ℕ → Bool = λ k. touches t (points_of points (slot_at slots k).tet.0) in
    let p = is_touching points t lo hi in
    let found = numbers_of (meets points lo hi) 0 slots in
    let all : numbers_of p 0 slots ≡ filter g found ++ numbers_of p (length slots + 0) (drop (length slots) slots) =
    more-numbers p (meets points lo hi) g 0 slots slots (omega arith) (λ i lt. let e : i ≡ i + 0 = omega arith in touching-met points t lo hi (slot_at slots i) reach ∙ ap (λ j. g j && meets points lo hi (slot_at slots i)) e) in
    let none : drop (length slots) slots ≡ [] = drop_all (length slots) slots (omega arith) in
    let passing : filter g ms ≡ numbers_of p 0 slots =
    ap (filter g) e ∙ sym (all ∙ (ap (λ ss. filter g found ++ numbers_of p (length slots + 0) ss) none ∙ append-nil (filter g found))) in
    record { reach = reach; found = f ∙ (picks points slots t ms ∙ ap (map (touched_at points slots t)) passing) }

-- ---- what is known of each
abbrev pub no_touched : Touched
no_touched = record { slot = 0; touch = record { phases = []; signs = [] } }

abbrev IsKnown : List Point → List Slot → Tri → Touched → Type 0
IsKnown points slots t e = (e.slot < length slots) × (e ≡ touched_at points slots t e.slot)

pub known-at : (points : List Point) (slots : List Slot) (t : Tri) (p : Slot → Bool) (es : List Touched) → es ≡ map (touched_at points slots t) (numbers_of p 0 slots) → (i : ℕ) (d : Touched) → i < length es → IsKnown points slots t (get_or es i d)
known-at points slots t p es e i d lt =
    All-from_recursion (IsKnown points slots t) es
    (subst (Each (IsKnown points slots t)) (sym e) (Each-map (λ k. (k < length slots) × (p (slot_at slots k) ≡ true)) (IsKnown points slots t) (touched_at points slots t) (λ k h. (h.0, refl)) (numbers_of p 0 slots) (found-all p slots)))
    i d lt

pub tets-touched : (points : List Point) (slots : List Slot) (t : Tri) (ns : List ℕ) → map (λ (e : Touched). (slot_at slots e.slot).tet.0) (map (touched_at points slots t) ns) ≡ tets_at slots ns
tets-touched points slots t [] = refl
tets-touched points slots t (k ∷ ns) = ap (λ xs. (slot_at slots k).tet.0 ∷ xs) (tets-touched points slots t ns)

-- ---- points that were there
point-front : (points : List Point) (n u : ℕ) → u < n → point_at (take n points) u ≡ point_at points u
point-front points zero u lt = absurd (omega arith)
point-front [] (suc n) u lt = refl
point-front (p ∷ points) (suc n) zero lt = refl
point-front (p ∷ points) (suc n) (suc u) lt = point-front points n u (omega arith)

pub point-kept : (old new : List Point) (u : ℕ) → take (length old) new ≡ old → u < length old → point_at new u ≡ point_at old u
point-kept old new u e lt = sym (point-front new (length old) u lt) ∙ ap (λ ps. point_at ps u) e

pub points-kept : (old new : List Point) → take (length old) new ≡ old → (x : List ℕ) → Each (λ u. u < length old) x → points_of new x ≡ points_of old x
points-kept old new e [] h = refl
points-kept old new e (u ∷ x) h = λ j. point-kept old new u e h.0 j ∷ points-kept old new e x h.1 j

-- ---- after cuts
kept-touched : (f g : ℕ → Touched) (live : ℕ → Bool) (ns : List ℕ) → ((k : ℕ) → (f k).slot ≡ k) → Each (λ k. f k ≡ g k) ns → filter (λ (e : Touched). live e.slot) (map f ns) ≡ map g (filter live ns)
kept-touched f g live [] is h = refl
kept-touched f g live (k ∷ ns) is h =
    let here : live (f k).slot ≡ live k = ap live (is k) in
    elim (cases_Bool (live k)) [
      | inl e ↦ rw (here, e) (λ j. h.0 j ∷ kept-touched f g live ns is h.1 j)
      | inr e ↦ rw (here, e) (kept-touched f g live ns is h.1)
    ]

same-each : (f g : ℕ → Touched) (P : ℕ → Type 0) → ((k : ℕ) → P k → f k ≡ g k) → (ns : List ℕ) → Each P ns → Each (λ k. f k ≡ g k) ns
same-each f g P same [] h = tt
same-each f g P same (k ∷ ns) h = (same k h.0, same-each f g P same ns h.1)

pub touching-grown : (t : Tri) (old new : Parts) (near : Touching) (after : Vec Touched Global) → IsGrown old new → All (λ (s : Slot). IsTet (length old.points) s.tet.0) old.slots → AreTouching old.points old.slots t near → after.items ≡ filter (λ (e : Touched). (slot_at new.slots e.slot).live) near.slots.items ++ map (touched_at new.points new.slots t) (numbers_of (is_touching new.points t near.reach.lo near.reach.hi) (length old.slots) (drop (length old.slots) new.slots)) → AreTouching new.points new.slots t (record near { slots = after })
touching-grown t old new near after grown tets before e =
    let lo = near.reach.lo in
    let hi = near.reach.hi in
    let g : ℕ → Bool = λ k. (slot_at new.slots k).live in
    let p = is_touching new.points t lo hi in
    let q = is_touching old.points t lo hi in
    let was = touched_at old.points old.slots t in
    let now = touched_at new.points new.slots t in
    let same : (i : ℕ) → i < length old.slots → points_of new.points (slot_at new.slots i).tet.0 ≡ points_of old.points (slot_at old.slots i).tet.0 =
    λ i lt. ap (λ x. points_of new.points x.0) (grown.tets i lt) ∙ points-kept old.points new.points grown.points (slot_at old.slots i).tet.0 (recursion_from_All (λ u. u < length old.points) (slot_at old.slots i).tet.0 (tets i no_slot lt).in_range) in
    let all : numbers_of p 0 new.slots ≡ filter g (numbers_of q 0 old.slots) ++ numbers_of p (length old.slots + 0) (drop (length old.slots) new.slots) =
    more-numbers p q g 0 old.slots new.slots grown.longer (λ i lt.
    let n = slot_at new.slots i in
    let o = slot_at old.slots i in
    let here : i ≡ i + 0 = omega arith in
    ap (λ ps. n.live && (is_met lo hi ps && touches t ps)) (same i lt)
    ∙ (killed n.live o.live (is_met lo hi (points_of old.points o.tet.0) && touches t (points_of old.points o.tet.0)) (grown.killed i lt)
    ∙ ap (λ j. g j && q o) here)) in
    let last : length old.slots + 0 ≡ length old.slots = omega arith in
    let made = numbers_of p (length old.slots) (drop (length old.slots) new.slots) in
    let stay : Each (λ k. was k ≡ now k) (numbers_of q 0 old.slots) =
    same-each was now (λ k. (k < length old.slots) × (q (slot_at old.slots k) ≡ true)) (λ k h j. record { slot = k; touch = touch_of t (sym (same k h.0) j) }) (numbers_of q 0 old.slots) (found-all q old.slots) in
    record {
      reach = before.reach;
      found = e ∙ (ap (λ (xs : List Touched). filter (λ (e : Touched). g e.slot) xs ++ map now made) before.found
          ∙ (ap (λ xs. xs ++ map now made) (kept-touched was now g (numbers_of q 0 old.slots) (λ k. refl) stay)
          ∙ (sym (map-append now (filter g (numbers_of q 0 old.slots)) made)
          ∙ ap (map now) (sym (all ∙ ap (λ j. filter g (numbers_of q 0 old.slots) ++ numbers_of p j (drop (length old.slots) new.slots)) last)))));
    }
  where
    killed : (a b c : Bool) → (b ≡ false → a ≡ false) → (a && c) ≡ (a && (b && c))
    killed a true c h = refl
    killed a false c h = rw (h refl) refl

-- ---- one slot
pub not-touched : (b : Bool) (x : Touch) → cond b (Some x) None ≡ None → b ≡ false
not-touched true x e = cc
not-touched false x e = refl

abbrev one : ℕ → Touch → List Touched
one k x = record { slot = k; touch = x } ∷ []

pub one-touched : (b : Bool) (x y : Touch) (k : ℕ) → cond b (Some x) None ≡ Some y → one k y ≡ cond b (one k x) []
one-touched true x y k e = ap (one k) (sym (same x y e))
  where
    same : (x y : Touch) → Some x ≡ Some y → x ≡ y
    same x y e = cc
one-touched false x y k e = cc

pub phase-at : (t : Tri) (ps : List Point) (i : ℕ) (d : Bool) → i < 4 → get_or (phases_of t ps) i d ≡ may_want t i ps
phase-at t ps zero d lt = refl
phase-at t ps (suc zero) d lt = refl
phase-at t ps (suc (suc zero)) d lt = refl
phase-at t ps (suc (suc (suc zero))) d lt = refl
phase-at t ps (suc (suc (suc (suc i)))) d lt = absurd (omega (arith, lt))

-- the next of the slots from k on
module _ (points : List Point) (slots : List Slot) (t : Tri) (lo hi : Point) (k : ℕ) where
  next-number : (p : Slot → Bool) → k < length slots → numbers_of p k (drop k slots) ≡ cond (p (slot_at slots k)) (k ∷ numbers_of p (k + 1) (drop (k + 1) slots)) (numbers_of p (k + 1) (drop (k + 1) slots))
  next-number p lt =
      let cons : drop k slots ≡ slot_at slots k ∷ drop (k + 1) slots = rw add-one (drop-cons slots k no_slot lt) in
      let e : suc k ≡ k + 1 = omega arith in
      ap (numbers_of p k) cons ∙ ap (λ j. cond (p (slot_at slots k)) (k ∷ numbers_of p j (drop (k + 1) slots)) (numbers_of p j (drop (k + 1) slots))) e

  pub made-step : (before after whole : List Touched) → k < length slots → after ≡ before ++ picked_near points slots t lo hi k → before ++ map (touched_at points slots t) (numbers_of (is_touching points t lo hi) k (drop k slots)) ≡ whole → after ++ map (touched_at points slots t) (numbers_of (is_touching points t lo hi) (k + 1) (drop (k + 1) slots)) ≡ whole
  made-step before after whole lt e h =
      let s = slot_at slots k in
      let ps = points_of points s.tet.0 in
      let more = numbers_of (is_touching points t lo hi) (k + 1) (drop (k + 1) slots) in
      ap (λ xs. xs ++ map (touched_at points slots t) more) e
      ∙ (append_assoc before (picked_near points slots t lo hi k) (map (touched_at points slots t) more)
      ∙ (ap (λ xs. before ++ xs) (step s.live (is_met lo hi ps) (touches t ps) more ∙ ap (map (touched_at points slots t)) (sym (next-number (is_touching points t lo hi) lt)))
      ∙ h))
    where
      step : (a b c : Bool) (ns : List ℕ) → cond (a && b) (cond c (touched_at points slots t k ∷ []) []) [] ++ map (touched_at points slots t) ns ≡ map (touched_at points slots t) (cond (a && (b && c)) (k ∷ ns) ns)
      step true true true ns = refl
      step true true false ns = refl
      step true false c ns = refl
      step false b c ns = refl

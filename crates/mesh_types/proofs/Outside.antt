-- In a mesh that tiles, every tetrahedron is reached from outside where no face is tracked.
use Rattle.std.proofs.Common.{◌≡◌, ℕ, zero, suc, ◌+◌, ◌≢◌, ◌<◌, ◌≤◌, List, [], ◌∷◌, ◌++◌, length, nat_eq, Bool, true, false, ap, refl, sym, subst, ◌∙◌, arith, inl, inr, ℤ, pos, ◌+ℤ◌, ◌*ℤ◌, ◌≤ℤ◌, ◌<ℤ◌}
use Rattle.std.specs.List.{Contains, AllByRecursion as Each}
use Rattle.std.proofs.lemmas.Bool.{cases_Bool, cases_eq, eqb-true, eqb-false}
use Rattle.std.proofs.lemmas.Int.{ints}
use Rattle.std.proofs.lemmas.List.{length-append}
use Rattle.std.proofs.lemmas.List.Elements.{All-from_recursion, recursion_from_All, All-contains, All-contains_itself}
use Rattle.grid.specs.declared.shapes.Point.{Point}
use Rattle.grid.specs.Simplices.{faces, all_faces, is_rotation, reversed, rising, count, IsTet}
use Rattle.grid.specs.Determinants.{IsPositive, det_at, volume}
use Rattle.grid.specs.Regions.{IsOutside, starts, goes_on}
use Rattle.mesh_types.specs.Outside.{AllOutsideLaw}
use Rattle.mesh_types.proofs.Sums.{total, bit, total-flat_map, total-same, total-none}
use Rattle.grid.proofs.ForCallers.{Each-weaker, Each-both, Each-append, Each-of_flat_map}
use Rattle.mesh_types.proofs.Same.{turn_of, rotation_from, turn_back}
use Rattle.mesh_types.proofs.Between.{Cornered}
use Rattle.mesh_types.proofs.Counts.{number, count-number}
use Rattle.mesh_types.proofs.Cones.{cone, volume-cones}
use Rattle.mesh_types.proofs.Odd.{cone-IsOdd, odd-paired}
use Rattle.mesh_types.proofs.Volume.{IsTri, faces-IsTri}
use Rattle.mesh_types.proofs.Refinement.{cornered_of}
use Rattle.int_algebra.proofs.Laws.{linear, one-mul_ℤ}
use Rattle.int_algebra.proofs.Ring.{of_naturals}

-- ---- a face that passes a test
pub data Search (p : List ℕ → Bool) (fs : List (List ℕ)) : Type 0 where
  found : (f : List ℕ) → Contains fs f → p f ≡ true → Search p fs
  nowhere : Each (λ f. p f ≡ false) fs → Search p fs

search_for : (p : List ℕ → Bool) (fs : List (List ℕ)) → Search p fs
search_for p [] = nowhere tt
search_for p (f ∷ fs) = elim (cases_Bool (p f)) [
  | inl e ↦ found f (0, omega arith, refl) e
  | inr e ↦ by e (search_for p fs)
]
  where
    more : (k n : ℕ) → k < n → suc k < suc n
    more k n h = omega arith

    by : p f ≡ false → Search p fs → Search p (f ∷ fs)
    by e (found g c h) = found g (suc c.0, more c.0 (length fs) c.1, c.2) h
    by e (nowhere h) = nowhere (e, h)

-- a tetrahedron that has such a face
pub data SearchAll (p : List ℕ → Bool) (ts : List (List ℕ)) : Type 0 where
  found_at : (before after : List (List ℕ)) (x f : List ℕ) → ts ≡ before ++ x ∷ after → Contains (faces x) f → p f ≡ true → SearchAll p ts
  in_none : Each (λ f. p f ≡ false) (all_faces ts) → SearchAll p ts

search_all : (p : List ℕ → Bool) (ts : List (List ℕ)) → SearchAll p ts
search_all p [] = in_none tt
search_all p (x ∷ ts) = by (search_for p (faces x)) (search_all p ts)
  where
    by : Search p (faces x) → SearchAll p ts → SearchAll p (x ∷ ts)
    by (found f c h) s = found_at [] ts x f refl c h
    by (nowhere n) (found_at before after y f e c h) = found_at (x ∷ before) after y f (ap (λ t. x ∷ t) e) c h
    by (nowhere n) (in_none h) = in_none (Each-append (λ f. p f ≡ false) (faces x) (all_faces ts) n h)

-- ---- lists with one element more
Each-at : (P : List ℕ → Type 0) (before after : List (List ℕ)) (x : List ℕ) → Each P (before ++ x ∷ after) → P x
Each-at P [] after x h = h.0
Each-at P (y ∷ before) after x h = Each-at P before after x h.1

Each-without : (P : List ℕ → Type 0) (before after : List (List ℕ)) (x : List ℕ) → Each P (before ++ x ∷ after) → Each P (before ++ after)
Each-without P [] after x h = h.1
Each-without P (y ∷ before) after x h = (h.0, Each-without P before after x h.1)

Each-with : (P : List ℕ → Type 0) (before after : List (List ℕ)) (x : List ℕ) → P x → Each P (before ++ after) → Each P (before ++ x ∷ after)
Each-with P [] after x p h = (p, h)
Each-with P (y ∷ before) after x p h = (h.0, Each-with P before after x p h.1)

total-with : (f : List ℕ → ℤ) (before after : List (List ℕ)) (x : List ℕ) → total f (before ++ x ∷ after) ≡ f x +ℤ total f (before ++ after)
total-with f [] after x = refl
total-with f (y ∷ before) after x = omega (arith, linear, total-with f before after x)

-- ---- tetrahedra whose faces all pair have no volume
volume-at_least : (points : List Point) (ts : List (List ℕ)) → Each (IsPositive points) ts → pos 0 ≤ℤ volume points ts
volume-at_least points [] h = omega (arith, linear)
volume-at_least points (x ∷ ts) h = omega (arith, linear, h.0, volume-at_least points ts h.1)

volume-closed : (n : ℕ) (points : List Point) (ts : List (List ℕ)) → Each (Cornered n) ts → ((a b c : ℕ) → count (a ∷ b ∷ c ∷ []) ts ≤ 1) → Each (λ f. nat_eq (count (reversed f) ts) 0 ≡ false) (all_faces ts) → volume points ts ≡ pos 0
volume-closed n points ts cornered once closed =
    let fs = all_faces ts in
    let paired : (f : List ℕ) → IsTri f × (nat_eq (count (reversed f) ts) 0 ≡ false) → cone points 0 f ≡ pos (count (reversed f) ts) *ℤ cone points 0 f = λ f h. sym (one-mul_ℤ (cone points 0 f)) ∙ ap (λ m. pos m *ℤ cone points 0 f) (sym (one f h.0 h.1)) in
    volume-cones points 0 ts ∙ odd-paired (cone points 0) (cone-IsOdd points 0) ts
    (Each-weaker (λ f. IsTri f × (nat_eq (count (reversed f) ts) 0 ≡ false)) (λ f. cone points 0 f ≡ pos (count (reversed f) ts) *ℤ cone points 0 f) paired fs
    (Each-both IsTri (λ f. nat_eq (count (reversed f) ts) 0 ≡ false) fs (Each-of_flat_map (Cornered n) IsTri faces (faces-IsTri n) ts cornered) closed))
  where
    exactly : (m : ℕ) → m ≤ 1 → nat_eq m 0 ≡ false → m ≡ 1
    exactly m h e = let n = eqb-false m 0 e in omega arith

    one : (f : List ℕ) → IsTri f → nat_eq (count (reversed f) ts) 0 ≡ false → count (reversed f) ts ≡ 1
    one f t e = exactly (count (reversed f) ts) (subst (λ g. count (reversed g) ts ≤ 1) (sym t.is) (once t.a t.c t.b)) e

-- ---- the flood
-- what is left of the tetrahedra
pub record IsLeft (n : ℕ) (points : List Point) (ts : List (List ℕ)) (x : List ℕ) : Type 0 where
  pub of_ts : Contains ts x
  pub cornered : Cornered n x
  pub positive : IsPositive points x

-- the tetrahedra are those reached and those left
abbrev AreParts : List (List ℕ) → List (List ℕ) → List (List ℕ) → Type 0
AreParts ts out left = (f : List ℕ → ℤ) → total f ts ≡ total f out +ℤ total f left

counts-parted : (ts out left : List (List ℕ)) → AreParts ts out left → (f : List ℕ) → count f ts ≡ count f out + count f left
counts-parted ts out left parts f = naturals _ _ _ (as_total ts ∙ parts (λ x. number is_rotation f (faces x)) ∙ sums _ _ _ _ (sym (as_total out)) (sym (as_total left)))
  where
    as_total : (xs : List (List ℕ)) → pos (count f xs) ≡ total (λ x. number is_rotation f (faces x)) xs
    as_total xs = count-number f xs ∙ total-flat_map (λ g. bit (is_rotation f g)) faces xs

    sums : (a b c d : ℤ) → a ≡ c → b ≡ d → a +ℤ b ≡ c +ℤ d
    sums a b c d g h = omega (arith, linear)

    naturals : (a b c : ℕ) → pos a ≡ pos b +ℤ pos c → a ≡ b + c
    naturals a b c e = omega (arith, ints)

count-none : (f : List ℕ) (ts : List (List ℕ)) → Each (λ g. is_rotation f g ≡ false) (all_faces ts) → count f ts ≡ 0
count-none f ts h = of_naturals (count-number f ts ∙ total-same (λ g. bit (is_rotation f g)) (λ g. pos 0) (all_faces ts) (Each-weaker (λ g. is_rotation f g ≡ false) (λ g. bit (is_rotation f g) ≡ pos 0) (λ g e. ap bit e) (all_faces ts) h) ∙ total-none (all_faces ts))

-- a face that has no reverse among those left is loose, or has it among those reached
reached : (ts out left : List (List ℕ)) → AreParts ts out left → Each (IsOutside ts []) out → (x f : List ℕ) → Contains ts x → Contains (faces x) f → count (reversed f) left ≡ 0 → IsOutside ts [] x
reached ts out left parts outside x f x_in f_in none = elim (cases_eq (count (reversed f) ts) 0) [
  | inl e ↦ starts x x_in (record { face = f; of_x = f_in; loose = e })
  | inr m ↦ by m (search_all (is_rotation (reversed f)) out)
]
  where
    untracked : (t : List ℕ) → Contains [] t → ⊥
    untracked t h = let o : h.0 < 0 = h.1 in omega arith

    sum : (a b c : ℕ) → a ≡ b + c → b ≡ 0 → c ≡ 0 → a ≡ 0
    sum a b c e f g = omega arith

    by : count (reversed f) ts ≢ 0 → SearchAll (is_rotation (reversed f)) out → IsOutside ts [] x
    by m (found_at before after y g e g_in h) =
        goes_on y x (Each-at (IsOutside ts []) before after y (subst (Each (IsOutside ts [])) e outside)) x_in
        (record { face = g; mate = f; of_x = g_in; of_y = f_in; reverse = rotation_from (reversed g) f (turn_back f g (turn_of (reversed f) g h)); untracked = untracked (rising g) })
    by m (in_none h) = absurd (m (sum _ _ _ (counts-parted ts out left parts (reversed f)) (count-none (reversed f) out h) none))

none_left : (points : List Point) (ts left : List (List ℕ)) → Each (IsPositive points) left → volume points left ≡ pos 0 → Each (IsOutside ts []) left
none_left points ts [] h e = tt
none_left points ts (x ∷ left) h e = absurd (above (det_at points x) (volume points left) h.0 (volume-at_least points left h.1) e)
  where
    above : (a b : ℤ) → pos 0 <ℤ a → pos 0 ≤ℤ b → a +ℤ b ≡ pos 0 → ⊥
    above a b h g e = omega (arith, linear)

-- one step: what is left is closed, so it is nothing, or has a tetrahedron that is reached
flood-step : (n : ℕ) (points : List Point) (ts : List (List ℕ)) → ((a b c : ℕ) → count (a ∷ b ∷ c ∷ []) ts ≤ 1) → (out left : List (List ℕ)) → AreParts ts out left → Each (IsOutside ts []) out → Each (IsLeft n points ts) left
    → ((out' left' : List (List ℕ)) → length left' < length left → AreParts ts out' left' → Each (IsOutside ts []) out' → Each (IsLeft n points ts) left' → Each (IsOutside ts []) left')
    → SearchAll (λ f. nat_eq (count (reversed f) left) 0) left → Each (IsOutside ts []) left
flood-step n points ts once out left parts outside h next (in_none closed) =
    none_left points ts left (Each-weaker (IsLeft n points ts) (IsPositive points) (λ x i. i.positive) left h)
    (volume-closed n points left (Each-weaker (IsLeft n points ts) (Cornered n) (λ x i. i.cornered) left h)
    (λ a b c. less _ _ _ (counts-parted ts out left parts (a ∷ b ∷ c ∷ [])) (once a b c)) closed)
  where
    less : (a b c : ℕ) → a ≡ b + c → a ≤ 1 → c ≤ 1
    less a b c e g = omega arith
flood-step n points ts once out left parts outside h next (found_at before after x f e f_in z) =
    let Q = IsOutside ts [] in
    let i = subst (Each (IsLeft n points ts)) e h in
    let here : Q x = reached ts out left parts outside x f (Each-at (IsLeft n points ts) before after x i).of_ts f_in (eqb-true (count (reversed f) left) 0 z) in
    let rest = next (x ∷ out) (before ++ after)
    (shorter _ _ _ _ (ap length e ∙ length-append before (x ∷ after)) (length-append before after))
    (λ g. moved _ _ _ _ _ (parts g) (ap (total g) e ∙ total-with g before after x))
    (here, outside) (Each-without (IsLeft n points ts) before after x i) in
    subst (Each Q) (sym e) (Each-with Q before after x here rest)
  where
    shorter : (m a b c : ℕ) → m ≡ a + suc b → c ≡ a + b → c < m
    shorter m a b c e g = omega arith

    moved : (t o l x r : ℤ) → t ≡ o +ℤ l → l ≡ x +ℤ r → t ≡ (x +ℤ o) +ℤ r
    moved t o l x r e g = omega (arith, linear)

flood : (fuel n : ℕ) (points : List Point) (ts : List (List ℕ)) → ((a b c : ℕ) → count (a ∷ b ∷ c ∷ []) ts ≤ 1) → (out left : List (List ℕ)) → length left ≤ fuel → AreParts ts out left → Each (IsOutside ts []) out → Each (IsLeft n points ts) left → Each (IsOutside ts []) left
flood zero n points ts once out left short parts outside h =
    flood-step n points ts once out left parts outside h (λ out' left' less parts' outside' h'. absurd (omega arith)) (search_all (λ f. nat_eq (count (reversed f) left) 0) left)
flood (suc fuel) n points ts once out left short parts outside h =
    flood-step n points ts once out left parts outside h (λ out' left' less parts' outside' h'. flood fuel n points ts once out' left' (omega arith) parts' outside' h') (search_all (λ f. nat_eq (count (reversed f) left) 0) left)

pub all_outside_law : AllOutsideLaw
all_outside_law m l f t e x x_in =
    let n = length m.points in
    let Q = IsOutside m.tets [] in
    let contained = recursion_from_All (Contains m.tets) m.tets (All-contains_itself m.tets) in
    let cornered = Each-weaker (IsTet n) (Cornered n) (cornered_of n) m.tets (recursion_from_All (IsTet n) m.tets f.tets_are) in
    let positive = recursion_from_All (IsPositive m.points) m.tets t.positive in
    let left = Each-weaker (λ y. Contains m.tets y × (Cornered n y × IsPositive m.points y)) (IsLeft n m.points m.tets) (λ y h. record { of_ts = h.0; cornered = h.1.0; positive = h.1.1 }) m.tets
    (Each-both (Contains m.tets) (λ y. Cornered n y × IsPositive m.points y) m.tets contained (Each-both (Cornered n) (IsPositive m.points) m.tets cornered positive)) in
    let all = flood (length m.tets) n m.points m.tets t.fills.once [] m.tets (omega arith) (λ g. nothing (total g m.tets)) tt left in
    subst (λ tracked. IsOutside m.tets tracked x) (sym e) (All-contains Q m.tets x (All-from_recursion Q m.tets all) x_in)
  where
    nothing : (a : ℤ) → a ≡ pos 0 +ℤ a
    nothing a = omega (arith, linear)

-- How often a face occurs after a split.
use Rattle.std.proofs.Common.{◌≡◌, ℕ, ◌<◌, List, [], ◌∷◌, Bool, true, false, ◌&&◌, ◌||◌, eqb, ap, ap₂, refl, sym, subst, ◌∙◌, arith, ℤ, pos, ◌+ℤ◌, ◌≤ℤ◌}
use Rattle.std.specs.List.{flat_map, AllByRecursion as Each}
use Rattle.std.proofs.lemmas.Bool.{or_parts, or_from, false_from_ne_true}
use Rattle.std.proofs.lemmas.List.Concat.{flat_map-append}
use Rattle.grid.specs.Simplices.{has, replaced, sub, faces, all_faces, is_rotation, count, same_corners}
use Rattle.mesh_types.proofs.Sums.{total, bit, total-append, total-flat_map, total-same, total-none, count_by-total}
use Rattle.grid.proofs.ForCallers.{Each-weaker, Each-of_flat_map}
use Rattle.mesh_types.proofs.Pieces.{IsSameness, IsNew, occurs, occurs-kept, occurs-gone, occurs-at_v, occurs-at_u, occurs-fresh}
use Rattle.mesh_types.proofs.Opened.{excess}
use Rattle.mesh_types.proofs.Same.{rotations}
use Rattle.mesh_types.proofs.Between.{Cornered, Change, change_of, is_face, excess-no_k, excess-has_u, excess-has_v, excess-reversed, excess-at_most}
use Rattle.int_algebra.proofs.Laws.{linear}
use Rattle.int_algebra.proofs.Ring.{of_naturals}

-- the faces of the pieces are the pieces of the faces, and those between
pub total-split : (f : List ℕ → ℤ) (u v k : ℕ) (ts : List (List ℕ)) → total f (all_faces (flat_map (sub u v k) ts)) ≡ total f (flat_map (sub u v k) (all_faces ts)) +ℤ total (excess f u v k) ts
total-split f u v k [] = refl
total-split f u v k (x ∷ ts) =
    let g = sub u v k in
    rw (
      flat_map-append faces (g x) (flat_map g ts),
      flat_map-append g (faces x) (all_faces ts),
      total-append f (all_faces (g x)) (all_faces (flat_map g ts)),
      total-append f (flat_map g (faces x)) (flat_map g (all_faces ts)),
    )
    (omega (arith, linear, total-split f u v k ts))

-- ---- occurrences among the pieces of a list
abbrev pub Old : ℕ → List (List ℕ) → Type 0
Old k xs = Each (λ x. has x k ≡ false) xs

among : (same : List ℕ → List ℕ → Bool) (u v k : ℕ) (y : List ℕ) (f : List ℕ → ℤ) (xs : List (List ℕ)) → ((x : List ℕ) → has x k ≡ false → occurs same u v k y x ≡ f x) → Old k xs → total (λ z. bit (same y z)) (flat_map (sub u v k) xs) ≡ total f xs
among same u v k y f xs h o = total-flat_map (λ z. bit (same y z)) (sub u v k) xs ∙ total-same (occurs same u v k y) f xs (Each-weaker (λ x. has x k ≡ false) (λ x. occurs same u v k y x ≡ f x) h xs o)

-- the list has y as often as here
abbrev pub number : (List ℕ → List ℕ → Bool) → List ℕ → List (List ℕ) → ℤ
number same y xs = total (λ z. bit (same y z)) xs

pub number-kept : (same : List ℕ → List ℕ → Bool) → IsSameness same → (u v k : ℕ) → IsNew u v k → (xs : List (List ℕ)) → Old k xs → (y : List ℕ) → has y k ≡ false → (has y u && has y v) ≡ false → number same y (flat_map (sub u v k) xs) ≡ number same y xs
number-kept same s u v k new xs o y p q = among same u v k y (λ x. bit (same y x)) xs (λ x h. occurs-kept same s u v k new y x h p q) o

pub number-gone : (same : List ℕ → List ℕ → Bool) → IsSameness same → (u v k : ℕ) → IsNew u v k → (xs : List (List ℕ)) → Old k xs → (y : List ℕ) → has y k ≡ false → (has y u && has y v) ≡ true → number same y (flat_map (sub u v k) xs) ≡ pos 0
number-gone same s u v k new xs o y p q = among same u v k y (λ x. pos 0) xs (λ x h. occurs-gone same s u v k new y x h p q) o ∙ total-none xs

pub number-at_v : (same : List ℕ → List ℕ → Bool) → IsSameness same → (u v k : ℕ) → IsNew u v k → (xs : List (List ℕ)) → Old k xs → (y : List ℕ) → has y k ≡ true → has y u ≡ true → has y v ≡ false → number same y (flat_map (sub u v k) xs) ≡ number same (replaced k v y) xs
number-at_v same s u v k new xs o y p q r = among same u v k y (λ x. bit (same (replaced k v y) x)) xs (λ x h. occurs-at_v same s u v k new y x h p q r) o

pub number-at_u : (same : List ℕ → List ℕ → Bool) → IsSameness same → (u v k : ℕ) → IsNew u v k → (xs : List (List ℕ)) → Old k xs → (y : List ℕ) → has y k ≡ true → has y u ≡ false → has y v ≡ true → number same y (flat_map (sub u v k) xs) ≡ number same (replaced k u y) xs
number-at_u same s u v k new xs o y p q r = among same u v k y (λ x. bit (same (replaced k u y) x)) xs (λ x h. occurs-at_u same s u v k new y x h p q r) o

pub number-fresh : (same : List ℕ → List ℕ → Bool) → IsSameness same → (u v k : ℕ) → IsNew u v k → (xs : List (List ℕ)) → Old k xs → (y : List ℕ) → has y k ≡ true → has y u ≡ has y v → number same y (flat_map (sub u v k) xs) ≡ pos 0
number-fresh same s u v k new xs o y p q = among same u v k y (λ x. pos 0) xs (λ x h. occurs-fresh same s u v k new y x h p q) o ∙ total-none xs

-- ---- faces
-- the tetrahedra are well formed, with all numbers below k, and the new point of the edge is k
pub record IsReady (u v k : ℕ) (ts : List (List ℕ)) : Type 0 where
  pub new : IsNew u v k
  pub cornered : Each (Cornered k) ts

pub no_new : (k : ℕ) (x : List ℕ) → Cornered k x → has x k ≡ false
no_new k x c = false_from_ne_true _ (λ h. absurd_lt k (c.below k h))
  where
    absurd_lt : (k : ℕ) → k < k → ⊥
    absurd_lt k h = omega arith

pub old_tets : (u v k : ℕ) (ts : List (List ℕ)) → IsReady u v k ts → Old k ts
old_tets u v k ts r = Each-weaker (Cornered k) (λ x. has x k ≡ false) (no_new k) ts r.cornered

pub faces-old : (k : ℕ) (x : List ℕ) → Cornered k x → Each (λ f. has f k ≡ false) (faces x)
faces-old k x t =
    let p = none4 t.a t.b t.c t.d k (subst (λ y. has y k ≡ false) t.is (no_new k x t)) in
    subst (λ y. Each (λ f. has f k ≡ false) (faces y)) (sym t.is)
    (or3 _ _ _ p.0 p.2 p.1, (or3 _ _ _ p.0 p.1 p.3, (or3 _ _ _ p.0 p.3 p.2, (or3 _ _ _ p.1 p.2 p.3, tt))))
  where
    none4 : (a b c d k : ℕ) → has (a ∷ b ∷ c ∷ d ∷ []) k ≡ false → (eqb a k ≡ false) × (eqb b k ≡ false) × (eqb c k ≡ false) × (eqb d k ≡ false)
    none4 a b c d k h =
        let p = or_parts (eqb a k) (has (b ∷ c ∷ d ∷ []) k) h in
        let q = or_parts (eqb b k) (has (c ∷ d ∷ []) k) p.1 in
        let r = or_parts (eqb c k) (has (d ∷ []) k) q.1 in
        (p.0, q.0, r.0, (or_parts (eqb d k) false r.1).0)

    or3 : (a b c : Bool) → a ≡ false → b ≡ false → c ≡ false → (a || (b || (c || false))) ≡ false
    or3 a b c e f g = or_from a _ e (or_from b _ f (or_from c _ g refl))

pub old_faces : (u v k : ℕ) (ts : List (List ℕ)) → IsReady u v k ts → Old k (all_faces ts)
old_faces u v k ts r = Each-of_flat_map (Cornered k) (λ f. has f k ≡ false) faces (faces-old k) ts r.cornered

-- the sums of what is between
abbrev pub between : ℕ → ℕ → ℕ → ℕ → ℕ → ℕ → List (List ℕ) → ℤ
between p q r u v k ts = total (excess (is_face p q r) u v k) ts

pub change_at : (u v k : ℕ) (ts : List (List ℕ)) → IsReady u v k ts → Each (Change u v k) ts
change_at u v k ts r = Each-weaker (Cornered k) (Change u v k) (λ x c. change_of k u v k x c r.new.ends_differ) ts r.cornered

between-none : (p q r u v k : ℕ) (ts : List (List ℕ)) → IsReady u v k ts → ((x : List ℕ) → Change u v k x → excess (is_face p q r) u v k x ≡ pos 0) → between p q r u v k ts ≡ pos 0
between-none p q r u v k ts i h = total-same (excess (is_face p q r) u v k) (λ x. pos 0) ts (Each-weaker (Change u v k) (λ x. excess (is_face p q r) u v k x ≡ pos 0) h ts (change_at u v k ts i)) ∙ total-none ts

pub between-no_k : (p q r u v k : ℕ) (ts : List (List ℕ)) → IsReady u v k ts → has (p ∷ q ∷ r ∷ []) k ≡ false → between p q r u v k ts ≡ pos 0
between-no_k p q r u v k ts i n = between-none p q r u v k ts i (λ x c. excess-no_k p q r u v k x c n)

pub between-has_u : (p q r u v k : ℕ) (ts : List (List ℕ)) → IsReady u v k ts → has (p ∷ q ∷ r ∷ []) u ≡ true → between p q r u v k ts ≡ pos 0
between-has_u p q r u v k ts i n = between-none p q r u v k ts i (λ x c. excess-has_u p q r u v k x c i.new.not_first n)

pub between-has_v : (p q r u v k : ℕ) (ts : List (List ℕ)) → IsReady u v k ts → has (p ∷ q ∷ r ∷ []) v ≡ true → between p q r u v k ts ≡ pos 0
between-has_v p q r u v k ts i n = between-none p q r u v k ts i (λ x c. excess-has_v p q r u v k x c i.new.not_second n)

pub between-reversed : (p q r u v k : ℕ) (ts : List (List ℕ)) → IsReady u v k ts → between p r q u v k ts ≡ between p q r u v k ts
between-reversed p q r u v k ts i = total-same (excess (is_face p r q) u v k) (excess (is_face p q r) u v k) ts
    (Each-weaker (Change u v k) (λ x. excess (is_face p r q) u v k x ≡ excess (is_face p q r) u v k x) (excess-reversed p q r u v k) ts (change_at u v k ts i))

pub total-at_most : {X : Type 0} (f g : X → ℤ) (xs : List X) → Each (λ x. f x ≤ℤ g x) xs → total f xs ≤ℤ total g xs
total-at_most f g [] h = omega (arith, linear)
total-at_most f g (x ∷ xs) h = omega (arith, linear, h.0, total-at_most f g xs h.1)

pub between-at_most : (p q r u v k : ℕ) (ts : List (List ℕ)) → IsReady u v k ts → between p q r u v k ts ≤ℤ number same_corners (u ∷ replaced k v (p ∷ q ∷ r ∷ [])) ts
between-at_most p q r u v k ts i = total-at_most (excess (is_face p q r) u v k) (λ x. bit (same_corners (u ∷ replaced k v (p ∷ q ∷ r ∷ [])) x)) ts
    (Each-weaker (Cornered k) (λ x. excess (is_face p q r) u v k x ≤ℤ bit (same_corners (u ∷ replaced k v (p ∷ q ∷ r ∷ [])) x))
    (λ x c. excess-at_most p q r u v k x (change_of k u v k x c i.new.ends_differ) (no_new k x c)) ts i.cornered)

-- how often a face occurs in the split tetrahedra
pub count-split : (p q r u v k : ℕ) (ts : List (List ℕ)) → pos (count (p ∷ q ∷ r ∷ []) (flat_map (sub u v k) ts)) ≡ number is_rotation (p ∷ q ∷ r ∷ []) (flat_map (sub u v k) (all_faces ts)) +ℤ between p q r u v k ts
count-split p q r u v k ts = count_by-total (is_rotation (p ∷ q ∷ r ∷ [])) (all_faces (flat_map (sub u v k) ts)) ∙ total-split (is_face p q r) u v k ts

pub count-number : (f : List ℕ) (ts : List (List ℕ)) → pos (count f ts) ≡ number is_rotation f (all_faces ts)
count-number f ts = count_by-total (is_rotation f) (all_faces ts)

plus_none : (a : ℤ) → a +ℤ pos 0 ≡ a
plus_none a = omega (arith, linear)

none_plus : (a : ℤ) → pos 0 +ℤ a ≡ a
none_plus a = omega (arith, linear)

pub count-kept : (p q r u v k : ℕ) (ts : List (List ℕ)) → IsReady u v k ts → has (p ∷ q ∷ r ∷ []) k ≡ false → (has (p ∷ q ∷ r ∷ []) u && has (p ∷ q ∷ r ∷ []) v) ≡ false → count (p ∷ q ∷ r ∷ []) (flat_map (sub u v k) ts) ≡ count (p ∷ q ∷ r ∷ []) ts
count-kept p q r u v k ts i g h = of_naturals (count-split p q r u v k ts
    ∙ ap₂ ◌+ℤ◌ (number-kept is_rotation rotations u v k i.new (all_faces ts) (old_faces u v k ts i) (p ∷ q ∷ r ∷ []) g h) (between-no_k p q r u v k ts i g)
    ∙ plus_none _ ∙ sym (count-number (p ∷ q ∷ r ∷ []) ts))

pub count-gone : (p q r u v k : ℕ) (ts : List (List ℕ)) → IsReady u v k ts → has (p ∷ q ∷ r ∷ []) k ≡ false → (has (p ∷ q ∷ r ∷ []) u && has (p ∷ q ∷ r ∷ []) v) ≡ true → count (p ∷ q ∷ r ∷ []) (flat_map (sub u v k) ts) ≡ 0
count-gone p q r u v k ts i g h = of_naturals (count-split p q r u v k ts
    ∙ ap₂ ◌+ℤ◌ (number-gone is_rotation rotations u v k i.new (all_faces ts) (old_faces u v k ts i) (p ∷ q ∷ r ∷ []) g h) (between-no_k p q r u v k ts i g))

pub count-at_v : (p q r u v k : ℕ) (ts : List (List ℕ)) → IsReady u v k ts → has (p ∷ q ∷ r ∷ []) k ≡ true → has (p ∷ q ∷ r ∷ []) u ≡ true → has (p ∷ q ∷ r ∷ []) v ≡ false → count (p ∷ q ∷ r ∷ []) (flat_map (sub u v k) ts) ≡ count (replaced k v (p ∷ q ∷ r ∷ [])) ts
count-at_v p q r u v k ts i g h f = of_naturals (count-split p q r u v k ts
    ∙ ap₂ ◌+ℤ◌ (number-at_v is_rotation rotations u v k i.new (all_faces ts) (old_faces u v k ts i) (p ∷ q ∷ r ∷ []) g h f) (between-has_u p q r u v k ts i h)
    ∙ plus_none _ ∙ sym (count-number (replaced k v (p ∷ q ∷ r ∷ [])) ts))

pub count-at_u : (p q r u v k : ℕ) (ts : List (List ℕ)) → IsReady u v k ts → has (p ∷ q ∷ r ∷ []) k ≡ true → has (p ∷ q ∷ r ∷ []) u ≡ false → has (p ∷ q ∷ r ∷ []) v ≡ true → count (p ∷ q ∷ r ∷ []) (flat_map (sub u v k) ts) ≡ count (replaced k u (p ∷ q ∷ r ∷ [])) ts
count-at_u p q r u v k ts i g h f = of_naturals (count-split p q r u v k ts
    ∙ ap₂ ◌+ℤ◌ (number-at_u is_rotation rotations u v k i.new (all_faces ts) (old_faces u v k ts i) (p ∷ q ∷ r ∷ []) g h f) (between-has_v p q r u v k ts i f)
    ∙ plus_none _ ∙ sym (count-number (replaced k u (p ∷ q ∷ r ∷ [])) ts))

pub count-fresh : (p q r u v k : ℕ) (ts : List (List ℕ)) → IsReady u v k ts → has (p ∷ q ∷ r ∷ []) k ≡ true → has (p ∷ q ∷ r ∷ []) u ≡ has (p ∷ q ∷ r ∷ []) v → pos (count (p ∷ q ∷ r ∷ []) (flat_map (sub u v k) ts)) ≡ between p q r u v k ts
count-fresh p q r u v k ts i g h = count-split p q r u v k ts
    ∙ ap (λ t. t +ℤ between p q r u v k ts) (number-fresh is_rotation rotations u v k i.new (all_faces ts) (old_faces u v k ts i) (p ∷ q ∷ r ∷ []) g h)
    ∙ none_plus _

-- Two triples are one face just where their least rotations are equal.
use Rattle.std.proofs.Common.{◌≡◌, ℕ, ◌⊎◌, Bool, true, false, cond, List, [], ◌∷◌, refl, ap, sym, ◌∙◌, subst, inl, inr, true≢false, length, arith}
use Rattle.std.specs.Cmp.{upto, tied_itself}
use Rattle.std.specs.Cmp.Lexicographic.{slice_cmp}
use Rattle.std.specs.Ordering.{nat_cmp, is_lt, is_gt, ordering_reverse}
use Rattle.std.specs.declared.cmp.Ordering.{Ordering}
use Rattle.std.specs.declared.cmp.Ordering.TheVariants.{Less, Equal, Greater}
use Rattle.std.proofs.lemmas.Cmp.{nat_list_cmp_total}
use Rattle.std.proofs.lemmas.Map.Lookups.{exact_bytes}
use Rattle.grid.specs.Simplices.{is_rotation}
use Rattle.grid.proofs.ForCallers.{IsRotation, rotation-from, rotation-to}
use Rattle.face_table.proofs.RotationLemmas.{rotation-of}
use Rattle.face_table.specs.Keys.{lesser, least_rotation}

abbrev order : List ℕ → List ℕ → Ordering
order f g = slice_cmp nat_cmp f g

-- f is at most g
abbrev UpTo : List ℕ → List ℕ → Type 0
UpTo f g = is_gt (order f g) ≡ false

same_from : (f g : List ℕ) → UpTo f g → UpTo g f → f ≡ g
same_from f g h k = exact_bytes f g (by (order f g) h (sym (ap is_gt (nat_list_cmp_total.antisymm g f)) ∙ k))
  where
    by : (r : Ordering) → is_gt r ≡ false → is_gt (ordering_reverse r) ≡ false → r ≡ Equal
    by Less h k = absurd (true≢false k)
    by Equal h k = refl
    by Greater h k = absurd (true≢false h)

itself : (f : List ℕ) → UpTo f f
itself f = ap is_gt (tied_itself nat_list_cmp_total f)

lesser-one : (f g : List ℕ) → (lesser f g ≡ f) ⊎ (lesser f g ≡ g)
lesser-one f g = by (is_lt (order g f))
  where
    by : (b : Bool) → (cond b g f ≡ f) ⊎ (cond b g f ≡ g)
    by true = inr refl
    by false = inl refl

lesser-left : (f g : List ℕ) → UpTo (lesser f g) f
lesser-left f g = by (order g f) refl
  where
    by : (r : Ordering) → order g f ≡ r → UpTo (cond (is_lt r) g f) f
    by Less e = ap is_gt e
    by Equal e = itself f
    by Greater e = itself f

lesser-right : (f g : List ℕ) → UpTo (lesser f g) g
lesser-right f g = by (order g f) refl
  where
    by : (r : Ordering) → order g f ≡ r → UpTo (cond (is_lt r) g f) g
    by Less e = itself g
    by Equal e = ap is_gt (nat_list_cmp_total.antisymm f g ∙ ap ordering_reverse e)
    by Greater e = ap is_gt (nat_list_cmp_total.antisymm f g ∙ ap ordering_reverse e)

-- m is one of three and at most each
record IsLeast (m x y z : List ℕ) : Type 0 where
  pub one : (m ≡ x) ⊎ ((m ≡ y) ⊎ (m ≡ z))
  pub first : UpTo m x
  pub second : UpTo m y
  pub third : UpTo m z

least-is : (x y z : List ℕ) → IsLeast (lesser (lesser x y) z) x y z
least-is x y z = record {
  one = elim (lesser-one (lesser x y) z) [
    | inl e ↦ elim (lesser-one x y) [ inl h ↦ inl (e ∙ h) | inr h ↦ inr (inl (e ∙ h)) ]
    | inr e ↦ inr (inr e)
  ];
  first = upto nat_list_cmp_total (lesser (lesser x y) z) (lesser x y) x (lesser-left (lesser x y) z) (lesser-left x y);
  second = upto nat_list_cmp_total (lesser (lesser x y) z) (lesser x y) y (lesser-left (lesser x y) z) (lesser-right x y);
  third = lesser-right (lesser x y) z;
}

least-below : (m n x y z : List ℕ) → IsLeast m x y z → IsLeast n x y z → UpTo m n
least-below m n x y z h k = elim k.one [
  | inl e ↦ subst (λ f. UpTo m f) (sym e) h.first
  | inr (inl e) ↦ subst (λ f. UpTo m f) (sym e) h.second
  | inr (inr e) ↦ subst (λ f. UpTo m f) (sym e) h.third
]

least-rotated : (a b c : ℕ) → least_rotation (a ∷ b ∷ c ∷ []) ≡ least_rotation (b ∷ c ∷ a ∷ [])
least-rotated a b c =
    let x = a ∷ b ∷ c ∷ [] in
    let y = b ∷ c ∷ a ∷ [] in
    let z = c ∷ a ∷ b ∷ [] in
    let h = least-is x y z in
    let k = turned (least-is y z x) in
    same_from (least_rotation x) (least_rotation y) (least-below (least_rotation x) (least_rotation y) x y z h k) (least-below (least_rotation y) (least_rotation x) x y z k h)
  where
    turned : IsLeast (least_rotation (b ∷ c ∷ a ∷ [])) (b ∷ c ∷ a ∷ []) (c ∷ a ∷ b ∷ []) (a ∷ b ∷ c ∷ []) → IsLeast (least_rotation (b ∷ c ∷ a ∷ [])) (a ∷ b ∷ c ∷ []) (b ∷ c ∷ a ∷ []) (c ∷ a ∷ b ∷ [])
    turned h = record {
      one = elim h.one [ inl e ↦ inr (inl e) | inr (inl e) ↦ inr (inr e) | inr (inr e) ↦ inl e ];
      first = h.third;
      second = h.first;
      third = h.second;
    }

-- the same face has the same least rotation
pub least-same : (f : List ℕ) (a b c : ℕ) → is_rotation f (a ∷ b ∷ c ∷ []) ≡ true → least_rotation f ≡ least_rotation (a ∷ b ∷ c ∷ [])
least-same f a b c e = elim (rotation-from f a b c e) [
  | inl h ↦ ap least_rotation h
  | inr (inl h) ↦ ap least_rotation h ∙ sym (least-rotated a b c)
  | inr (inr h) ↦ ap least_rotation h ∙ least-rotated c a b
]

-- the least rotation is a rotation
least-IsRotation : (a b c : ℕ) → IsRotation (least_rotation (a ∷ b ∷ c ∷ [])) a b c
least-IsRotation a b c = (least-is (a ∷ b ∷ c ∷ []) (b ∷ c ∷ a ∷ []) (c ∷ a ∷ b ∷ [])).one

-- that of three corners is one of its rotations, and its own least rotation
pub least-rotation : (f : List ℕ) → length f ≡ 3 → is_rotation f (least_rotation f) ≡ true
least-rotation (a ∷ b ∷ c ∷ []) h = elim (least-IsRotation a b c) [
  | inl e ↦ to (least_rotation (a ∷ b ∷ c ∷ [])) a b c e (inl refl)
  | inr (inl e) ↦ to (least_rotation (a ∷ b ∷ c ∷ [])) b c a e (inr (inr refl))
  | inr (inr e) ↦ to (least_rotation (a ∷ b ∷ c ∷ [])) c a b e (inr (inl refl))
]
  where
    to : (g : List ℕ) (u v w : ℕ) → g ≡ u ∷ v ∷ w ∷ [] → IsRotation (a ∷ b ∷ c ∷ []) u v w → is_rotation (a ∷ b ∷ c ∷ []) g ≡ true
    to g u v w e t = subst (λ x. is_rotation (a ∷ b ∷ c ∷ []) x ≡ true) (sym e) (rotation-to (a ∷ b ∷ c ∷ []) u v w t)
least-rotation [] h = absurd (omega (arith, h))
least-rotation (a ∷ []) h = absurd (omega (arith, h))
least-rotation (a ∷ b ∷ []) h = absurd (omega (arith, h))
least-rotation (a ∷ b ∷ c ∷ d ∷ f) h = absurd (omega (arith, h))

pub least-again : (f : List ℕ) → length f ≡ 3 → least_rotation (least_rotation f) ≡ least_rotation f
least-again f h =
    let r = rotation-of f (least_rotation f) (least-rotation f h) in
    ap least_rotation r.is ∙ sym (least-same f r.a r.b r.c (subst (λ g. is_rotation f g ≡ true) r.is (least-rotation f h)))

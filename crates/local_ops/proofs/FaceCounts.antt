-- A face is counted at one of its edges.
use Rattle.std.proofs.Common.{◌≡◌, ℕ, Bool, true, false, ◌&&◌, ◌||◌, List, [], ◌∷◌, map, count_by, refl, ◌∙◌, ap, inl, inr, arith}
use Rattle.std.specs.List.{filter, list_all}
use Rattle.std.proofs.lemmas.Bool.{cases_Bool, or_right, true≢false}
use Rattle.std.proofs.lemmas.Int.{ints}
use Rattle.std.specs.Prelude.{nat_eq}
use Rattle.grid.specs.Simplices.{has, count, faces, is_rotation}
use Rattle.mesh_types.specs.declared.tries.Try.TheVariants.{Split}
use Rattle.grid.proofs.ForCallers.{has_first}
use Rattle.mesh_types.proofs.ForCallers.{count-append, no-face, count-one}
use Rattle.tet_slots.specs.declared.slot.Slot.{Slot}
use Rattle.tet_slots.specs.Searches.{has_edge, numbers_of}
use Rattle.mesh_store.specs.Parts.{live_tets}
use Rattle.mesh_store.proofs.ForCallers.{tets-numbers}
use Rattle.local_ops.specs.Apart.{shares_no_face, shares_three}
use Rattle.local_ops.specs.Measures.{corners_at}
use Rattle.local_ops.proofs.Killed.{may_go-is}

-- a tetrahedron that lacks a corner has no such face
lacks-from : (x f g : List ℕ) → ((c : ℕ) → has g c ≡ true → has f c ≡ true) → list_all (has x) g ≡ false → count_by (is_rotation f) (faces x) ≡ 0
lacks-from x f [] within e = absurd (true≢false e)
lacks-from x f (c ∷ g) within e = elim (cases_Bool (has x c)) [
  | inl h ↦ lacks-from x f g (λ d k. within d (or_right (nat_eq c d) (has g d) k)) (rw h at e)
  | inr h ↦ no-face f c (within c (has_first c g)) x h
]

pub lacks : (x f : List ℕ) → list_all (has x) f ≡ false → count_by (is_rotation f) (faces x) ≡ 0
lacks x f e = lacks-from x f f (λ c h. h) e

-- ---- tetrahedra that share fewer than three corners share no face
abbrev three_of : Bool → Bool → Bool → Bool → Bool
three_of a b c d = (a && b && (c || d)) || (c && d && (a || b))

not-abc : (a b c d : Bool) → three_of a b c d ≡ false → (a && (b && (c && true))) ≡ false
not-abc false b c d e = refl
not-abc true false c d e = refl
not-abc true true false d e = refl
not-abc true true true d e = cc e

not-abd : (a b c d : Bool) → three_of a b c d ≡ false → (a && (b && (d && true))) ≡ false
not-abd false b c d e = refl
not-abd true false c d e = refl
not-abd true true c false e = refl
not-abd true true false true e = cc e
not-abd true true true true e = cc e

not-acd : (a b c d : Bool) → three_of a b c d ≡ false → (a && (d && (c && true))) ≡ false
not-acd false b c d e = refl
not-acd true b c false e = refl
not-acd true b false true e = refl
not-acd true false true true e = cc e
not-acd true true true true e = cc e

not-bcd : (a b c d : Bool) → three_of a b c d ≡ false → (b && (c && (d && true))) ≡ false
not-bcd a false c d e = refl
not-bcd a true false d e = refl
not-bcd a true true false e = refl
not-bcd false true true true e = cc e
not-bcd true true true true e = cc e

swapped-and : (a b c : Bool) → (a && (b && (c && true))) ≡ false → (a && (c && (b && true))) ≡ false
swapped-and false b c e = refl
swapped-and true false false e = refl
swapped-and true false true e = refl
swapped-and true true false e = refl
swapped-and true true true e = e

pub no-face-shared : (y z : List ℕ) → shares_three y z ≡ false → shares_no_face y z ≡ true
no-face-shared (a ∷ b ∷ c ∷ d ∷ []) z e =
    let f = lacks z (a ∷ c ∷ b ∷ []) (swapped-and (has z a) (has z b) (has z c) (not-abc (has z a) (has z b) (has z c) (has z d) e)) in
    let g = lacks z (a ∷ b ∷ d ∷ []) (not-abd (has z a) (has z b) (has z c) (has z d) e) in
    let h = lacks z (a ∷ d ∷ c ∷ []) (not-acd (has z a) (has z b) (has z c) (has z d) e) in
    let k = lacks z (b ∷ c ∷ d ∷ []) (not-bcd (has z a) (has z b) (has z c) (has z d) e) in
    rw (f, g, h, k) refl
no-face-shared [] z e = refl
no-face-shared (a ∷ []) z e = refl
no-face-shared (a ∷ b ∷ []) z e = refl
no-face-shared (a ∷ b ∷ c ∷ []) z e = refl
no-face-shared (a ∷ b ∷ c ∷ d ∷ x ∷ y) z e = refl

module _ (f : List ℕ) (u v : ℕ) (at_u : has f u ≡ true) (at_v : has f v ≡ true) where
  off-edge : (x : List ℕ) → (has x u && has x v) ≡ false → count_by (is_rotation f) (faces x) ≡ 0
  off-edge x e = elim (cases_Bool (has x u)) [
    | inl h ↦ no-face f v at_v x (rw h at e)
    | inr h ↦ no-face f u at_u x h
  ]

  count-filter : (xs : List (List ℕ)) → count f (filter (λ x. has x u && has x v) xs) ≡ count f xs
  count-filter [] = refl
  count-filter (x ∷ xs) =
      let rest = count-filter xs in
      let all = count-append f (x ∷ []) xs in
      elim (cases_Bool (has x u && has x v)) [
        | inl e ↦ rw e (let some = count-append f (x ∷ []) (filter (λ x. has x u && has x v) xs) in omega (arith, ints, rest, all, some))
        | inr e ↦ rw e (let one = count-one f x in let none = off-edge x e in omega (arith, ints, rest, all, one, none))
      ]

  pub count-near : (slots : List Slot) → count f (map (corners_at slots) (numbers_of (has_edge u v) 0 slots)) ≡ count f (live_tets slots)
  count-near slots = ap (count f) (tets-numbers (has_edge u v) (λ x. has x u && has x v) (may_go-is (Split u v)) [] slots) ∙ count-filter (live_tets slots)

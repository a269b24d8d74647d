-- The neighbours of a point of a tetrahedron: there is one, and there are no more than points.
use Rattle.std.proofs.Common.{◌≡◌, ◌≢◌, ℕ, zero, suc, ◌+◌, ◌<◌, ◌≤◌, Bool, true, false, ◌&&◌, not, cond, List, [], ◌∷◌, ◌++◌, length, refl, append_assoc, sym, ◌∙◌, ap, inl, inr, arith}
use Rattle.std.specs.Prelude.{◌-◌, nat_eq, nat_lt}
use Rattle.std.specs.List.{filter, range_with_len}
use Rattle.std.proofs.lemmas.Bool.{cases_Bool, cases_eq, and_from, eqb-true, true≢false, lt-ltb}
use Rattle.std.proofs.lemmas.List.{append-nil}
use Rattle.std.proofs.lemmas.List.FromFn.{length-range_with_len}
use Rattle.std.proofs.lemmas.List.Sums.{length-filter, count_by-le-length}
use Rattle.grid.specs.Meshes.{Mesh, IsWellFormed}
use Rattle.grid.specs.Simplices.{has}
use Rattle.mesh_types.specs.Results.{neighbours}
use Rattle.mesh_types.specs.Tries.{tets_at_edge, tets_at_point}
use Rattle.grid.proofs.ForCallers.{Each-both, has_first}
use Rattle.mesh_types.proofs.ForCallers.{Among, among-all, Cornered, second, found, cornered_tets}
use Rattle.plain_ops.specs.Targets.{is_neighbour}
use Rattle.plain_ops.proofs.SingleFaces.{counted-at}

-- a number of the range that passes
some-in_range : (p : ℕ → Bool) (k n w : ℕ) → k ≤ w → w < k + n → p w ≡ true → 0 < length (filter p (range_with_len k n))
some-in_range p k zero w l h t = absurd (omega arith)
some-in_range p k (suc n) w l h t = elim (cases_Bool (p k)) [
  | inl e ↦ rw e (omega arith)
  | inr e ↦ rw e (elim (cases_eq k w) [
    | inl i ↦ absurd (true≢false (sym t ∙ (ap p (sym i) ∙ e)))
    | inr i ↦ some-in_range p (k + 1) n w (omega (arith, i)) (omega arith) t
  ])
]

differ : (a b : ℕ) → a ≢ b → not (nat_eq a b) ≡ true
differ a b n = elim (cases_Bool (nat_eq a b)) [ inl e ↦ absurd (n (eqb-true a b e)) | inr e ↦ ap not e ]

-- ---- a range, one number after the other
module _ (p : ℕ → Bool) (n w : ℕ) (old : List ℕ) where
  pub range-step : (new whole : List ℕ) → w < n → new ≡ old ++ filter p (w ∷ []) → old ++ filter p (range_with_len w (n - w)) ≡ whole → new ++ filter p (range_with_len (w + 1) (n - (w + 1))) ≡ whole
  range-step new whole l e h =
      let rest = filter p (range_with_len (w + 1) (n - (w + 1))) in
      let more : n - w ≡ suc (n - (w + 1)) = omega arith in
      ap (λ xs. xs ++ rest) e
      ∙ (append_assoc old (filter p (w ∷ [])) rest
      ∙ (ap (λ xs. old ++ xs) (one (p w)) ∙ (ap (λ k. old ++ filter p (range_with_len w k)) (sym more) ∙ h)))
    where
      one : (b : Bool) → cond b (w ∷ []) [] ++ filter p (range_with_len (w + 1) (n - (w + 1))) ≡ cond b (w ∷ filter p (range_with_len (w + 1) (n - (w + 1)))) (filter p (range_with_len (w + 1) (n - (w + 1))))
      one true = refl
      one false = refl

  pub range-end : (whole : List ℕ) → n ≤ w → old ++ filter p (range_with_len w (n - w)) ≡ whole → old ≡ whole
  range-end whole l h =
      let none : n - w ≡ 0 = omega arith in
      sym (append-nil old) ∙ (ap (λ k. old ++ filter p (range_with_len w k)) (sym none) ∙ h)

module _ (m : Mesh) (u : ℕ) where
  pub neighbours-few : length (neighbours m u) ≤ length m.points
  neighbours-few =
      let points = range_with_len 0 (length m.points) in
      omega (arith, length-filter (is_neighbour m.tets u) points, count_by-le-length (is_neighbour m.tets u) points, length-range_with_len 0 (length m.points))

  some-at : (x : List ℕ) (c : ℕ) → Among m.tets x → has x u ≡ true → has x c ≡ true → c ≢ u → c < length m.points → 0 < length (neighbours m u)
  some-at x c i p q n l =
      let count = counted-at (λ x. has x u && has x c) m.tets x i (and_from (has x u) (has x c) p q) in
      some-in_range (is_neighbour m.tets u) 0 (length m.points) c (omega arith) (omega arith)
      (and_from (not (nat_eq c u)) (nat_lt 0 (tets_at_edge m.tets u c)) (differ c u n) (lt-ltb 0 (tets_at_edge m.tets u c) count))

  pub neighbours-some : IsWellFormed m → 0 < tets_at_point m.tets u → 0 < length (neighbours m u)
  neighbours-some w h =
      let each = Each-both (Cornered (length m.points)) (Among m.tets) m.tets (cornered_tets m w) (among-all m.tets) in
      let x = found (λ x. Cornered (length m.points) x × Among m.tets x) (λ x. has x u) m.tets each h in
      let k = x.1.0 in
      let a : has x.0 k.a ≡ true = ap (λ y. has y k.a) k.is ∙ has_first k.a (k.b ∷ k.c ∷ k.d ∷ []) in
      let b : has x.0 k.b ≡ true = ap (λ y. has y k.b) k.is ∙ second k.a k.b (k.c ∷ k.d ∷ []) in
      elim (cases_eq k.a u) [
        | inl e ↦ some-at x.0 k.b x.1.1 x.2 b (λ f. k.different.ab (e ∙ sym f)) (k.below k.b b)
        | inr n ↦ some-at x.0 k.a x.1.1 x.2 a n (k.below k.a a)
      ]

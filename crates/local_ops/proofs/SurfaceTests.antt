-- When a collapse keeps the tracked faces a surface, by tests.
use Rattle.std.proofs.Common.{◌≡◌, ℕ, ◌<◌, Bool, true, false, not, ◌||◌, ◌&&◌, List, length, refl, sym, ◌∙◌, inl, inr, arith}
use Rattle.std.specs.Prelude.{nat_eq, nat_lt, count_by}
use Rattle.std.specs.List.{list_all, list_any}
use Rattle.std.proofs.lemmas.Bool.{cases_Bool, and_parts, and_from, ltb-true, ltb-false, eqb-true, eqb-false, true≢false}
use Rattle.std.proofs.lemmas.List.Sums.{length-filter}
use Rattle.grid.specs.Meshes.{Mesh}
use Rattle.grid.specs.Rims.{triples_at}
use Rattle.grid.specs.Simplices.{has, replaced, rising, same_triple}
use Rattle.mesh_types.specs.Verdicts.{KeepsSurface}
use Rattle.mesh_types.proofs.ForCallers.{Among, among-filter}
use Rattle.local_ops.specs.Surface.{at_point, is_moved_apart}
use Rattle.local_ops.proofs.Members.{contains-among, among-contains, listed-among, among-listed, filter-both}
use Rattle.local_ops.proofs.NewTets.{all-true, true-at}

module _ (m : Mesh) (u v : ℕ) where
  count_at : length (at_point u m.tracked) ≡ count_by (λ t. has t u) m.tracked
  count_at = length-filter (λ t. has t u) m.tracked

  -- where some has u and none has both
  pub leaves : (n : ℕ) → n ≡ length (at_point u m.tracked) → (nat_lt 0 n && nat_eq (triples_at m.tracked u v) 0) ≡ true → ¬ KeepsSurface m u v
  leaves n e h k =
      let p = and_parts (nat_lt 0 n) (nat_eq (triples_at m.tracked u v) 0) h in
      let some = ltb-true 0 n p.0 in
      let none = eqb-true (triples_at m.tracked u v) 0 p.1 in
      let c = count_at in
      let s = k.stays (omega arith) in
      omega arith

  pub keeps : (n : ℕ) → n ≡ length (at_point u m.tracked) → (nat_lt 0 n && nat_eq (triples_at m.tracked u v) 0) ≡ false → list_all (is_moved_apart m.tracked u v) (at_point u m.tracked) ≡ true → KeepsSurface m u v
  keeps n e h a = record {
    stays = λ some. elim (cases_Bool (nat_eq (triples_at m.tracked u v) 0)) [
      | inl z ↦ let c = count_at in let l : nat_lt 0 n ≡ true = positive n (omega arith) in absurd (true≢false (sym (and_from (nat_lt 0 n) (nat_eq (triples_at m.tracked u v) 0) l z) ∙ h))
      | inr z ↦ above (triples_at m.tracked u v) (eqb-false (triples_at m.tracked u v) 0 z)
    ];
    apart = λ t c p q i.
        let b = true-at (is_moved_apart m.tracked u v) (at_point u m.tracked) t a (among-filter (λ t. has t u) m.tracked t (contains-among m.tracked t c) p) in
        let listed = among-listed m.tracked (rising (replaced u v t)) (contains-among m.tracked (rising (replaced u v t)) i) in
        clash (has t v) (list_any (same_triple (rising (replaced u v t))) m.tracked) q listed b;
  }
    where
      positive : (n : ℕ) → 0 < n → nat_lt 0 n ≡ true
      positive n l = elim (cases_Bool (nat_lt 0 n)) [ inl e ↦ e | inr e ↦ let k = ltb-false 0 n e in absurd (omega arith) ]

      above : (n : ℕ) → (n ≡ 0 → ⊥) → 0 < n
      above n h = grind (arith, h)

      clash : (a b : Bool) → a ≡ false → b ≡ true → (a || not b) ≡ true → ⊥
      clash true b p q r = true≢false p
      clash false true p q r = true≢false (sym r)
      clash false false p q r = true≢false (sym q)

  pub overlaps : list_all (is_moved_apart m.tracked u v) (at_point u m.tracked) ≡ false → ¬ KeepsSurface m u v
  overlaps h k = true≢false (sym (all-true (is_moved_apart m.tracked u v) (at_point u m.tracked) apart) ∙ h)
    where
      either : (a b : Bool) → (a ≡ false → b ≡ true → ⊥) → (a || not b) ≡ true
      either true b f = refl
      either false true f = absurd (f refl refl)
      either false false f = refl

      apart : (t : List ℕ) → Among (at_point u m.tracked) t → is_moved_apart m.tracked u v t ≡ true
      apart t i =
          let b = filter-both (λ t. has t u) m.tracked t i in
          either (has t v) (list_any (same_triple (rising (replaced u v t))) m.tracked)
          (λ p q. k.apart t (among-contains m.tracked t b.0) b.1 p (among-contains m.tracked (rising (replaced u v t)) (listed-among m.tracked (rising (replaced u v t)) q)))

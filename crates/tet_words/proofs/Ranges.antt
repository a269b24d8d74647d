-- Facts of numbers and names that pass their tests.
use Rattle.std.proofs.Common.{◌≡◌, ℕ, suc, zero, ◌≤◌, ◌^◌, Bool, true, false, ◌||◌, List, [], ◌∷◌, All, get_or, refl, sym, ◌∙◌, arith, lit≤, eqb}
use Rattle.std.specs.List.{list_any}
use Rattle.std.specs.Str.{bytes_eq}
use Rattle.std.proofs.lemmas.Bool.{true≢false, eqb-true, or_parts}
use Rattle.std.proofs.lemmas.Bool.Decides.{not_from_Decides}
use Rattle.std.proofs.lemmas.Slice.Eq.{bytes_eq-Decides}
use Rattle.grid.specs.Limits.{IsCells}
use Rattle.tet_words.specs.Numbers.{is_cells}
use Rattle.tet_words.specs.Names.{is_bad, has_equal}
use Rattle.tet_words.specs.Facts.{AreDifferent, AreNames}

-- ---- cells
pub first_or : {P : Type 0} (test others : Bool) → (test ≡ true → P) → (others ≡ true → P) → (test || others) ≡ true → P
first_or true others here there h = here refl
first_or false others here there h = there h

power_of : (n k power : ℕ) → k ≡ 2 ^ power → power ≤ 5 → eqb n k ≡ true → IsCells n
power_of n k power is most same = record { power = power; power_most = most; is = eqb-true n k same ∙ is }

pub is_cells_power : (n : ℕ) → is_cells n ≡ true → IsCells n
is_cells_power n =
    first_or (eqb n 1) _ (power_of n 1 0 refl (lit≤ tt))
    (first_or (eqb n 2) _ (power_of n 2 1 refl (lit≤ tt))
    (first_or (eqb n 4) _ (power_of n 4 2 refl (lit≤ tt))
    (first_or (eqb n 8) _ (power_of n 8 3 refl (lit≤ tt))
    (first_or (eqb n 16) _ (power_of n 16 4 refl (lit≤ tt))
    (first_or (eqb n 32) _ (power_of n 32 5 refl (lit≤ tt)) (λ none. absurd (true≢false (sym none))))))))

-- ---- names
none_any : {X : Type 0} (p : X → Bool) (xs : List X) → list_any p xs ≡ false → All (λ x. p x ≡ false) xs
none_any p [] h k d below = absurd (omega (arith, below))
none_any p (x ∷ xs) h zero d below = (or_parts (p x) (list_any p xs) h).0
none_any p (x ∷ xs) h (suc k) d below = none_any p xs (or_parts (p x) (list_any p xs) h).1 k d (omega (arith, below))

are_different : (names : List (List ℕ)) → has_equal names ≡ false → AreDifferent names
are_different [] h = tt
are_different (name ∷ names) h =
    let parts = or_parts (list_any (bytes_eq name) names) (has_equal names) h in (
      λ k d below. not_from_Decides (bytes_eq name (get_or names k d)) (bytes_eq-Decides name (get_or names k d)) (none_any (bytes_eq name) names parts.0 k d below),
      are_different names parts.1,
    )

pub are_names : (names : List (List ℕ)) → list_any is_bad names ≡ false → has_equal names ≡ false → AreNames names
are_names names bad equal = record { good = none_any is_bad names bad; different = are_different names equal }

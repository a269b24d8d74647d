-- Bounding boxes that meet.
use Rattle.std.proofs.Common.{◌≡◌, ℤ, ◌≤ℤ◌, Bool, true, ◌&&◌, ◌||◌, int_le, List, [], ◌∷◌, map, refl, sym, ap₂, ◌∙◌, arith}
use Rattle.std.specs.List.{list_any}
use Rattle.std.proofs.lemmas.Int.{ints}
use Rattle.std.proofs.lemmas.List.Elements.{All-contains}
use Rattle.std.proofs.lemmas.List.Folds.{Any-from_list_any, list_any-from_Any}
use Rattle.grid.specs.declared.shapes.Point.{Point}
use Rattle.mesh_types.specs.CuttingRule.{ranges_meet, boxes_meet}
use Rattle.grid.proofs.ForCallers.{same_bools, any-map}
use Rattle.cutting_rule.specs.Bounds.{AreEnds, AreBounds, overlaps, is_met}

pub le-true : (a b : ℤ) → a ≤ℤ b → int_le a b ≡ true
le-true a b h = grind (arith, ints)

true-le : (a b : ℤ) → int_le a b ≡ true → a ≤ℤ b
true-le a b h = grind (arith, ints)

le-trans : (a b c : ℤ) → a ≤ℤ b → b ≤ℤ c → a ≤ℤ c
le-trans a b c h k = omega (arith, ints)

some_above : (lo hi : ℤ) (ws : List ℤ) → AreEnds lo hi ws → (v : ℤ) → list_any (λ w. int_le v w) ws ≡ int_le v hi
some_above lo hi ws h v =
    same_bools _ _
    (λ e. let a = Any-from_list_any (λ w. int_le v w) ws e in le-true v hi (le-trans v a.1 hi (true-le v a.1 a.4) (All-contains (λ w. w ≤ℤ hi) ws a.1 h.hi_greatest (a.0, a.2, a.3))))
    (λ e. list_any-from_Any (λ w. int_le v w) ws (h.hi_among.0, hi, h.hi_among.1, h.hi_among.2, e))

some_below : (lo hi : ℤ) (ws : List ℤ) → AreEnds lo hi ws → (v : ℤ) → list_any (λ w. int_le w v) ws ≡ int_le lo v
some_below lo hi ws h v =
    same_bools _ _
    (λ e. let a = Any-from_list_any (λ w. int_le w v) ws e in le-true lo v (le-trans lo a.1 v (All-contains (λ w. lo ≤ℤ w) ws a.1 h.lo_least (a.0, a.2, a.3)) (true-le a.1 v a.4)))
    (λ e. list_any-from_Any (λ w. int_le w v) ws (h.lo_among.0, lo, h.lo_among.1, h.lo_among.2, e))

any-same : {X : Type 0} (p q : X → Bool) → ((x : X) → p x ≡ q x) → (xs : List X) → list_any p xs ≡ list_any q xs
any-same p q e [] = refl
any-same p q e (x ∷ xs) = ap₂ (λ (a b : Bool). a || b) (e x) (any-same p q e xs)

pub ends-rise : (lo hi : ℤ) (ws : List ℤ) → AreEnds lo hi ws → int_le lo hi ≡ true
ends-rise lo hi ws h = le-true lo hi (All-contains (λ v. lo ≤ℤ v) ws hi h.lo_least h.hi_among)

pub range-met : (lo hi : ℤ) (ws vs : List ℤ) → AreEnds lo hi ws → (list_any (λ v. int_le v hi) vs && list_any (λ v. int_le lo v) vs) ≡ ranges_meet vs ws
range-met lo hi ws vs h =
    ap₂ (λ (a b : Bool). a && b)
    (any-same (λ v. int_le v hi) (λ v. list_any (λ w. int_le v w) ws) (λ v. sym (some_above lo hi ws h v)) vs)
    (any-same (λ v. int_le lo v) (λ v. list_any (λ w. int_le w v) ws) (λ v. sym (some_below lo hi ws h v)) vs)

overlaps-ranges : (f : Point → ℤ) (lo hi : ℤ) (ws : List ℤ) (ps : List Point) → AreEnds lo hi ws → overlaps f lo hi ps ≡ ranges_meet (map f ps) ws
overlaps-ranges f lo hi ws ps h = sym (ap₂ (λ (a b : Bool). a && b) (any-map (λ v. int_le v hi) f ps) (any-map (λ v. int_le lo v) f ps)) ∙ range-met lo hi ws (map f ps) h

pub is_met-boxes : (lo hi : Point) (qs ps : List Point) → AreBounds lo hi qs → is_met lo hi ps ≡ boxes_meet ps qs
unfolding boxes_meet
is_met-boxes lo hi qs ps h = λ i.
    (overlaps-ranges (λ p. p.x) lo.x hi.x (map (λ p. p.x) qs) ps h.x_ends i)
    && (overlaps-ranges (λ p. p.y) lo.y hi.y (map (λ p. p.y) qs) ps h.y_ends i)
    && (overlaps-ranges (λ p. p.z) lo.z hi.z (map (λ p. p.z) qs) ps h.z_ends i)

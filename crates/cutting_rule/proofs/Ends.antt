-- The ends of ranges, and boxes that meet.
use Rattle.std.proofs.Common.{◌≡◌, suc, ℤ, pos, ◌≤ℤ◌, List, [], ◌∷◌, map, length, get_or, refl, sym, ap, subst, All}
use Rattle.std.specs.List.{Contains}
use Rattle.grid.specs.declared.shapes.Point.{Point}
use Rattle.cutting_rule.specs.Bounds.{AreEnds, AreBounds}

pub ends : (lo hi : ℤ) (values : List ℤ) (l h : ℤ) → l ≡ lo → h ≡ hi → Contains values lo → All (λ v. lo ≤ℤ v) values → Contains values hi → All (λ v. v ≤ℤ hi) values → AreEnds l h values
ends lo hi values l h e f a b c d =
    subst (λ x. AreEnds x h values) (sym e) (subst (λ x. AreEnds lo x values) (sym f) (record { lo_among = a; hi_among = c; lo_least = b; hi_greatest = d }))

three_at : (P : List ℤ → Type 0) (vs : List ℤ) → length vs ≡ 3 → P (get_or vs 0 (pos 0) ∷ get_or vs 1 (pos 0) ∷ get_or vs 2 (pos 0) ∷ []) → P vs
three_at P [] e h = cc e
three_at P (a ∷ []) e h = cc e
three_at P (a ∷ b ∷ []) e h = cc e
three_at P (a ∷ b ∷ c ∷ []) e h = h
three_at P (a ∷ b ∷ c ∷ d ∷ vs) e h = cc e

pub three : (P : List ℤ → Type 0) (vs : List ℤ) (a b c : ℤ) → length vs ≡ 3 → a ≡ get_or vs 0 (pos 0) → b ≡ get_or vs 1 (pos 0) → c ≡ get_or vs 2 (pos 0) → P (a ∷ b ∷ c ∷ []) → P vs
three P vs a b c long ea eb ec h = three_at P vs long (subst (λ x. P (x ∷ get_or vs 1 (pos 0) ∷ get_or vs 2 (pos 0) ∷ [])) ea (subst (λ x. P (a ∷ x ∷ get_or vs 2 (pos 0) ∷ [])) eb (subst (λ x. P (a ∷ b ∷ x ∷ [])) ec h)))

pub bounds : (x y z p q r : ℤ) (lo hi : Point) (ps : List Point) (xs ys zs : List ℤ) → lo ≡ record { x = x; y = y; z = z } → hi ≡ record { x = p; y = q; z = r } → xs ≡ map (λ (p : Point). p.x) ps → ys ≡ map (λ (p : Point). p.y) ps → zs ≡ map (λ (p : Point). p.z) ps → AreEnds x p xs → AreEnds y q ys → AreEnds z r zs → AreBounds lo hi ps
bounds x y z p q r lo hi ps xs ys zs el eh ex ey ez a b c =
    subst (λ l. AreBounds l hi ps) (sym el) (subst (λ h. AreBounds (record { x = x; y = y; z = z }) h ps) (sym eh) (record {
      x_ends = subst (AreEnds x p) ex a;
      y_ends = subst (AreEnds y q) ey b;
      z_ends = subst (AreEnds z r) ez c;
    }))

pub length-mapped : (f : Point → ℤ) (ps : List Point) → length (map f ps) ≡ length ps
length-mapped f [] = refl
length-mapped f (p ∷ ps) = ap suc (length-mapped f ps)

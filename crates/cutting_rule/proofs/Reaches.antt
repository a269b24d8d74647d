-- The box about a triangle: it has the bounding box, and each point of the section.
use Rattle.std.proofs.Common.{◌≡◌, ℕ, ℤ, ◌≤ℤ◌, Bool, true, int_le, List, [], ◌∷◌, inl, inr, sym, ◌∙◌, arith}
use Rattle.std.specs.List.{list_any}
use Rattle.std.proofs.lemmas.Bool.{or_left, or_right, or_cases, true≢false, false_from_ne_true, and_parts, and_from}
use Rattle.std.proofs.lemmas.Int.{ints}
use Rattle.grid.specs.declared.shapes.Point.{Point}
use Rattle.grid.specs.declared.shapes.Tri.{Tri}
use Rattle.grid.specs.Boxes.{IsUpTo, IsInBox}
use Rattle.grid.specs.Limits.{largest_side}
use Rattle.mesh_types.specs.CuttingRule.{is_in_section}
use Rattle.cutting_rule.specs.Bounds.{AreBounds, overlaps, is_met}
use Rattle.cutting_rule.specs.Section.{IsWithin}
use Rattle.cutting_rule.specs.Spread.{IsSpread, IsSpreadBox}
use Rattle.cutting_rule.specs.Touching.{IsReach}
use Rattle.cutting_rule.proofs.Meeting.{ends-rise, is_met-boxes}

any-more : {X : Type 0} (p q : X → Bool) → ((x : X) → p x ≡ true → q x ≡ true) → (xs : List X) → list_any p xs ≡ true → list_any q xs ≡ true
any-more p q f [] e = e
any-more p q f (x ∷ xs) e = elim (or_cases (p x) (list_any p xs) e) [
  | inl h ↦ or_left (q x) (list_any q xs) (f x h)
  | inr h ↦ or_right (q x) (list_any q xs) (any-more p q f xs h)
]

le-less : (a b c : ℤ) → a ≤ℤ b → int_le b c ≡ true → int_le a c ≡ true
le-less a b c h k = grind (arith, ints)

le-more : (a b c : ℤ) → b ≤ℤ c → int_le a b ≡ true → int_le a c ≡ true
le-more a b c h k = grind (arith, ints)

overlaps-more : (f : Point → ℤ) (lo hi l h : ℤ) → l ≤ℤ lo → hi ≤ℤ h → (ps : List Point) → overlaps f lo hi ps ≡ true → overlaps f l h ps ≡ true
overlaps-more f lo hi l h low high ps e =
    and_from _ _
    (any-more (λ p. int_le (f p) hi) (λ p. int_le (f p) h) (λ p k. le-more (f p) hi h high k) ps (and_parts _ _ e).0)
    (any-more (λ p. int_le lo (f p)) (λ p. int_le l (f p)) (λ p k. le-less l lo (f p) low k) ps (and_parts _ _ e).1)

-- an end of the wider range is beyond that of the narrower
spread-low : (lo hi : ℤ) (wide area : ℕ) (l h : ℤ) → IsUpTo largest_side lo → IsSpread lo hi wide area l h → l ≤ℤ lo
spread-low lo hi wide area l h within s = let low = within.low in s.low lo (omega (arith, ints, low)) (omega (arith, ints))

spread-high : (lo hi : ℤ) (wide area : ℕ) (l h : ℤ) → IsUpTo largest_side hi → IsSpread lo hi wide area l h → hi ≤ℤ h
spread-high lo hi wide area l h within s = let high = within.high in s.high hi (omega (arith, ints, high)) (omega (arith, ints))

rise : (lo hi l h : ℤ) → l ≤ℤ lo → hi ≤ℤ h → int_le lo hi ≡ true → l ≤ℤ h
rise lo hi l h low high e = grind (arith, ints)

pub reach-is : (t : Tri) (lo hi l h : Point) (wide area : ℕ) → AreBounds lo hi t.0 → IsInBox largest_side lo → IsInBox largest_side hi → IsSpreadBox lo hi wide area l h → ((p : Point) → IsInBox largest_side p → is_in_section t p ≡ true → IsWithin l h p) → IsReach t l h
reach-is t lo hi l h wide area bounds lo_in hi_in s inside =
    let x_low = spread-low lo.x hi.x wide area l.x h.x lo_in.x_in s.x_spread in
    let y_low = spread-low lo.y hi.y wide area l.y h.y lo_in.y_in s.y_spread in
    let z_low = spread-low lo.z hi.z wide area l.z h.z lo_in.z_in s.z_spread in
    let x_high = spread-high lo.x hi.x wide area l.x h.x hi_in.x_in s.x_spread in
    let y_high = spread-high lo.y hi.y wide area l.y h.y hi_in.y_in s.y_spread in
    let z_high = spread-high lo.z hi.z wide area l.z h.z hi_in.z_in s.z_spread in
    let more : (ps : List Point) → is_met lo hi ps ≡ true → is_met l h ps ≡ true =
    λ ps e.
    and_from _ _
    (and_from _ _
    (overlaps-more (λ p. p.x) lo.x hi.x l.x h.x x_low x_high ps (and_parts _ _ (and_parts _ _ e).0).0)
    (overlaps-more (λ p. p.y) lo.y hi.y l.y h.y y_low y_high ps (and_parts _ _ (and_parts _ _ e).0).1))
    (overlaps-more (λ p. p.z) lo.z hi.z l.z h.z z_low z_high ps (and_parts _ _ e).1) in
    record {
      x_ordered = rise lo.x hi.x l.x h.x x_low x_high (ends-rise lo.x hi.x _ bounds.x_ends);
      y_ordered = rise lo.y hi.y l.y h.y y_low y_high (ends-rise lo.y hi.y _ bounds.y_ends);
      z_ordered = rise lo.z hi.z l.z h.z z_low z_high (ends-rise lo.z hi.z _ bounds.z_ends);
      meeting = λ ps e. sym (is_met-boxes lo hi t.0 ps bounds) ∙ false_from_ne_true (is_met lo hi ps) (λ f. true≢false (sym (more ps f) ∙ e));
      section = inside;
    }

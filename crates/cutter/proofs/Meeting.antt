-- Tetrahedra of slots that meet a box about a triangle and touch its plane.
use Rattle.std.proofs.Common.{◌≡◌, ℤ, ◌≤ℤ◌, Bool, true, false, ◌&&◌, int_le, List, map, refl, sym, ap, ap₂, ◌∙◌}
use Rattle.std.proofs.lemmas.Bool.{and_parts}
use Rattle.grid.specs.declared.shapes.Point.{Point}
use Rattle.grid.specs.declared.shapes.Tri.{Tri}
use Rattle.grid.proofs.ForCallers.{any-map}
use Rattle.mesh_types.specs.Phases.{points_of}
use Rattle.tet_slots.specs.declared.slot.Slot.{Slot}
use Rattle.tet_slots.specs.Searches.{overlaps, meets, meets_box}
use Rattle.cutting_rule.specs.Bounds.{overlaps as overlap_along, is_met}
use Rattle.cutting_rule.specs.Touching.{touches, IsReach}
use Rattle.cutting_rule.proofs.ForCallers.{le-true}
use Rattle.cutter.specs.Found.{is_touching}

true-and : (p q : Bool) → p ≡ true → (p && q) ≡ q
true-and true q e = refl
true-and false q e = cc

range-met : (f : Point → ℤ) (lo hi : ℤ) (ps : List Point) → lo ≤ℤ hi → overlaps lo hi (map f ps) ≡ overlap_along f lo hi ps
unfolding overlaps
range-met f lo hi ps h =
    true-and (int_le lo hi) _ (le-true lo hi h)
    ∙ ap₂ (λ (a b : Bool). a && b) (any-map (λ v. int_le v hi) f ps) (any-map (λ v. int_le lo v) f ps)

-- the box is met in both senses
pub box-met : (t : Tri) (lo hi : Point) (ps : List Point) → IsReach t lo hi → meets_box lo hi ps ≡ is_met lo hi ps
unfolding meets_box
box-met t lo hi ps h = λ i.
    (range-met (λ p. p.x) lo.x hi.x ps h.x_ordered i)
    && (range-met (λ p. p.y) lo.y hi.y ps h.y_ordered i)
    && (range-met (λ p. p.z) lo.z hi.z ps h.z_ordered i)

-- of the slots that a search of the box finds, those that touch the plane
pub touching-met : (points : List Point) (t : Tri) (lo hi : Point) (s : Slot) → IsReach t lo hi → is_touching points t lo hi s ≡ (touches t (points_of points s.tet.0) && meets points lo hi s)
touching-met points t lo hi s h =
    move s.live (is_met lo hi (points_of points s.tet.0)) (touches t (points_of points s.tet.0))
    ∙ ap (λ (b : Bool). touches t (points_of points s.tet.0) && (s.live && b)) (sym (box-met t lo hi (points_of points s.tet.0) h))
  where
    move : (a b c : Bool) → (a && (b && c)) ≡ (c && (a && b))
    move true true true = refl
    move true true false = refl
    move true false true = refl
    move true false false = refl
    move false b true = refl
    move false b false = refl

pub live-touching : (points : List Point) (t : Tri) (lo hi : Point) (s : Slot) → is_touching points t lo hi s ≡ true → s.live ≡ true
live-touching points t lo hi s m = (and_parts s.live _ m).0

pub not-touching : (points : List Point) (t : Tri) (lo hi : Point) (s : Slot) → s.live ≡ true → is_touching points t lo hi s ≡ false → (is_met lo hi (points_of points s.tet.0) && touches t (points_of points s.tet.0)) ≡ false
not-touching points t lo hi s live m = at s.live _ live m
  where
    at : (p q : Bool) → p ≡ true → (p && q) ≡ false → q ≡ false
    at true q e f = f
    at false q e f = cc

-- The tests of the cutting rule by the sides on which points lie.
use Rattle.std.proofs.Common.{◌≡◌, ℕ, ◌<◌, zero, suc, ℤ, pos, Bool, true, false, not, ◌&&◌, List, refl, arith}
use Rattle.std.specs.Int.Signed.{lt_z}
use Rattle.std.specs.Ordering.{int_eq}
use Rattle.std.specs.List.{list_all}
use Rattle.std.proofs.lemmas.Bool.Decides.{Decides-int_eq}
use Rattle.std.proofs.lemmas.Int.{ints}
use Rattle.grid.specs.declared.shapes.Point.{Point}
use Rattle.grid.specs.declared.shapes.Tri.{Tri}
use Rattle.grid.specs.Planes.{Plane, side_plane, snap_sign}
use Rattle.grid.proofs.ForCallers.{same_bools}
use Rattle.mesh_types.specs.CuttingRule.{lies_below, lies_above, lies_on, splits, reaches, boxes_meet, section_plane, phase_plane, is_wanted, is_crossed}

on-sign : (s : ℤ) → int_eq s (pos 0) ≡ (not (lt_z s (pos 0)) && not (lt_z (pos 0) s))
on-sign s = same_bools _ _ (λ e. to s ((Decides-int_eq s (pos 0)).0 e)) (λ e. (Decides-int_eq s (pos 0)).1 (from s e))
  where
    to : (s : ℤ) → s ≡ pos 0 → (not (lt_z s (pos 0)) && not (lt_z (pos 0) s)) ≡ true
    to s e = rw e refl

    from : (s : ℤ) → (not (lt_z s (pos 0)) && not (lt_z (pos 0) s)) ≡ true → s ≡ pos 0
    from s e = grind (arith, ints)

pub on-sides : (m : Plane) (p : Point) → lies_on m p ≡ (not (lies_below m p) && not (lies_above m p))
unfolding lies_on lies_below lies_above
on-sides m p = on-sign (snap_sign m p)

and_move : (a b c d : Bool) → (a && b && c && d) ≡ (c && (b && (d && a)))
and_move true true true true = refl
and_move true true true false = refl
and_move true true false d = refl
and_move true false true d = refl
and_move true false false d = refl
and_move false b true true = both b
  where
    both : (b : Bool) → false ≡ (b && false)
    both true = refl
    both false = refl
and_move false b true false = both b
  where
    both : (b : Bool) → false ≡ (b && false)
    both true = refl
    both false = refl
and_move false b false d = refl

-- what a phase after the first wants
pub wanted-later : (t : Tri) (i : ℕ) (corners ends : List Point) → 0 < i → is_wanted t i corners ends ≡ (splits (phase_plane t i) ends && (list_all (lies_on (section_plane t)) ends && (reaches t ends && boxes_meet ends t.0)))
unfolding is_wanted
wanted-later t zero corners ends h = absurd (omega arith)
wanted-later t (suc i) corners ends h = and_move (boxes_meet ends t.0) (list_all (lies_on (section_plane t)) ends) (splits (side_plane t i) ends) (reaches t ends)

-- what the first phase wants in a crossed tetrahedron
pub wanted-first : (t : Tri) (corners ends : List Point) → is_crossed t corners ≡ true → is_wanted t 0 corners ends ≡ splits (phase_plane t 0) ends
unfolding is_wanted
wanted-first t corners ends h = first (is_crossed t corners) (splits (section_plane t) ends) h
  where
    first : (a b : Bool) → a ≡ true → (a && b) ≡ b
    first true b e = refl
    first false b e = cc

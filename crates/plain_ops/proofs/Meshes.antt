-- Meshes of lists, and what the phases keep of them.
use Rattle.std.proofs.Common.{◌≡◌, ℕ, ◌*◌, ◌≤◌, ◌^◌, ℤ, pos, negsuc, ◌≤ℤ◌, nat_abs, List, [], ◌∷◌, ◌++◌, map, length, get_or, All, sym, ap, ◌∙◌, subst, arith, length-append}
use Rattle.std.specs.List.{flat_map, AllByRecursion as Each}
use Rattle.std.proofs.lemmas.Int.{ints}
use Rattle.std.proofs.lemmas.List.{length-map}
use Rattle.std.proofs.lemmas.List.Elements.{All-from_recursion, recursion_from_All}
use Rattle.grid.specs.declared.shapes.Point.{Point}
use Rattle.grid.specs.declared.shapes.Tet.{Tet}
use Rattle.grid.specs.declared.shapes.Tri.{Tri}
use Rattle.grid.specs.Boxes.{IsInBox, IsUpTo}
use Rattle.grid.specs.Meshes.{Mesh, IsWellFormed, IsWithinLimits}
use Rattle.grid.specs.Simplices.{IsTet}
use Rattle.grid.specs.Views.{corners_of}
use Rattle.grid.specs.Limits.{largest_side}
use Rattle.mesh_types.specs.declared.cut.Cut.{Cut}
use Rattle.mesh_types.specs.declared.lists.Lists.{Lists}
use Rattle.mesh_types.specs.Phases.{phase, wanted, wanted_in, wanted_cuts}
use Rattle.mesh_types.specs.Refines.{refine}
use Rattle.mesh_types.specs.Views.{mesh_of}
use Rattle.grid.proofs.ForCallers.{Each-tet}
use Rattle.cutting_rule.proofs.ForCallers.{length-once, length-wanted_in, wanted_cuts-in}

-- ---- tetrahedra of the code
pub tets-are : (m : Lists) (points : List Point) (ts : List Tet) → points ≡ m.points → ts ≡ m.tets → IsWellFormed (mesh_of m) → All (λ (x : Tet). IsTet (length points) x.0) ts
tets-are m points ts e f w =
    subst (λ (ps : List Point). All (λ (x : Tet). IsTet (length ps) x.0) ts) (sym e)
    (subst (All (λ (x : Tet). IsTet (length m.points) x.0)) (sym f)
    (All-from_recursion (λ (x : Tet). IsTet (length m.points) x.0) m.tets (Each-tet (IsTet (length m.points)) m.tets (recursion_from_All (IsTet (length m.points)) (corners_of m.tets) w.tets_are))))

-- ---- few edges are wanted
length-all : (points : List Point) (t : Tri) (i : ℕ) (tets : List (List ℕ)) → length (flat_map (wanted_in points t i) tets) ≤ 6 * length tets
length-all points t i [] = omega arith
length-all points t i (x ∷ tets) = omega (arith, length-append (wanted_in points t i x) (flat_map (wanted_in points t i) tets), length-wanted_in points t i x, length-all points t i tets)

length-wanted : (m : Mesh) (t : Tri) (i : ℕ) → length (wanted m t i) ≤ 6 * length m.tets
unfolding wanted
length-wanted m t i = omega (arith, length-once (flat_map (wanted_in m.points t i) m.tets), length-all m.points t i m.tets)

pub few-cuts : (m : Mesh) (t : Tri) (i : ℕ) (cuts : List Cut) → cuts ≡ wanted_cuts m t i → IsWellFormed m → IsWithinLimits m → length cuts ≤ 2 ^ 31
unfolding wanted_cuts
few-cuts m t i cuts e w h =
    let same : length cuts ≡ length (wanted m t i) = ap length e ∙ length-map (wanted m t i) _ in
    let most = length-wanted m t i in
    let made = w.made_is in
    let few = h.made_few in
    omega (arith, same, most, made, few)

-- ---- points in the box
each-both : (P : Point → Type 0) (xs ys : List Point) → Each P xs → Each P ys → Each P (xs ++ ys)
each-both P [] ys h k = k
each-both P (x ∷ xs) ys h k = (h.0, each-both P xs ys h.1 k)

each-points : (n : ℕ) (es : List Cut) → Each (λ (e : Cut). IsInBox n e.at) es → Each (IsInBox n) (map (λ (e : Cut). e.at) es)
each-points n [] h = tt
each-points n (e ∷ es) h = (h.0, each-points n es h.1)

pub phase-in : (m : Mesh) (t : Tri) (i n : ℕ) → IsWellFormed m → All (IsInBox n) m.points → All (IsInBox n) (phase m t i).points
unfolding refine
phase-in m t i n w h =
    All-from_recursion (IsInBox n) (m.points ++ map (λ (e : Cut). e.at) (wanted_cuts m t i))
    (each-both (IsInBox n) m.points (map (λ (e : Cut). e.at) (wanted_cuts m t i)) (recursion_from_All (IsInBox n) m.points h)
    (each-points n (wanted_cuts m t i) (recursion_from_All (λ (e : Cut). IsInBox n e.at) (wanted_cuts m t i) (wanted_cuts-in m t i n w.tets_are h))))

-- a box on the grid
up-to : (side : ℤ) (z : ℤ) → pos 0 ≤ℤ side → side ≤ℤ pos largest_side → IsUpTo (nat_abs side) z → IsUpTo largest_side z
up-to (pos n) z low high h = record { low = h.low; high = omega (arith, ints, h.high, high) }
up-to (negsuc n) z low high h = absurd (omega (arith, ints, low))

pub on-grid : (side : ℤ) (points : List Point) → pos 0 ≤ℤ side → side ≤ℤ pos largest_side → All (IsInBox (nat_abs side)) points → All (IsInBox largest_side) points
on-grid side points low high h k d lt =
    let p = h k d lt in
    record { x_in = up-to side (get_or points k d).x low high p.x_in; y_in = up-to side (get_or points k d).y low high p.y_in; z_in = up-to side (get_or points k d).z low high p.z_in }

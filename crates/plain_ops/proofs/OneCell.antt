-- The lattice of side 16 with one cell, and the mesh after the split of its diagonal.
use Rattle.std.proofs.Common.{◌≡◌, ℕ, ◌<◌, ◌≤◌, ◌&&◌, false, true, List, [], ◌∷◌, ◌++◌, ◌∙◌, Option, Some, IfSome, All, refl, sym, subst, arith}
use Rattle.std.specs.Prelude.{nat_lt}
use Rattle.std.proofs.lemmas.Bool.{and_parts, ltb-true}
use Rattle.std.proofs.lemmas.Int.{ints}
use Rattle.std.proofs.lemmas.List.Elements.{All-from_recursion}
use Rattle.grid.specs.Boxes.{IsInBox}
use Rattle.grid.specs.Determinants.{det}
use Rattle.grid.specs.Meshes.{Mesh, IsWellFormed, IsWithinLimits, IsTriple}
use Rattle.grid.specs.Simplices.{has, IsTet}
use Rattle.mesh_types.specs.declared.lists.Lists.{Lists}
use Rattle.mesh_types.specs.declared.tries.Try.{Try}
use Rattle.mesh_types.specs.declared.tries.Try.TheVariants.{Split, Shift, Collapse}
use Rattle.mesh_types.specs.declared.tries.Verdict.TheVariants.{Kept}
use Rattle.mesh_types.specs.Journals.{AllPositive, after, line}
use Rattle.mesh_types.specs.Lattice.{lattice, lattice_points, lattice_tets, point}
use Rattle.mesh_types.specs.Refines.{refine}
use Rattle.mesh_types.specs.Results.{split}
use Rattle.mesh_types.specs.Tries.{is_candidate}
use Rattle.mesh_types.specs.Views.{mesh_of}
use Rattle.mesh_types.proofs.ForCallers.{positive_test}

four : (n a b c d : ℕ) → has (b ∷ c ∷ d ∷ []) a ≡ false → has (c ∷ d ∷ []) b ≡ false → has (d ∷ []) c ≡ false → (nat_lt a n && (nat_lt b n && (nat_lt c n && nat_lt d n))) ≡ true
    → IsTet n (a ∷ b ∷ c ∷ d ∷ [])
four n a b c d e f g h =
    let p = and_parts (nat_lt a n) (nat_lt b n && (nat_lt c n && nat_lt d n)) h in
    let q = and_parts (nat_lt b n) (nat_lt c n && nat_lt d n) p.1 in
    let r = and_parts (nat_lt c n) (nat_lt d n) q.1 in
    record {
      four = refl;
      different = (e, (f, (g, (refl, tt))));
      in_range = All-from_recursion (λ c. c < n) (a ∷ b ∷ c ∷ d ∷ []) (ltb-true a n p.0, (ltb-true b n q.0, (ltb-true c n r.0, (ltb-true d n r.1, tt))));
    }

pub well_formed : IsWellFormed (lattice 16 1)
unfolding lattice
well_formed = record {
  tets_are = All-from_recursion (IsTet 8) (lattice_tets 1)
      (four 8 0 1 3 7 refl refl refl refl, (four 8 0 5 1 7 refl refl refl refl, (four 8 0 3 2 7 refl refl refl refl, (four 8 0 2 6 7 refl refl refl refl, (four 8 0 4 5 7 refl refl refl refl, (four 8 0 6 4 7 refl refl refl refl, tt))))));
  triples_are = All-from_recursion (IsTriple 8) [] tt;
  ordered = tt;
  made_is = omega arith;
}

pub within : IsWithinLimits (lattice 16 1)
unfolding lattice
within = record { points_few = omega arith; made_few = omega arith }

corner : (x y z : ℕ) → x ≤ 16 → y ≤ 16 → z ≤ 16 → IsInBox 16 (point x y z)
corner x y z a b c = record {
  x_in = record { low = omega (arith, ints); high = omega (arith, ints, a) };
  y_in = record { low = omega (arith, ints); high = omega (arith, ints, b) };
  z_in = record { low = omega (arith, ints); high = omega (arith, ints, c) };
}

low : 0 ≤ 16
low = omega arith

high : 16 ≤ 16
high = omega arith

pub in_box : All (IsInBox 16) (lattice 16 1).points
unfolding lattice
in_box = All-from_recursion (IsInBox 16) (lattice_points 16 1)
    (corner 0 0 0 low low low, (corner 16 0 0 high low low, (corner 0 16 0 low high low, (corner 16 16 0 high high low, (corner 0 0 16 low low high, (corner 16 0 16 high low high, (corner 0 16 16 low high high, (corner 16 16 16 high high high, tt))))))))

pub positive : AllPositive (lattice 16 1)
unfolding lattice det
positive = positive_test (lattice_points 16 1) (lattice_tets 1) refl

-- ---- after the split
split_tets : List (List ℕ)
split_tets =
    (8 ∷ 1 ∷ 3 ∷ 7 ∷ []) ∷
    (0 ∷ 1 ∷ 3 ∷ 8 ∷ []) ∷
    (8 ∷ 5 ∷ 1 ∷ 7 ∷ []) ∷
    (0 ∷ 5 ∷ 1 ∷ 8 ∷ []) ∷
    (8 ∷ 3 ∷ 2 ∷ 7 ∷ []) ∷
    (0 ∷ 3 ∷ 2 ∷ 8 ∷ []) ∷
    (8 ∷ 2 ∷ 6 ∷ 7 ∷ []) ∷
    (0 ∷ 2 ∷ 6 ∷ 8 ∷ []) ∷
    (8 ∷ 4 ∷ 5 ∷ 7 ∷ []) ∷
    (0 ∷ 4 ∷ 5 ∷ 8 ∷ []) ∷
    (8 ∷ 6 ∷ 4 ∷ 7 ∷ []) ∷
    (0 ∷ 6 ∷ 4 ∷ 8 ∷ []) ∷ []

pub split_cell : Mesh
split_cell = record { points = lattice_points 16 1 ++ point 8 8 8 ∷ []; tets = split_tets; tracked = []; made = 18 }

pub is_split : after 16 (lattice 16 1) (line (Split 0 7) Kept) ≡ split_cell
unfolding lattice refine split split_tets split_cell
is_split = refl

pub split-well_formed : IsWellFormed split_cell
unfolding split_tets split_cell
split-well_formed = record {
  tets_are = All-from_recursion (IsTet 9) split_tets
      (four 9 8 1 3 7 refl refl refl refl, (four 9 0 1 3 8 refl refl refl refl, (four 9 8 5 1 7 refl refl refl refl, (four 9 0 5 1 8 refl refl refl refl, (four 9 8 3 2 7 refl refl refl refl, (four 9 0 3 2 8 refl refl refl refl, (four 9 8 2 6 7 refl refl refl refl, (four 9 0 2 6 8 refl refl refl refl, (four 9 8 4 5 7 refl refl refl refl, (four 9 0 4 5 8 refl refl refl refl, (four 9 8 6 4 7 refl refl refl refl, (four 9 0 6 4 8 refl refl refl refl, tt))))))))))));
  triples_are = All-from_recursion (IsTriple 9) [] tt;
  ordered = tt;
  made_is = omega arith;
}

pub split-within : IsWithinLimits split_cell
unfolding split_tets split_cell
split-within = record { points_few = omega arith; made_few = omega arith }

eight : 8 ≤ 16
eight = omega arith

pub split-in_box : All (IsInBox 16) split_cell.points
unfolding split_cell
split-in_box = All-from_recursion (IsInBox 16) (lattice_points 16 1 ++ point 8 8 8 ∷ [])
    (corner 0 0 0 low low low, (corner 16 0 0 high low low, (corner 0 16 0 low high low, (corner 16 16 0 high high low, (corner 0 0 16 low low high, (corner 16 0 16 high low high, (corner 0 16 16 low high high, (corner 16 16 16 high high high, (corner 8 8 8 eight eight eight, tt)))))))))

pub split-positive : AllPositive split_cell
unfolding split_tets split_cell det
split-positive = positive_test (lattice_points 16 1 ++ point 8 8 8 ∷ []) split_tets refl

-- ---- candidates of the mesh after the split
pub moves_in : is_candidate split_cell.tets (Collapse 8 0) ≡ true
unfolding split_tets split_cell
moves_in = refl

pub moves_out : is_candidate split_cell.tets (Collapse 0 8) ≡ true
unfolding split_tets split_cell
moves_out = refl

pub shifts : is_candidate split_cell.tets (Shift 8 0) ≡ true
unfolding split_tets split_cell
shifts = refl

pub split-candidate : (o : Option Lists) (m : Lists) (t : Try) → o ≡ Some m → IfSome o (λ n. mesh_of n ≡ after 16 (lattice 16 1) (line (Split 0 7) Kept)) → is_candidate split_cell.tets t ≡ true
    → is_candidate (mesh_of m).tets t ≡ true
split-candidate o m t some same h =
    let e : mesh_of m ≡ after 16 (lattice 16 1) (line (Split 0 7) Kept) = subst (λ (p : Option Lists). IfSome p (λ n. mesh_of n ≡ after 16 (lattice 16 1) (line (Split 0 7) Kept))) some same in
    subst (λ (n : Mesh). is_candidate n.tets t ≡ true) (sym (e ∙ is_split)) h
